use mathlib.Core.Path.{◌≡◌}
use Prim.Native.Nat.{◌-◌, ◌≤◌}
use lib.ListN.{length}
use Rattle.model.specs.Snapshots.{those_from}
use Rattle.snapshot_writer.specs.Writer.{stored_in}
use Rattle.snapshot_writer.proofs.LawsRows.{Gathering}
use Rattle.snapshot_writer.proofs.Stored.gather.Given as goal

abbrev pub invariant-loop-i : goal.invariant-loop-i
invariant-loop-i l =
    ((length l.list ≡ length l.initial.list) × ((l.n ≤ 5) × (l.i ≤ l.self.ids)))
    × Gathering (stored_in l.self.ids l.self.id_marks.now l.self.locations.now l.self.tallies.now) l.self.ids l.i (those_from (stored_in l.self.ids l.self.id_marks.now l.self.locations.now l.self.tallies.now) (l.self.ids - l.from) l.from) l.list l.n

abbrev pub decreases-loop-i : goal.decreases-loop-i
decreases-loop-i l = l.self.ids - l.i
