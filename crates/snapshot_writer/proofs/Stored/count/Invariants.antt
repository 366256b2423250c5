use mathlib.Core.Path.{◌≡◌}
use Prim.Native.Nat.{◌+◌, ◌-◌, ◌≤◌}
use lib.ListN.{length}
use Rattle.model.specs.Snapshots.{those_from}
use Rattle.snapshot_writer.specs.Writer.{stored_in}
use Rattle.snapshot_writer.proofs.Stored.count.Given as goal

abbrev pub invariant-loop-i : goal.invariant-loop-i
invariant-loop-i l =
    ((l.n ≤ l.i) × (l.i ≤ l.self.ids)) × (l.n + length (those_from (stored_in l.self.ids l.self.id_marks.now l.self.locations.now l.self.tallies.now) (l.self.ids - l.i) l.i) ≡ length (those_from (stored_in l.self.ids l.self.id_marks.now l.self.locations.now l.self.tallies.now) l.self.ids 0))
