use mathlib.Core.Path.{◌≡◌}
use Prim.Native.Nat.{◌-◌, ◌≤◌}
use Rattle.model.specs.Snapshots.{those_from, snapshot_rows}
use Rattle.snapshot_writer.specs.Writer.{stored_in, not_own}
use Rattle.snapshot_writer.proofs.Stored.first_bad.Given as goal

abbrev pub invariant-loop-i : goal.invariant-loop-i
invariant-loop-i l =
    ((l.row ≤ l.i) × (l.i ≤ l.self.ids))
    × (snapshot_rows (not_own l.slots l.self.locations.now l.slot_marks l.owners l.self.tallies.now) l.row (those_from (stored_in l.self.ids l.self.id_marks.now l.self.locations.now l.self.tallies.now) (l.self.ids - l.i) l.i)
    ≡ snapshot_rows (not_own l.slots l.self.locations.now l.slot_marks l.owners l.self.tallies.now) 0 (those_from (stored_in l.self.ids l.self.id_marks.now l.self.locations.now l.self.tallies.now) l.self.ids 0))
