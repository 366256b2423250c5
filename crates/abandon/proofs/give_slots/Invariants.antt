use mathlib.Core.Path.{◌≡◌}
use Prim.Native.Nat.{◌-◌}
use lib.ListN.{length}
use Rattle.model.specs.Tables.{locations_of}
use Rattle.model.specs.MemoryAfter.{give_slots}
use Rattle.batch_kept.specs.Kept.{kept_from}
use Rattle.abandon.proofs.give_slots.Given as goal

abbrev pub invariant-loop-i : goal.invariant-loop-i
invariant-loop-i l =
    (length l.slot_marks ≡ length l.initial.slot_marks)
    × (length l.tallies ≡ length l.initial.tallies)
    × (give_slots l.slots (record { marks = l.slot_marks; words = l.tallies }) (locations_of (kept_from l.batch (l.n - l.i) l.i))
    ≡ give_slots l.slots (record { marks = l.initial.slot_marks; words = l.initial.tallies }) (locations_of (kept_from l.batch l.n 0)))
