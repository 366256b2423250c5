use mathlib.Core.Path.{◌≡◌}
use Prim.Native.Nat.{◌-◌}
use lib.ListN.{length}
use Rattle.model.specs.Memory.{memory_of}
use Rattle.model.specs.MemoryAfter.{commit_all}
use Rattle.batch_kept.specs.Kept.{kept_from}
use Rattle.commit.proofs.apply_rows.Given as goal

abbrev pub invariant-loop-i : goal.invariant-loop-i
invariant-loop-i l =
    (length l.slot_marks ≡ length l.initial.slot_marks)
    × (commit_all (memory_of l.caps.ids l.caps.slots l.id_marks l.locations l.slot_marks l.owners l.batch l.tallies) (kept_from l.batch (l.n - l.i) l.i)
    ≡ commit_all (memory_of l.caps.ids l.caps.slots l.initial.id_marks l.initial.locations l.initial.slot_marks l.initial.owners l.batch l.initial.tallies) (kept_from l.batch l.n 0))
