use mathlib.Core.Path.{◌≡◌}
use Prim.Native.Nat.{◌-◌}
use Rattle.batch_kept.specs.Kept.{first_bad, kept_from}
use Rattle.commit.specs.Commit.{row_bad}
use Rattle.commit.proofs.check.check_rows.Given as goal

abbrev pub invariant-loop-i : goal.invariant-loop-i
invariant-loop-i l =
    first_bad (row_bad l.caps.ids l.caps.slots l.locations l.slot_marks l.owners l.tallies) 0 (kept_from l.batch l.n 0)
    ≡ first_bad (row_bad l.caps.ids l.caps.slots l.locations l.slot_marks l.owners l.tallies) l.i (kept_from l.batch (l.n - l.i) l.i)
