use mathlib.Core.Path.{◌≡◌}
use Prim.Native.Nat.{◌-◌}
use Rattle.batch_kept.specs.Kept.{first_bad, kept_from, bad_kept_row}
use Rattle.batch_kept.proofs.in_range.Given as goal

abbrev pub invariant-loop-i : goal.invariant-loop-i
invariant-loop-i l = first_bad (bad_kept_row l.ids l.slots) 0 (kept_from l.batch l.n 0) ≡ first_bad (bad_kept_row l.ids l.slots) l.i (kept_from l.batch (l.n - l.i) l.i)
