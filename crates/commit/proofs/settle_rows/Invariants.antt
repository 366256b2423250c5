use mathlib.Core.Path.{◌≡◌}
use Prim.Native.Nat.{◌+◌, ◌-◌}
use Rattle.carried.specs.Carried.{width, committed}
use Rattle.batch_kept.specs.Kept.{kept_from}
use Rattle.commit.proofs.settle_rows.Given as goal

abbrev pub invariant-loop-i : goal.invariant-loop-i
invariant-loop-i l = committed width (l.ids + l.i) (kept_from l.batch (l.n - l.i) l.i) l.carried ≡ committed width l.ids (kept_from l.batch l.n 0) l.initial.carried
