use mathlib.Core.Path.{◌≡◌}
use mathlib.Core.Bool.{◌&&◌}
use Prim.Native.Nat.{◌*◌}
use lib.Dec.{eqb}
use lib.ListN.{drop}
use Rattle.zeros.specs.Zeros.{all_zero}
use Rattle.zeros.proofs.by_blocks.Given as goal

abbrev pub invariant-loop-block : goal.invariant-loop-block
invariant-loop-block l = all_zero l.bytes ≡ (eqb l.any 0 && all_zero (drop (l.block-index * 64) l.bytes))
