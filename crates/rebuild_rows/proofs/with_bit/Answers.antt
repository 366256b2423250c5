-- `rows::with_bit` meets its contract: the weight of one of eight bits is below 256. Assumes nothing.
use mathlib.Core.Path.{ap, ◌∙◌}
use Prim.Native.Nat.{◌^◌}
use native.Mathlib.Nat.{one-mul}
use native.Mathlib.Omega.{arith}
use lib.Bits.{bit_or}
use lib.Pow.{shl_exact}
use Rattle.rebuild_rows.specs.Checks.{with_bit}
use Rattle.rebuild_rows.proofs.with_bit.Goals as goal

pub returns : goal.returns
unfolding with_bit
returns c = let a = c.args in ap (bit_or a.mark) (shl_exact {a = 1} 1 a.bit 8 (omega arith) (omega arith) ∙ one-mul (2 ^ a.bit))
