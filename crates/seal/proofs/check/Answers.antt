use mathlib.Core.Path.{ap}
use Prim.Native.Nat.{ℕ}
use lib.Bits.{bit_xor}
use Rattle.seal.specs.Seal.{check_of}
use Rattle.seal.proofs.check.Goals as goal

pub returns : goal.returns
unfolding check_of
returns c = ap (λ (x : ℕ). bit_xor x 0xAF) c.hash.ensures
