-- `crc32::hash` meets its contract: the register after the bytes, complemented.
-- Assumes nothing.
use mathlib.Core.Path.{ap, ◌∙◌}
use Prim.Native.Nat.{ℕ}
use lib.Bits.{bit_xor}
use Rattle.crc_steps.specs.Crc32.{crc32}
use Rattle.crc32.proofs.hash.Goals as goal

pub returns-then-bytes-lt-LONG : goal.returns-then-bytes-lt-LONG
unfolding crc32
returns-then-bytes-lt-LONG c = c.finish.ensures ∙ ap (λ (x : ℕ). bit_xor x 0xFFFF_FFFF) c.over.ensures

pub returns : goal.returns
unfolding crc32
returns c = c.finish-2.ensures ∙ ap (λ (x : ℕ). bit_xor x 0xFFFF_FFFF) c.over-2.ensures
