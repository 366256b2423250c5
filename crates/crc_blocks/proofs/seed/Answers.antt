-- `crc_blocks::seed` meets its contract: the four bytes of the register, and zeros.
-- Assumes nothing.
use native.Mathlib.Omega.{arith}
use Rattle.little_endian.specs.LittleEndian.{word}
use Rattle.crc_blocks.specs.Sparse.{pend}
use Rattle.crc_blocks.proofs.seed.Goals as goal

pub returns : goal.returns
unfolding pend word
returns c = rw (c.copy_from_slice.ensures.after, c.to_le_bytes.ensures) (omega arith)
