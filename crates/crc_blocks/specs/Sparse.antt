-- Scaffolding of the proofs, as `Fold`: what the code for many bytes keeps is the last 515 bytes p that it made. They stand for what is
-- still to be taken into the bytes to come.
-- Assumes nothing.
use Rattle.std.specs.Prelude.{List, ℕ, ◌+◌, ◌*◌, length, get_or, drop}
use Rattle.std.specs.Int.Bits.{bit_xor}
use Rattle.little_endian.specs.LittleEndian.{word}
use Rattle.crc_steps.specs.Crc32.{steps}
use Rattle.crc_words.specs.Fold.{Passed}

unfoldable pub pend : List ℕ → ℕ
pend p = bit_xor (bit_xor (bit_xor (word (drop 234 p)) (word (drop 230 p))) (word (drop 171 p))) (word p)

-- the byte b, with what the bytes p say of it at j
abbrev pub taken_in : List ℕ → ℕ → ℕ → ℕ
taken_in p j b = bit_xor b (bit_xor (bit_xor (bit_xor (get_or p (j + 234) 0) (get_or p (j + 230) 0)) (get_or p (j + 171) 0)) (get_or p j 0))

-- the register at the end of the bytes s, where z is pending
unfoldable pub left : List ℕ → ℕ → ℕ
left s z = steps (8 * length s) (bit_xor (word s) z)

-- the bytes are read with z pending, and r is pending after them, where at least 515 come after
abbrev pub Off : List ℕ → ℕ → ℕ → Type 0
Off = Passed left 515
