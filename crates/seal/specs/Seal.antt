-- Bytes that end in their own check: how document 01 closes a slot and a cookie. Assumes nothing.
use Rattle.std.specs.Prelude.{Bool, List, ◌++◌, ℕ, ◌-◌, eqb, length, take, drop}
use Rattle.std.specs.Int.Bits.{bit_xor}
use Rattle.little_endian.specs.LittleEndian.{word, bytes_of}
use Rattle.sizes.specs.Sizes.{check_width}
use Rattle.crc_steps.specs.Crc32.{crc32}

-- the check of a body: its CRC-32, XOR AF hex
unfoldable pub check_of : List ℕ → ℕ
check_of body = bit_xor (crc32 body) 0xAF

-- a body and its check, little-endian
unfoldable pub signed : List ℕ → List ℕ
signed body = body ++ bytes_of check_width (check_of body)

-- all but the last four bytes
abbrev pub body_of : List ℕ → List ℕ
body_of bytes = take (length bytes - check_width) bytes

-- the bytes that stand where the check is
abbrev pub tail_of : List ℕ → List ℕ
tail_of bytes = drop (length bytes - check_width) bytes

-- whether the check agrees
unfoldable pub is_signed : List ℕ → Bool
is_signed bytes = eqb (check_of (body_of bytes)) (word (tail_of bytes))

-- the bytes with the check of their body written over the last four, or over all where there are fewer
unfoldable pub resigned : List ℕ → List ℕ
resigned bytes = body_of bytes ++ bytes_of (length (tail_of bytes)) (check_of (body_of bytes))
