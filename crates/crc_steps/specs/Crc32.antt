-- The CRC-32 of ISO 3309 and ITU-T V.42, reflected: the register's low bit is the highest power of x. The polynomial is
-- x^32 + x^26 + x^23 + x^22 + x^16 + x^12 + x^11 + x^10 + x^8 + x^7 + x^5 + x^4 + x^2 + x + 1, so bit 31 - i is the coefficient of x^i.
-- Assumes nothing.
use Rattle.std.specs.Prelude.{List, [], ◌∷◌, ℕ, zero, suc, ◌/◌, ◌%◌}
use Rattle.std.specs.Int.Bits.{bit_xor}

-- the polynomial goes in where the bit that was shifted out is set
abbrev pub take_in : ℕ → ℕ → ℕ
take_in zero h = h
take_in (suc b) h = bit_xor h 0xEDB8_8320

-- one bit
unfoldable pub step : ℕ → ℕ
step c = take_in (c % 2) (c / 2)

-- n bits
unfoldable pub steps : ℕ → ℕ → ℕ
steps zero c = c
steps (suc n) c = steps n (step c)

-- the register after the bytes, from the register c before them
unfoldable pub crc_over : ℕ → List ℕ → ℕ
crc_over c [] = c
crc_over c (b ∷ bs) = crc_over (steps 8 (bit_xor c b)) bs

-- the check value: the register starts at all ones, and is complemented at the end
unfoldable pub crc32 : List ℕ → ℕ
crc32 bs = bit_xor (crc_over 0xFFFF_FFFF bs) 0xFFFF_FFFF
