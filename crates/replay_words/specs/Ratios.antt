-- An f32 from its bits. Assumes nothing.
use Rattle.std.specs.Prelude.{cond, ◌||◌, ℕ, ◌%◌, ltb, Float}
use Rattle.std.specs.Float.Ieee as Ieee
use Rattle.std.specs.Float.{binary32, nan}

abbrev pub float_of : ℕ → Float
float_of bits = Ieee.of_bits binary32 bits

-- bits past those of infinity, the sign aside, are no number's
unfoldable pub ratio_of : ℕ → Float
ratio_of bits = cond (ltb 0xFFFF_FFFF bits || ltb 0x7F80_0000 (bits % 0x8000_0000)) nan (float_of bits)
