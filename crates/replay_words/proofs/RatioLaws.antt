-- `ratio_of` where the bits are narrow enough for an f32, and where they are not. Assumes nothing.
use Rattle.std.proofs.Common.{◌≡◌, refl, sym, ◌∙◌, ℕ, ◌%◌, ◌^◌, ◌<◌, Bool, true, false, cond, ltb, arith, le-ltb, lt-ltb}
use mathlib.Core.Bool.{true≢false}
use lib.Ieee.{Float, nan, inf, fin, binary32, is_nan, of_bits}
use lib.Ieee.Bits.{nan_bits_is, nan_bits_above}
use Rattle.replay_words.specs.Ratios.{ratio_of}

nan_alone : (x : Float) → is_nan x ≡ true → nan ≡ x
unfolding is_nan
nan_alone nan e = refl
nan_alone (inf s) e = absurd (true≢false (sym e))
nan_alone (fin s m k) e = absurd (true≢false (sym e))

-- bits past those of infinity, the sign aside, give the NaN already
by_bits : (bits : ℕ) (above : Bool) → ltb 0x7F80_0000 (bits % 0x8000_0000) ≡ above → cond above nan (of_bits binary32 bits) ≡ of_bits binary32 bits
by_bits bits true e = nan_alone _ (sym (nan_bits_is binary32 bits) ∙ nan_bits_above binary32 bits ∙ e)
by_bits bits false e = refl

pub ratio_of-narrow : (bits : ℕ) → bits < 2 ^ 32 → ratio_of bits ≡ of_bits binary32 bits
unfolding ratio_of
ratio_of-narrow bits h =
    let narrow : ltb 0xFFFF_FFFF bits ≡ false = le-ltb _ _ (omega arith) in
    rw narrow (by_bits bits (ltb 0x7F80_0000 (bits % 0x8000_0000)) refl)

pub ratio_of-wide : (bits : ℕ) → ¬ (bits < 2 ^ 32) → ratio_of bits ≡ nan
unfolding ratio_of
ratio_of-wide bits h =
    let wide : ltb 0xFFFF_FFFF bits ≡ true = lt-ltb _ _ (omega arith) in
    rw wide refl
