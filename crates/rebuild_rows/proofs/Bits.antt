-- The bits of a mark: a bit that is set is there, and the others stay as they were. The weight of a bit has that bit and no other. Assumes nothing.
use mathlib.Core.Path.{◌≡◌, refl, ap, ap₂, ◌∙◌}
use mathlib.Core.Logic.{◌≢◌}
use mathlib.Core.Bool.{true, false}
use Prim.Native.Nat.{ℕ, zero, suc, ◌/◌, ◌%◌, ◌^◌, ◌<◌}
use native.Mathlib.Nat.{zero-lt-suc, pow-suc, div_self, div-one, zero-div, div-eq_of_lt, mul-div-mul_right, mul-mod_left, mod-lt}
use native.Mathlib.Omega.{arith}
use lib.Bits.{bit_or, or_shr, or_mod, or_zero_r}
use lib.Dec.{eqb}
use lib.Pow.{pow_pos, pow-lt}
use Rattle.rebuild_rows.specs.Checks.{has_bit, with_bit}

-- ---- weights

weight_same : (b : ℕ) → 2 ^ b / 2 ^ b % 2 ≡ 1
weight_same b = ap (λ x. x % 2) (div_self (pow_pos b))

weight_other : (b c : ℕ) → b ≢ c → 2 ^ b / 2 ^ c % 2 ≡ 0
weight_other zero zero n = absurd (n refl)
weight_other zero (suc c) n = ap (λ x. x % 2) (div-eq_of_lt (pow-lt (zero-lt-suc c)))
weight_other (suc b) zero n = ap (λ x. x % 2) (div-one (2 ^ suc b) ∙ pow-suc 2 b) ∙ mul-mod_left (2 ^ b) 2
weight_other (suc b) (suc c) n =
    ap (λ x. x % 2) (ap₂ (λ x y. x / y) (pow-suc 2 b) (pow-suc 2 c) ∙ mul-div-mul_right (2 ^ b) (2 ^ c) (zero-lt-suc 1)) ∙ weight_other b c (λ e. n (ap suc e))

-- ---- a bit of a mark

bit_or_lem : (m n c : ℕ) → bit_or m n / 2 ^ c % 2 ≡ bit_or (m / 2 ^ c % 2) (n / 2 ^ c % 2)
bit_or_lem m n c = ap (λ x. x % 2) (or_shr m n c) ∙ or_mod (m / 2 ^ c) (n / 2 ^ c) 1

or_one : (x : ℕ) → x < 2 → bit_or x 1 ≡ 1
or_one zero h = refl
or_one (suc zero) h = refl
or_one (suc (suc x)) h = absurd (omega arith)

pub has_bit_zero : (b : ℕ) → has_bit 0 b ≡ false
unfolding has_bit
has_bit_zero b = ap (λ x. eqb (x % 2) 1) (zero-div (2 ^ b))

pub with_bit_same : (m b : ℕ) → has_bit (with_bit m b) b ≡ true
unfolding has_bit with_bit
with_bit_same m b = ap (λ x. eqb x 1) (bit_or_lem m (2 ^ b) b ∙ ap (bit_or (m / 2 ^ b % 2)) (weight_same b) ∙ or_one (m / 2 ^ b % 2) (mod-lt (m / 2 ^ b) (zero-lt-suc 1)))

pub with_bit_other : (m b c : ℕ) → b ≢ c → has_bit (with_bit m b) c ≡ has_bit m c
unfolding has_bit with_bit
with_bit_other m b c n = ap (λ x. eqb x 1) (bit_or_lem m (2 ^ b) c ∙ ap (bit_or (m / 2 ^ c % 2)) (weight_other b c n) ∙ or_zero_r (m / 2 ^ c % 2))
