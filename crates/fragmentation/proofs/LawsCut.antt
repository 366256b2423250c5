-- Laws of a float cut to a whole number from its bits. A float that is at least 1 and below 65,536 has an exponent's field of j + 1 and, with the
-- leading one put back, digits q, and is q * 2 ^ j in units of 2 ^ -149; so its whole part is q shifted down by 149 - j. Assumes nothing.
use mathlib.Core.Bool.{Bool, true, false, not, cond, ◌&&◌, ◌||◌}
use mathlib.Core.Logic.{⊎_elim}
use mathlib.Core.Path.{◌≡◌, refl, sym, ap, subst, ◌∙◌}
use Prim.Native.Nat.{ℕ, zero, suc, ◌+◌, ◌-◌, ◌*◌, ◌/◌, ◌%◌, ◌^◌, ◌≤◌, ◌<◌, min}
use native.Mathlib.Nat.{le_trans, le_of_eq, lt_of_lt_of_le, lt_of_le_of_lt, lt_of_not-le, lt_irrefl, mul_comm, mul_right_comm, mul-le-mul_right, mul-lt-mul_of_pos_right, le_of_mul-le-mul_right, lt_of_mul-lt-mul_right, le-add_right, mod-lt, mod-eq_of_lt, div-eq_of_lt, div-lt_iff_lt-mul, le-div_iff_mul-le}
use native.Mathlib.Omega.{arith}
use lib.Dec.{T, leb, ltb, eqb, lt→ltb, lit≤}
use lib.Ieee.{Float, nan, inf, fin, binary32, up, down, odd, fits, is_nan, of_fields, of_bits, to_bits, lt, eq, le, to_unsigned}
use lib.Ieee.Bits.{of_bits-to_bits}
use lib.Ieee.Exact.{HasValue, odd_sign}
use lib.Ieee.Fits.{down_pos}
use lib.Ieee.Nearest.{div_same}
use lib.Ieee.Positive.{num, den, positive, den_pos, first_pos, value→cross}
use lib.IntN.{pos}
use lib.Pow.{pow-add, pow_pos, pow_mono, shl_lt, shl-shr, shr-shr}
use borrow.Author.Tests.{ltb-true, ltb-false, eqb-true, eqb-false, leb-false}
use Rattle.refusal.proofs.Tests.{clash, and_true, or_true, or_false, by_test}

-- 1 and 65,536
abbrev pub one : Float
one = fin false 1 (pos 0)

abbrev pub most : Float
most = fin false 1 (pos 16)

-- ---- where a float lies
-- the two tests of `le`, less and equal
le_true : (a b : ℕ) → (ltb a b || (eqb a b && true)) ≡ true → a ≤ b
le_true a b q =
    ⊎_elim (λ h. omega (arith, ltb-true a b h)) (λ h. omega (arith, eqb-true a b (and_true (eqb a b) true h).0)) (or_true (ltb a b) (eqb a b && true) q)

le_false : (a b : ℕ) → (ltb a b || (eqb a b && true)) ≡ false → b < a
le_false a b q =
    let n = or_false (ltb a b) (eqb a b && true) q in
    let differ : a ≡ b → ⊥ = eqb-false a b (by (eqb a b) n.1) in
    by_test (ltb b a) (λ h. ltb-true b a h) (λ h. absurd (differ (omega (arith, ltb-false b a h, ltb-false a b n.0))))
  where
    by : (t : Bool) → (t && true) ≡ false → t ≡ false
    by true e = e
    by false e = refl

-- at least 65,536
pub cut_most : (x : Float) → le most x ≡ true → 65536 ≡ min 65536 (to_unsigned 64 x)
unfolding le lt eq to_unsigned
cut_most nan q = clash (sym q)
cut_most (inf true) q = clash (sym q)
cut_most (inf false) q = refl
cut_most (fin true m e) q =
    let z = eqb-true (65536 * down e) 0 (and_true (eqb (65536 * down e) (m * up e * 1)) _ q).1 in
    absurd (omega (arith, down_pos e))
cut_most (fin false m e) q =
    let h : 65536 * down e ≤ m * up e = omega (arith, le_true (65536 * down e) (m * up e * 1) q) in
    let w : 65536 ≤ m * up e / down e = (le-div_iff_mul-le (down_pos e)).1 h in
    omega arith

-- below 1, and a NaN
pub cut_none : (x : Float) → le one x ≡ false → 0 ≡ min 65536 (to_unsigned 64 x)
unfolding le lt eq to_unsigned
cut_none nan q = refl
cut_none (inf true) q = refl
cut_none (inf false) q = clash q
cut_none (fin true m e) q = refl
cut_none (fin false m e) q =
    let h : m * up e < down e = omega (arith, le_false (1 * down e) (m * up e * 1) q) in
    let w : m * up e / down e ≡ 0 = div-eq_of_lt h in
    omega arith

-- at least 1 and below 65,536
pub record Between (x : Float) : Type 0 where
  pub plus : T (positive x)
  pub low : den x ≤ num x
  pub high : num x < 65536 * den x

pub between : (x : Float) → le one x ≡ true → le most x ≡ false → Between x
unfolding le lt eq
between nan p q = clash (sym p)
between (inf true) p q = clash (sym p)
between (inf false) p q = clash q
between (fin true m e) p q =
    let z = eqb-true (1 * down e) 0 (and_true (eqb (1 * down e) (m * up e * 1)) _ p).1 in
    absurd (omega (arith, down_pos e))
between (fin false m e) p q =
    let h : down e ≤ m * up e = omega (arith, le_true (1 * down e) (m * up e * 1) p) in
    record {
      plus = lt→ltb 0 m (first_pos m (up e) (omega (arith, down_pos e)));
      low = h;
      high = omega (arith, le_false (65536 * down e) (m * up e * 1) q);
    }

pub no_nan : (x : Float) → Between x → T (not (is_nan x))
unfolding is_nan
no_nan nan b = absurd b.plus
no_nan (inf s) b = tt
no_nan (fin s m e) b = tt

-- its whole part is num / den
whole : (x : Float) → Between x → min 65536 (to_unsigned 64 x) ≡ num x / den x
unfolding to_unsigned
whole nan b = absurd b.plus
whole (inf s) b = absurd b.plus
whole (fin true m e) b = absurd b.plus
whole (fin false m e) b =
    let w : m * up e / down e < 65536 = (div-lt_iff_lt-mul (down_pos e)).1 b.high in
    omega arith

-- ---- the same fraction in units of 2 ^ -149: n / d is a / l
module _ {n d a l : ℕ} (D : 0 < d) (v : n * l ≡ a * d) where
  units_ge : d ≤ n → l ≤ a
  units_ge h = le_of_mul-le-mul_right (le_trans (le_of_eq (mul_comm l d)) (le_trans (mul-le-mul_right l h) (le_of_eq v))) D

  units_lt : (p : ℕ) → 0 < l → n < p * d → a < p * l
  units_lt p L h = lt_of_mul-lt-mul_right d (lt_of_le_of_lt (le_of_eq (sym v)) (lt_of_lt_of_le (mul-lt-mul_of_pos_right h L) (le_of_eq (mul_right_comm p d l))))

-- ---- what the fields of a pattern stand for, where that is at least 1 and below 65,536
-- the field is j + 1, the sign is clear, and the value is the digits under a leading one, times 2 ^ j units
record Read (s : Bool) (x t : ℕ) (v : Float) : Type 0 where
  j : ℕ
  field : x ≡ suc j
  clear : s ≡ false
  value : HasValue v false ((2 ^ 23 + t) * 2 ^ j) (2 ^ 149)

sign_of : (x : Float) (s : Bool) (a c : ℕ) → T (positive x) → HasValue x s a c → s ≡ false
sign_of nan s a c p h = absurd p
sign_of (inf t) s a c p h = absurd p
sign_of (fin true m e) s a c p h = absurd p
sign_of (fin false m e) s a c p h = sym h.0

unsigned : (v : Float) (s : Bool) (a c : ℕ) → T (positive v) → HasValue v s a c → HasValue v false a c
unsigned v s a c p h = subst (λ (k : Bool). HasValue v k a c) (sign_of v s a c p h) h

-- a field of 0 has no leading one: below 1
short : (t : ℕ) → t < 2 ^ 23 → 2 ^ 149 ≤ t * 2 ^ 0 → ⊥
short t h k =
    let room : 23 + 0 ≤ 149 = lit≤ tt in
    lt_irrefl (2 ^ 149) (lt_of_le_of_lt k (lt_of_lt_of_le (shl_lt 23 0 h) (pow_mono room)))

-- a field of all ones is an infinity's or a NaN's
not_top : (a b s : Bool) (v : Float) → T (positive (cond a (cond b (inf s) nan) v)) → a ≡ false
not_top true true s v p = absurd p
not_top true false s v p = absurd p
not_top false b s v p = refl

read : (s : Bool) (x t : ℕ) → t < 2 ^ 23 → Between (of_fields binary32 s x t) → Read s x t (of_fields binary32 s x t)
unfolding of_fields
read s zero t h b =
    let v = odd 24 s t 0 149 in
    absurd (short t h (units_ge (den_pos v) (value→cross v (t * 2 ^ 0) (2 ^ 149) (unsigned v s (t * 2 ^ 0) (2 ^ 149) b.plus (odd_sign 24 s t 0 149))) b.low))
read s (suc j) t h b =
    let v = odd 24 s (2 ^ 23 + t) j 149 in
    let a = (2 ^ 23 + t) * 2 ^ j in
    let is : cond (eqb (suc j) 255) (cond (eqb t 0) (inf s) nan) v ≡ v = rw (not_top (eqb (suc j) 255) (eqb t 0) s v b.plus) in
    let plus : T (positive v) = subst (λ (k : Float). T (positive k)) is b.plus in
    let own = odd_sign 24 s (2 ^ 23 + t) j 149 in
    record {
      j = j;
      field = refl;
      clear = sign_of v s a (2 ^ 149) plus own;
      value = subst (λ (k : Float). HasValue k false a (2 ^ 149)) (sym is) (unsigned v s a (2 ^ 149) plus own);
    }

-- ---- the bits of an x that is at least 1 and below 65,536: how far to shift, and what the shifted digits are
pub record Cut (b : ℕ) (x : Float) : Type 0 where
  pub top : b / 2 ^ 23 ≤ 150
  pub near : 150 - b / 2 ^ 23 < 32
  pub is : (b % 2 ^ 23 + 2 ^ 23) / 2 ^ (150 - b / 2 ^ 23) ≡ min 65536 (to_unsigned 64 x)

pow_lt_back : (i p : ℕ) → 2 ^ i < 2 ^ p → i < p
pow_lt_back i p h = lt_of_not-le (λ (g : p ≤ i). lt_irrefl (2 ^ i) (lt_of_lt_of_le h (pow_mono g)))

shifted : (q j : ℕ) → j ≤ 149 → q / 2 ^ (149 - j) ≡ q * 2 ^ j / 2 ^ 149
shifted q j h =
    let whole-way : j + (149 - j) ≡ 149 = omega arith in
    ap (λ (k : ℕ). k / 2 ^ (149 - j)) (sym (shl-shr q j)) ∙ shr-shr (q * 2 ^ j) j (149 - j) ∙ ap (λ (k : ℕ). q * 2 ^ j / 2 ^ k) whole-way

cut_of : (b : ℕ) → Between (of_bits binary32 b) → Cut b (of_bits binary32 b)
unfolding of_bits
cut_of b i =
    let x = of_bits binary32 b in
    let t = b % 2 ^ 23 in
    let q = 2 ^ 23 + t in
    let digits : t < 2 ^ 23 = mod-lt b (pow_pos 23) in
    let r = read (leb (2 ^ 31) b) (b % 2 ^ 31 / 2 ^ 23) t digits i in
    let j = r.j in
    let small : b < 2 ^ 31 = leb-false (2 ^ 31) b r.clear in
    let field : b / 2 ^ 23 ≡ suc j = ap (λ (k : ℕ). k / 2 ^ 23) (sym (mod-eq_of_lt small)) ∙ r.field in
    let v : num x * 2 ^ 149 ≡ q * 2 ^ j * den x = value→cross x (q * 2 ^ j) (2 ^ 149) r.value in
    let low : 2 ^ 149 ≤ q * 2 ^ j = units_ge (den_pos x) v i.low in
    let high : q * 2 ^ j < 65536 * 2 ^ 149 = units_lt (den_pos x) v 65536 (pow_pos 149) i.high in
    let two : q < 2 ^ 24 = omega arith in
    let from : 149 < 24 + j = pow_lt_back 149 (24 + j) (lt_of_le_of_lt low (shl_lt 24 j two)) in
    let to : 23 + j < 165 = pow_lt_back (23 + j) 165 (lt_of_le_of_lt (le_trans (le_of_eq (pow-add 2 23 j)) (mul-le-mul_right (2 ^ j) (le-add_right (2 ^ 23) t))) high) in
    let by : 150 - b / 2 ^ 23 ≡ 149 - j = omega arith in
    let sum : b % 2 ^ 23 + 2 ^ 23 ≡ q = omega arith in
    record {
      top = omega arith;
      near = omega arith;
      is = rw (by, sum) (shifted q j (omega arith) ∙ sym (whole x i ∙ div_same (num x) (den x) (q * 2 ^ j) (2 ^ 149) (den_pos x) (pow_pos 149) v));
    }

pub cut : (x : Float) → T (fits binary32 x) → Between x → Cut (to_bits binary32 x) x
cut x f i =
    let same = of_bits-to_bits binary32 x f in
    subst (λ (k : Float). Cut (to_bits binary32 x) k) same (cut_of (to_bits binary32 x) (subst (λ (k : Float). Between k) (sym same) i))
