-- The slab of n bytes by the leading bits of `last`, which is one less than what they and their frame take of a slot. Ranges of n are compared with the
-- longest objects of the slabs by computing, once for each number of leading zeros and the bits after them: so a law holds for every n of its range.
-- Assumes nothing.
use mathlib.Core.Bool.{Bool, true, ◌&&◌, ◌||◌}
use mathlib.Core.Logic.{⊎_elim}
use mathlib.Core.Path.{◌≡◌, refl, sym}
use Prim.Native.Nat.{ℕ, suc, ◌+◌, ◌-◌, ◌*◌, ◌/◌, ◌^◌, ◌≤◌, ◌<◌}
use native.Mathlib.Nat.{le_trans, mod-lt, not-le_of_lt, pow-suc, suc-mul}
use native.Mathlib.Omega.{arith}
use lib.Count.{count_leading_zeros, leading_top}
use lib.Dec.{leb, ltb, lit≤, lit<}
use lib.Pow.{pow-add, pow_mono, pow_pos, shl-shr, shr_lt, shr_mono, split}
use borrow.Author.Tests.{ltb-true, leb-true, leb-false}
use Rattle.refusal.proofs.Tests.{and_true, or_true, by_test}
use Rattle.sizes.specs.Sizes.{slab_sizes, size_of, field_width, longest_object, slab_for}
use Rattle.sizes.specs.Edges.{longest_in_first, longest_with1, longest_with2, longest_with4, longest_with8, extra_size}
use Rattle.sizes.proofs.Laws.{all_below, all_below_at, longest, slab_for_next}

-- ---- count_leading_zeros
-- what the last of the leading bits is worth, where d come after the first
abbrev pub bit_unit : ℕ → ℕ → ℕ
bit_unit d x = 2 ^ (63 - d - count_leading_zeros 64 x)

-- x lies between its leading bits, zeros after them, and the next number of that kind
abbrev Enclosed : ℕ → ℕ → Type 0
Enclosed d x =
    let q = x / bit_unit d x in
    (count_leading_zeros 64 x ≤ 63 - d) × (2 ^ d ≤ q) × (q < 2 ^ suc d) × (q * bit_unit d x ≤ x) × (x < suc q * bit_unit d x)

enclosed : (d x : ℕ) → d < 64 → 2 ^ d ≤ x → x < 2 ^ 64 → Enclosed d x
enclosed d x s l u = by (leading_top 64 x (omega (arith, l, pow_pos d)) u)
  where
    by : (j : ℕ) × (count_leading_zeros 64 x + suc j ≡ 64) × (2 ^ j ≤ x) × (x < 2 ^ suc j) → Enclosed d x
    by (j, e, low, high) =
        let enough : d ≤ j = by_test (leb d j) (leb-true d j) (λ t. absurd (not-le_of_lt high (le_trans (pow_mono (leb-false d j t)) l))) in
        let shift : 63 - d - count_leading_zeros 64 x ≡ j - d = omega arith in
        let whole : d + (j - d) ≡ j = omega arith in
        let next : suc d + (j - d) ≡ suc j = omega arith in
        let rest = mod-lt x (pow_pos (63 - d - count_leading_zeros 64 x)) in
        let parts = split x (63 - d - count_leading_zeros 64 x) in (
          omega arith,
          rw shift (rw (shl-shr (2 ^ d) (j - d)) at (shr_mono (j - d) (rw (sym whole, pow-add 2 d (j - d)) at low))),
          rw shift (shr_lt (suc d) (j - d) (rw next high)),
          omega arith,
          rw (suc-mul (x / bit_unit d x) (bit_unit d x)) (omega arith),
        )

-- ---- slab_for
-- whether the n above a and up to b that are also from low to high are of slab k + 1
abbrev of_next : (k a b low high : ℕ) → Bool
of_next k a b low high = ltb k 77 && ((leb (longest k) a || ltb (longest k) low) && (leb b (longest (suc k)) || leb high (longest (suc k))))

of_next_slab : (k a b low high n : ℕ) → of_next k a b low high ≡ true → a < n → n ≤ b → low ≤ n → n ≤ high → slab_for n ≡ suc k
of_next_slab k a b low high n e above upto from to =
    let too_short = leb (longest k) a || ltb (longest k) low in
    let long_enough = leb b (longest (suc k)) || leb high (longest (suc k)) in
    let t = and_true (ltb k 77) (too_short && long_enough) e in
    let u = and_true too_short long_enough t.1 in
    slab_for_next n k (ltb-true k 77 t.0)
    (⊎_elim (λ o. omega (arith, leb-true (longest k) a o)) (λ o. omega (arith, ltb-true (longest k) low o)) (or_true (leb (longest k) a) (ltb (longest k) low) u.0))
    (⊎_elim (λ o. omega (arith, leb-true b (longest (suc k)) o)) (λ o. omega (arith, leb-true high (longest (suc k)) o))
    (or_true (leb b (longest (suc k))) (leb high (longest (suc k))) u.1))

-- whether the n above a and up to b, if there are any, for which n + f has z leading zeros and then the bits q, are of slab q + base - 2^d z
abbrev bits_right : (d base f a b z q : ℕ) → Bool
bits_right d base f a b z q =
    let low = q * 2 ^ (63 - d - z) - f in
    let high = suc q * 2 ^ (63 - d - z) - suc f in
    (ltb b low || leb high a) || (ltb (2 ^ d * z) (q + base) && of_next (q + base - (2 ^ d * z + 1)) a b low high)

-- whatever z and q
abbrev all_right : (d base f a b : ℕ) → Bool
all_right d base f a b = all_below (λ z. all_below (λ p. bits_right d base f a b z (2 ^ d + p)) (2 ^ d)) 64

-- what the code works out by d bits after the leading one is the slab of n, and neither of its subtractions goes below 0
abbrev pub ByBits : (d base n last : ℕ) → Type 0
ByBits d base n last =
    let z = count_leading_zeros 64 last in
    let q = last / bit_unit d last in
    (z ≤ 63 - d) × (2 ^ d * z ≤ q + base) × (q + base - 2 ^ d * z ≡ slab_for n)

-- it is, for n above a and up to b whose `last` is n + f, where the test holds
by_bits : (d base f a b : ℕ) → d < 64 → 2 ^ d ≤ a → b + f < 2 ^ 64 → all_right d base f a b ≡ true
    → (n last : ℕ) → last ≡ n + f → a < n → n ≤ b → ByBits d base n last
by_bits d base f a b d64 bits fits all n last e above upto =
    let z = count_leading_zeros 64 last in
    let q = last / bit_unit d last in
    let s = enclosed d last d64 (omega arith) (omega arith) in
    let row = all_below_at (λ z. all_below (λ p. bits_right d base f a b z (2 ^ d + p)) (2 ^ d)) 64 z all (omega arith) in
    let here = all_below_at (λ p. bits_right d base f a b z (2 ^ d + p)) (2 ^ d) (q - 2 ^ d) row (omega (arith, pow-suc 2 d)) in
    let same : 2 ^ d + (q - 2 ^ d) ≡ q = omega arith in
    let low = q * bit_unit d last - f in
    let high = suc q * bit_unit d last - suc f in
    let none = ltb b low || leb high a in
    let k = q + base - (2 ^ d * z + 1) in
    let some = ltb (2 ^ d * z) (q + base) && of_next k a b low high in
    let t : (none || some) ≡ true = rw same at here in
    ⊎_elim
    (λ (v : none ≡ true).
    ⊎_elim (λ o. absurd (omega (arith, ltb-true b low o))) (λ o. absurd (omega (arith, leb-true high a o))) (or_true (ltb b low) (leb high a) v))
    (λ (v : some ≡ true).
    let u = and_true (ltb (2 ^ d * z) (q + base)) (of_next k a b low high) v in
    let slab = of_next_slab k a b low high n u.1 above upto (omega arith) (omega arith) in
    let less = ltb-true (2 ^ d * z) (q + base) u.0 in
    (s.0, omega arith, omega arith))
    (or_true none some t)

-- with a length field of 1 byte, and of 2
pub by_bits_1 : (n last : ℕ) → last ≡ n + 4 → longest_in_first < n → n ≤ longest_with1 → ByBits 2 225 n last
unfolding longest_object field_width size_of slab_sizes
by_bits_1 = by_bits 2 225 4 longest_in_first longest_with1 (lit< tt) (lit≤ tt) (lit< tt) refl

pub by_bits_2 : (n last : ℕ) → last ≡ n + 5 → longest_with1 < n → n ≤ longest_with2 → ByBits 2 225 n last
unfolding longest_object field_width size_of slab_sizes
by_bits_2 = by_bits 2 225 5 longest_with1 longest_with2 (lit< tt) (lit≤ tt) (lit< tt) refl

-- with 4, before the extra size and from it on
pub by_bits_4 : (n last : ℕ) → last ≡ n + 7 → longest_with2 < n → last < extra_size → ByBits 1 133 n last
unfolding longest_object field_width size_of slab_sizes
by_bits_4 n last e above below = by_bits 1 133 7 longest_with2 (extra_size - 8) (lit< tt) (lit≤ tt) (lit< tt) refl n last e above (omega arith)

pub by_bits_4_on : (n last : ℕ) → last ≡ n + 7 → extra_size ≤ last → n ≤ longest_with4 → ByBits 1 134 n last
unfolding longest_object field_width size_of slab_sizes
by_bits_4_on n last e from upto = by_bits 1 134 7 (extra_size - 8) longest_with4 (lit< tt) (lit≤ tt) (lit< tt) refl n last e (omega arith) upto

-- with 8
pub by_bits_8 : (n last : ℕ) → last ≡ n + 11 → longest_with4 < n → n ≤ longest_with8 → ByBits 1 134 n last
unfolding longest_object field_width size_of slab_sizes
by_bits_8 = by_bits 1 134 11 longest_with4 longest_with8 (lit< tt) (lit≤ tt) (lit< tt) refl
