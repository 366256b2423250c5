-- Laws of the slab sizes. Assumes nothing.
use mathlib.Core.Bool.{Bool, true, false, cond, ◌&&◌, ◌||◌, not}
use mathlib.Core.List.{List, [], ◌∷◌}
use mathlib.Core.Path.{◌≡◌, refl, sym, ap, ◌∙◌}
use Prim.Native.Nat.{ℕ, zero, suc, ◌+◌, ◌-◌, ◌*◌, ◌/◌, ◌%◌, ◌^◌, ◌≤◌, ◌<◌}
use native.Mathlib.Numerals.{one-add}
use native.Mathlib.Omega.{arith}
use lib.Dec.{leb, ltb, eqb, lit≤, lit<}
use lib.ListN.{length, get_or, get_or-eq_default}
use borrow.Author.Tests.{lt-ltb, le-ltb, ltb-true, ltb-false, leb-true, leb-false, eqb-true, ne_eqb}
use mathlib.Core.Logic.{⊎_elim}
use native.Mathlib.Nat.{eq-or-lt_of_le, le_of_suc-le-suc, lt_trans, not-le_of_lt, mul_assoc, pow-suc}
use lib.Count.{count_trailing_zeros, under}
use lib.Pow.{shr-shr}
use Rattle.refusal.specs.Refusals.{refusal, too_large}
use Rattle.refusal.proofs.Tests.{clash, and_true, by_test, both_ways}
use Rattle.list_parts.specs.Lists.{elem}
use Rattle.list_parts.proofs.Lists.{elem_cases}
use Rattle.sizes.specs.Sizes.{slab_sizes, size_of, is_slab_size, slabs, field_width, check_width, longest_object, first_fit, slab_for, class_of}
use Rattle.sizes.specs.OddPart.{goes}
use Rattle.sizes.specs.Edges.{longest_in_first, longest_with8}
use Rattle.std.specs.Prelude.{Ok, Err}

-- ---- field_width
pub field_width_le : (s : ℕ) → field_width s ≤ 8
unfolding field_width
field_width_le s = by (leb s 255) (leb s 65535) (leb s 4294967295)
  where
    by : (a b c : Bool) → cond a 1 (cond b 2 (cond c 4 8)) ≤ 8
    by true b c = lit≤ tt
    by false true c = lit≤ tt
    by false false true = lit≤ tt
    by false false false = lit≤ tt

-- ---- slab_sizes
pub length_slab_sizes : length slab_sizes ≡ 78
unfolding slab_sizes
length_slab_sizes = refl

-- ---- the class rule: what is found takes n bytes, and no smaller slab does
fits_found : (n : ℕ) (ss : List ℕ) → first_fit n ss < length ss → n + field_width (get_or ss (first_fit n ss) 0) + check_width ≤ get_or ss (first_fit n ss) 0
unfolding first_fit
fits_found n [] = λ h. absurd (omega arith)
fits_found n (s ∷ ss) = by (leb (n + field_width s + check_width) s) refl (fits_found n ss)
  where
    by : (t : Bool) → leb (n + field_width s + check_width) s ≡ t
        → (first_fit n ss < length ss → n + field_width (get_or ss (first_fit n ss) 0) + check_width ≤ get_or ss (first_fit n ss) 0)
        → cond t 0 (suc (first_fit n ss)) < suc (length ss)
        → n + field_width (get_or (s ∷ ss) (cond t 0 (suc (first_fit n ss))) 0) + check_width ≤ get_or (s ∷ ss) (cond t 0 (suc (first_fit n ss))) 0
    by true e r h = leb-true _ _ e
    by false e r h = r (le_of_suc-le-suc h)

fits_least : (n : ℕ) (ss : List ℕ) (j : ℕ) → j < first_fit n ss → get_or ss j 0 < n + field_width (get_or ss j 0) + check_width
unfolding first_fit
fits_least n [] j = λ h. absurd (omega arith)
fits_least n (s ∷ ss) j = by (leb (n + field_width s + check_width) s) refl j (fits_least n ss)
  where
    by : (t : Bool) → leb (n + field_width s + check_width) s ≡ t → (j : ℕ)
        → ((j : ℕ) → j < first_fit n ss → get_or ss j 0 < n + field_width (get_or ss j 0) + check_width)
        → j < cond t 0 (suc (first_fit n ss)) → get_or (s ∷ ss) j 0 < n + field_width (get_or (s ∷ ss) j 0) + check_width
    by true e j r h = absurd (omega arith)
    by false e zero r h = leb-false _ _ e
    by false e (suc j) r h = r j (le_of_suc-le-suc h)

pub slab_for_takes : (n : ℕ) → slab_for n < slabs → n + field_width (size_of (slab_for n)) + check_width ≤ size_of (slab_for n)
unfolding slab_for size_of
slab_for_takes n h = fits_found n slab_sizes (rw length_slab_sizes h)

pub slab_for_least : (n j : ℕ) → j < slab_for n → size_of j < n + field_width (size_of j) + check_width
unfolding slab_for size_of
slab_for_least n j h = fits_least n slab_sizes j h

-- ---- a test that holds at every number below n, or at every entry of a list
abbrev pub all_below : (ℕ → Bool) → ℕ → Bool
all_below p zero = true
all_below p (suc n) = p n && all_below p n

pub all_below_at : (p : ℕ → Bool) (n k : ℕ) → all_below p n ≡ true → k < n → p k ≡ true
all_below_at p zero k e h = absurd (omega arith)
all_below_at p (suc n) k e h =
    let b = and_true (p n) (all_below p n) e in
    ⊎_elim (λ (q : k ≡ n). rw q b.0) (λ (q : k < n). all_below_at p n k b.1 q) (eq-or-lt_of_le (le_of_suc-le-suc h))

abbrev pub all_in : (ℕ → Bool) → List ℕ → Bool
all_in p [] = true
all_in p (t ∷ ts) = p t && all_in p ts

pub all_in_at : (p : ℕ → Bool) (l : List ℕ) (s : ℕ) → all_in p l ≡ true → elem s l ≡ true → p s ≡ true
all_in_at p [] s e h = clash (sym h)
all_in_at p (t ∷ ts) s e h =
    let b = and_true (p t) (all_in p ts) e in
    ⊎_elim (λ (q : s ≡ t). rw q b.0) (λ (q : elem s ts ≡ true). all_in_at p ts s b.1 q) (elem_cases s t ts h)

-- ---- size_of
pub size_of_past : (slab : ℕ) → 78 ≤ slab → size_of slab ≡ 0
unfolding size_of slab_sizes
size_of_past slab h = get_or-eq_default slab_sizes 0 h

-- the sizes worked out: four to each doubling up to 65,536, then two, and one more at 43
abbrev pub quarter : ℕ → ℕ
quarter k = (4 + k % 4) * 2 ^ (4 + k / 4) % 2 ^ 64

abbrev pub half : ℕ → ℕ
half k = (3 + k % 2) * 2 ^ (15 + k / 2) % 2 ^ 64

abbrev worked : ℕ → ℕ
worked k = cond (ltb k 41) (quarter k) (cond (eqb k 43) 163840 (cond (ltb k 43) (half (k - 41)) (half (k - 42))))

pub size_of_worked : (k : ℕ) → k < 78 → worked k ≡ size_of k
unfolding size_of slab_sizes
size_of_worked k h = eqb-true _ _ (all_below_at (λ k. eqb (worked k) (size_of k)) 78 k refl h)

-- what is larger at each slab than at the one before is larger than at all before
ascends : (f : ℕ → ℕ) → all_below (λ k. ltb (f k) (f (suc k))) 77 ≡ true → (j k : ℕ) → j < k → k < 78 → f j < f k
ascends f e j zero h l = absurd (omega arith)
ascends f e j (suc k) h l =
    let step = ltb-true _ _ (all_below_at (λ k. ltb (f k) (f (suc k))) 77 k e (omega arith)) in
    ⊎_elim (λ (q : j ≡ k). rw q step) (λ (q : j < k). lt_trans (ascends f e j k q (omega arith)) step) (eq-or-lt_of_le (le_of_suc-le-suc h))

pub size_of_ascends : (j k : ℕ) → j < k → k < 78 → size_of j < size_of k
unfolding size_of slab_sizes
size_of_ascends = ascends size_of refl

-- ---- slab_for by the longest object that each slab takes
abbrev pub longest : ℕ → ℕ
longest slab = longest_object (size_of slab)

longest_ascends : (j k : ℕ) → j < k → k < 78 → longest j < longest k
unfolding longest_object field_width size_of slab_sizes
longest_ascends = ascends longest refl

-- the slab of n bytes comes after one that does not take them
slab_for_after : (n k : ℕ) → k < 78 → longest k < n → k < slab_for n
unfolding longest_object
slab_for_after n k h l =
    by_test (ltb k (slab_for n)) (ltb-true k (slab_for n))
    (λ t.
    let upto : slab_for n ≤ k = ltb-false k (slab_for n) t in
    let takes = slab_for_takes n (omega arith) in
    ⊎_elim (λ (e : slab_for n ≡ k). absurd (omega (arith, ap longest e)))
    (λ (j : slab_for n < k). absurd (omega (arith, longest_ascends (slab_for n) k j h)))
    (eq-or-lt_of_le upto))

-- a slab that takes n bytes is theirs, or a smaller one is
pub slab_for_upto : (n k : ℕ) → n + field_width (size_of k) + check_width ≤ size_of k → slab_for n ≤ k
slab_for_upto n k h = by_test (ltb k (slab_for n)) (λ t. absurd (omega (arith, slab_for_least n k (ltb-true k (slab_for n) t)))) (ltb-false k (slab_for n))

-- n bytes are of the slab after k where k does not take them and that one does
pub slab_for_next : (n k : ℕ) → k < 77 → longest k < n → n ≤ longest (suc k) → slab_for n ≡ suc k
unfolding longest_object
slab_for_next n k h l m = omega (arith, slab_for_after n k (omega arith) l, slab_for_upto n (suc k) (omega arith))

pub slab_for_first : (n : ℕ) → n ≤ longest_in_first → slab_for n ≡ 0
unfolding size_of slab_sizes field_width
slab_for_first n h = omega (arith, slab_for_upto n 0 (omega arith))

pub slab_for_some : (n : ℕ) → n ≤ longest_with8 → slab_for n < slabs
unfolding size_of slab_sizes field_width
slab_for_some n h = omega (arith, slab_for_upto n 77 (omega arith))

slab_for_none : (n : ℕ) → longest_with8 < n → slabs ≤ slab_for n
unfolding longest_object field_width size_of slab_sizes
slab_for_none n h = slab_for_after n 77 (lit< tt) h

-- ---- class_of
pub class_of_slab : (n k : ℕ) → n ≤ longest_with8 → k ≡ slab_for n → Ok k ≡ class_of n
unfolding class_of
class_of_slab n k h e = simp (e, lt-ltb (slab_for n) slabs (slab_for_some n h))

pub class_of_none : (n : ℕ) → longest_with8 < n → Err (refusal too_large 0) ≡ class_of n
unfolding class_of
class_of_none n h = simp (le-ltb (slab_for n) slabs (slab_for_none n h))

-- ---- is_slab_size: by the odd part and the power of two
halve : (n t : ℕ) → n % 2 ≡ 0 → n / 2 / 2 ^ t * 2 ^ t ≡ n / 2 → n / 2 ^ suc t * 2 ^ suc t ≡ n
halve n t e h =
    let q : n / 2 ^ suc t ≡ n / 2 / 2 ^ t = ap (λ (x : ℕ). n / 2 ^ x) (sym (one-add t)) ∙ sym (shr-shr n 1 t) in
    let a : n / 2 / 2 ^ t * (2 ^ t * 2) ≡ n / 2 / 2 ^ t * 2 ^ t * 2 = sym (mul_assoc (n / 2 / 2 ^ t) (2 ^ t) 2) in
    rw (q, pow-suc 2 t, a, h) (omega arith)

-- a number is its odd part times its power of two
pub odd_power : (k n : ℕ) → n / 2 ^ count_trailing_zeros k n * 2 ^ count_trailing_zeros k n ≡ n
unfolding count_trailing_zeros
odd_power zero n = omega arith
odd_power (suc k) n = by (n % 2) refl (odd_power k (n / 2))
  where
    by : (d : ℕ) → n % 2 ≡ d → n / 2 / 2 ^ count_trailing_zeros k (n / 2) * 2 ^ count_trailing_zeros k (n / 2) ≡ n / 2
        → n / 2 ^ under d (count_trailing_zeros k (n / 2)) * 2 ^ under d (count_trailing_zeros k (n / 2)) ≡ n
    by zero e h = halve n (count_trailing_zeros k (n / 2)) e h
    by (suc d) e h = omega arith

goes_lt : (odd power : ℕ) → goes odd power ≡ true → odd < 8
unfolding goes
goes_lt odd power h =
    by_test (ltb odd 8) (ltb-true odd 8)
    (λ l.
    let large = ltb-false odd 8 l in
    let n : (k : ℕ) → k < 8 → eqb odd k ≡ false = λ k b. ne_eqb odd k (λ (e : odd ≡ k). omega arith) in
    clash (sym (simp (n 1 (lit< tt), n 3 (lit< tt), n 5 (lit< tt), n 7 (lit< tt)) at h)))

-- what goes together makes a slab size
goes_slab : (odd power : ℕ) → odd < 8 → power < 35 → goes odd power ≡ true → is_slab_size (odd * 2 ^ power) ≡ true
unfolding is_slab_size slab_sizes goes
goes_slab odd power o p h =
    let right : ℕ → ℕ → Bool = λ odd power. not (goes odd power) || is_slab_size (odd * 2 ^ power) in
    let t = all_below_at (right odd) 35 power (all_below_at (λ odd. all_below (right odd) 35) 8 odd refl o) p in
    simp h at t

-- the parts of a slab size go together
slab_goes : (s : ℕ) → is_slab_size s ≡ true → goes (s / 2 ^ count_trailing_zeros 64 s) (count_trailing_zeros 64 s) ≡ true
unfolding is_slab_size slab_sizes goes count_trailing_zeros
slab_goes s h = all_in_at (λ s. goes (s / 2 ^ count_trailing_zeros 64 s) (count_trailing_zeros 64 s)) slab_sizes s refl h

slab_power : (s : ℕ) → is_slab_size s ≡ true → count_trailing_zeros 64 s < 35
unfolding is_slab_size slab_sizes count_trailing_zeros
slab_power s h = ltb-true _ _ (all_in_at (λ s. ltb (count_trailing_zeros 64 s) 35) slab_sizes s refl h)

pub is_slab_size_goes : (s : ℕ) → count_trailing_zeros 64 s < 35 → is_slab_size s ≡ goes (s / 2 ^ count_trailing_zeros 64 s) (count_trailing_zeros 64 s)
is_slab_size_goes s p =
    let odd = s / 2 ^ count_trailing_zeros 64 s in
    both_ways (is_slab_size s) (goes odd (count_trailing_zeros 64 s)) (slab_goes s)
    (λ h. rw (odd_power 64 s) at (goes_slab odd (count_trailing_zeros 64 s) (goes_lt odd (count_trailing_zeros 64 s) h) p h))

pub is_slab_size_far : (s : ℕ) → 35 ≤ count_trailing_zeros 64 s → is_slab_size s ≡ false
is_slab_size_far s p = by_test (is_slab_size s) (λ h. absurd (not-le_of_lt (slab_power s h) p)) (λ h. h)

-- ---- frames
-- every slab takes a frame, and a byte
pub is_slab_size_least : (s : ℕ) → is_slab_size s ≡ true → 64 ≤ s
unfolding is_slab_size slab_sizes
is_slab_size_least s h = leb-true _ _ (all_in_at (λ s. leb 64 s) slab_sizes s refl h)

pub is_slab_size_below : (s : ℕ) → s < 64 → false ≡ is_slab_size s
is_slab_size_below s h = by (is_slab_size s) refl
  where
    by : (k : Bool) → is_slab_size s ≡ k → false ≡ k
    by true p = absurd (omega (arith, is_slab_size_least s p))
    by false p = refl

pub is_slab_size_most : (s : ℕ) → is_slab_size s ≡ true → s ≤ 17179869184
unfolding is_slab_size slab_sizes
is_slab_size_most s h = leb-true _ _ (all_in_at (λ s. leb s 17179869184) slab_sizes s refl h)

-- a slab's size is its longest object, its length field and its check
pub longest_object_frame : (s : ℕ) → is_slab_size s ≡ true → longest_object s + field_width s + check_width ≡ s
unfolding longest_object
longest_object_frame s h = omega (arith, is_slab_size_least s h, field_width_le s)

-- a length of no more than the longest object fits the length field
pub longest_object_lt : (s : ℕ) → s < 2 ^ 64 → longest_object s < 256 ^ field_width s
unfolding longest_object field_width
longest_object_lt s h = by (leb s 255) (leb s 65535) (leb s 4294967295) refl refl refl
  where
    by : (a b c : Bool) → leb s 255 ≡ a → leb s 65535 ≡ b → leb s 4294967295 ≡ c
        → s - (cond a 1 (cond b 2 (cond c 4 8)) + check_width) < 256 ^ cond a 1 (cond b 2 (cond c 4 8))
    by true b c p q r = omega (arith, leb-true)
    by false true c p q r = omega (arith, leb-true)
    by false false true p q r = omega (arith, leb-true)
    by false false false p q r = omega arith
