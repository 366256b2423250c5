-- Laws of `first_free` and `smallest_free`: what a search finds is free, and nothing between is. By recursion over the marks. Assumes nothing.
use mathlib.Core.List.{List, [], ◌∷◌, ◌++◌}
use mathlib.Core.Logic.{◌⊎◌, inl, inr, ⊎_elim}
use mathlib.Core.Path.{◌≡◌, refl, ap}
use Prim.Native.Nat.{ℕ, zero, suc, ◌+◌, ◌≤◌, ◌<◌}
use native.Mathlib.Nat.{suc-add}
use native.Mathlib.Numerals.{add-one}
use native.Mathlib.Omega.{arith}
use lib.ListN.{length, get_or, take, drop, set, length-drop, take-append-drop, get_or-eq_default}
use lib.Seq.{drop-drop, length-take-le}
use lib.Dec.{ltb, eqb-suc-zero}
use borrow.Author.Tests.{ltb-true, ltb-false}
use Rattle.refusal.proofs.Tests.{by_test}
use Rattle.marks.specs.Marks.{is_free, first_free, smallest_free, count_if}

-- one of two numbers is below the other, or not
pub lt_or_le : (a b : ℕ) → (a < b) ⊎ (b ≤ a)
lt_or_le a b = by_test (ltb a b) (λ e. inl (ltb-true a b e)) (λ e. inr (ltb-false a b e))

-- ---- first_free
pub first_free_le : (ms : List ℕ) → first_free ms ≤ length ms
first_free_le [] = omega arith
first_free_le (zero ∷ ms) = omega arith
first_free_le (suc m ∷ ms) = let r = first_free_le ms in omega arith

pub first_free_free : (ms : List ℕ) → get_or ms (first_free ms) 0 ≡ 0
first_free_free [] = refl
first_free_free (zero ∷ ms) = refl
first_free_free (suc m ∷ ms) = first_free_free ms

pub first_free_least : (ms : List ℕ) (j : ℕ) → j < first_free ms → get_or ms j 0 ≡ 0 → ⊥
first_free_least [] j h e = omega arith
first_free_least (zero ∷ ms) j h e = omega arith
first_free_least (suc m ∷ ms) zero h e = omega arith
first_free_least (suc m ∷ ms) (suc j) h e = first_free_least ms j (omega arith) e

-- marks of which none is free are passed over
pub first_free_append : (xs ys : List ℕ) → first_free xs ≡ length xs → first_free (xs ++ ys) ≡ length xs + first_free ys
first_free_append [] ys e = omega arith
first_free_append (zero ∷ xs) ys e = absurd (omega arith)
first_free_append (suc m ∷ xs) ys e = let r = first_free_append xs ys (omega arith) in omega arith

-- a free one among the first n is the first
pub first_free_near : (ms : List ℕ) (n : ℕ) → first_free (take n ms) < n → first_free (take n ms) ≡ first_free ms
first_free_near ms zero h = omega arith
first_free_near [] (suc n) h = refl
first_free_near (zero ∷ ms) (suc n) h = refl
first_free_near (suc m ∷ ms) (suc n) h = ap suc (first_free_near ms n (omega arith))

-- ---- smallest_free
pub smallest_free_ge : (from : ℕ) (ms : List ℕ) → from ≤ smallest_free from ms
smallest_free_ge from ms = omega arith

pub smallest_free_le : (from : ℕ) (ms : List ℕ) → from ≤ length ms → smallest_free from ms ≤ length ms
smallest_free_le from ms h = omega (arith, first_free_le (drop from ms), length-drop from ms)

pub smallest_free_suc : (from m : ℕ) (ms : List ℕ) → smallest_free (suc from) (m ∷ ms) ≡ suc (smallest_free from ms)
smallest_free_suc from m ms = suc-add from (first_free (drop from ms))

-- what is found is free, where it is a number at all
pub smallest_free_free : (from : ℕ) (ms : List ℕ) → get_or ms (smallest_free from ms) 0 ≡ 0
smallest_free_free zero ms = let e : 0 + first_free ms ≡ first_free ms = omega arith in rw e (first_free_free ms)
smallest_free_free (suc from) [] = refl
smallest_free_free (suc from) (m ∷ ms) = rw smallest_free_suc (smallest_free_free from ms)

-- nothing smaller is free, from `from` on
pub smallest_free_least : (from : ℕ) (ms : List ℕ) (j : ℕ) → from ≤ j → j < smallest_free from ms → get_or ms j 0 ≡ 0 → ⊥
smallest_free_least zero ms j g h e = first_free_least ms j (omega arith) e
smallest_free_least (suc from) [] j g h e = omega (arith, h)
smallest_free_least (suc from) (m ∷ ms) zero g h e = omega arith
smallest_free_least (suc from) (m ∷ ms) (suc j) g h e = smallest_free_least from ms j (omega arith) (omega (arith, smallest_free_suc from m ms)) e

pub smallest_free_here : (ms : List ℕ) (i : ℕ) → get_or ms i 0 ≡ 0 → smallest_free i ms ≡ i
smallest_free_here [] zero e = refl
smallest_free_here (zero ∷ ms) zero e = refl
smallest_free_here (suc m ∷ ms) zero e = absurd (omega arith)
smallest_free_here [] (suc i) e = omega arith
smallest_free_here (m ∷ ms) (suc i) e = rw (smallest_free_suc i m ms) (ap suc (smallest_free_here ms i e))

pub smallest_free_past : (ms : List ℕ) (i : ℕ) → length ms ≤ i → smallest_free i ms ≡ i
smallest_free_past ms i h = smallest_free_here ms i (get_or-eq_default ms 0 h)

smallest_free_up : (ms : List ℕ) (i : ℕ) → (get_or ms i 0 ≡ 0 → ⊥) → smallest_free i ms ≡ smallest_free (suc i) ms
smallest_free_up [] i n = absurd (n refl)
smallest_free_up (zero ∷ ms) zero n = absurd (n refl)
smallest_free_up (suc m ∷ ms) zero n = omega arith
smallest_free_up (m ∷ ms) (suc i) n = rw (smallest_free_suc i m ms, smallest_free_suc (suc i) m ms) (ap suc (smallest_free_up ms i n))

pub smallest_free_next : (ms : List ℕ) (i : ℕ) → (get_or ms i 0 ≡ 0 → ⊥) → smallest_free i ms ≡ smallest_free (i + 1) ms
smallest_free_next ms i n = rw add-one (smallest_free_up ms i n)

-- a part of which none is free is passed over
pub smallest_free_skip : (ms : List ℕ) (i n : ℕ) → i + n ≤ length ms → first_free (take n (drop i ms)) ≡ length (take n (drop i ms))
    → smallest_free i ms ≡ smallest_free (i + n) ms
smallest_free_skip ms i n h e =
    let part : length (take n (drop i ms)) ≡ n = length-take-le n (drop i ms) (omega (arith, length-drop i ms)) in
    let r = first_free_append (take n (drop i ms)) (drop n (drop i ms)) e in
    let f : first_free (drop i ms) ≡ n + first_free (drop (i + n) ms) = rw (take-append-drop n (drop i ms), part, drop-drop n i ms) at r in
    omega arith

-- once the number found is taken, the next is found past it
first_free_taken : (ms : List ℕ) → first_free ms < length ms → first_free (set ms (first_free ms) 1) ≡ smallest_free (suc (first_free ms)) ms
first_free_taken [] h = absurd (omega arith)
first_free_taken (zero ∷ ms) h = omega arith
first_free_taken (suc m ∷ ms) h = rw (smallest_free_suc (suc (first_free ms)) (suc m) ms) (ap suc (first_free_taken ms (omega arith)))

smallest_free_after : (from : ℕ) (ms : List ℕ) → smallest_free from ms < length ms
    → smallest_free from (set ms (smallest_free from ms) 1) ≡ smallest_free (suc (smallest_free from ms)) ms
smallest_free_after zero ms h =
    let e : smallest_free 0 ms ≡ first_free ms = omega arith in
    rw e (omega (arith, first_free_taken ms (omega arith)))
smallest_free_after (suc from) [] h = absurd (omega arith)
smallest_free_after (suc from) (m ∷ ms) h =
    let e = smallest_free_suc from m ms in
    rw (e, smallest_free_suc from m (set ms (smallest_free from ms) 1), smallest_free_suc (suc (smallest_free from ms)) m ms) (ap suc (smallest_free_after from ms (omega arith)))

pub smallest_free_taken : (from n : ℕ) (ms : List ℕ) → n ≡ smallest_free from ms → n < length ms → smallest_free from (set ms n 1) ≡ smallest_free (n + 1) ms
smallest_free_taken from n ms e h = rw (add-one n, e) (smallest_free_after from ms (omega arith))

-- a number that is free, with none free between, is the one
pub smallest_free_is : (from n : ℕ) (ms : List ℕ) → from ≤ n → n < length ms → get_or ms n 0 ≡ 0
    → ((j : ℕ) → from ≤ j → j < n → get_or ms j 0 ≡ 0 → ⊥) → smallest_free from ms ≡ n
smallest_free_is from n ms g l e least =
    ⊎_elim
    (λ (b : smallest_free from ms < n). absurd (least (smallest_free from ms) (smallest_free_ge from ms) b (smallest_free_free from ms)))
    (λ (b : n ≤ smallest_free from ms).
    ⊎_elim (λ (a : n < smallest_free from ms). absurd (smallest_free_least from ms n g a e)) (λ (a : smallest_free from ms ≤ n). omega arith) (lt_or_le n (smallest_free from ms)))
    (lt_or_le (smallest_free from ms) n)

-- where no number is free the search ends at the length
pub first_free_none : (ms : List ℕ) → ((j : ℕ) → j < length ms → get_or ms j 0 ≡ 0 → ⊥) → first_free ms ≡ length ms
first_free_none ms none =
    ⊎_elim (λ (h : first_free ms < length ms). absurd (none (first_free ms) h (first_free_free ms))) (λ h. omega (arith, first_free_le ms)) (lt_or_le (first_free ms) (length ms))

-- ---- how many searches succeed
first_free_some : (ms : List ℕ) → 0 < count_if is_free ms → first_free ms < length ms
first_free_some [] h = absurd (omega arith)
first_free_some (zero ∷ ms) h = omega arith
first_free_some (suc m ∷ ms) h = let r = first_free_some ms (rw (eqb-suc-zero m) at h) in omega arith

first_free_count : (ms : List ℕ) → first_free ms < length ms → count_if is_free ms ≡ suc (count_if is_free (drop (suc (first_free ms)) ms))
first_free_count [] h = absurd (omega arith)
first_free_count (zero ∷ ms) h = refl
first_free_count (suc m ∷ ms) h = rw (eqb-suc-zero m) (first_free_count ms (omega arith))

-- where any is free, one is found
pub smallest_free_some : (from : ℕ) (ms : List ℕ) → 0 < count_if is_free (drop from ms) → smallest_free from ms < length ms
smallest_free_some from ms h = omega (arith, first_free_some (drop from ms) h, length-drop from ms)

-- past the number found there is one free number less
pub smallest_free_count : (from n : ℕ) (ms : List ℕ) → n ≡ smallest_free from ms → n < length ms
    → count_if is_free (drop from ms) ≡ suc (count_if is_free (drop (n + 1) ms))
smallest_free_count from n ms e h =
    let next : from + suc (first_free (drop from ms)) ≡ n + 1 = omega arith in
    rw (drop-drop (suc (first_free (drop from ms))) from ms, next) at (first_free_count (drop from ms) (omega (arith, length-drop from ms)))
