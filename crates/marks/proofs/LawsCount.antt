-- Laws of `count_if`, `last_taken` and `tip`, by recursion over the marks. Assumes nothing.
use mathlib.Core.Bool.{Bool, true, false, not, cond}
use mathlib.Core.List.{List, [], ◌∷◌, ◌++◌, map}
use mathlib.Core.Path.{◌≡◌, refl, ap, ◌∙◌}
use Prim.Native.Nat.{ℕ, zero, suc, ◌+◌, ◌-◌, ◌≤◌, ◌<◌}
use native.Mathlib.Numerals.{add-one}
use native.Mathlib.Omega.{arith}
use lib.Dec.{eqb-suc-zero}
use lib.ListN.{length, get_or, take, drop, set, take-append-drop, length-drop, drop_of_length-le}
use lib.Seq.{drop-cons, drop-drop, take-suc, take-add, take_all, length-take-le}
use Rattle.std.specs.Prelude.{fold}
use Rattle.std.specs.List.{count_by}
use Rattle.marks.specs.Marks.{is_free, is_pending, is_held, is_taken, count_if, above, last_taken, tip_of, tip}

-- what one mark adds to a count
abbrev pub weight : Bool → ℕ
weight b = cond b 1 0

-- ---- count_if
count_if_add : (b : Bool) (n : ℕ) → cond b (suc n) n ≡ weight b + n
count_if_add true n = omega arith
count_if_add false n = omega arith

pub count_if_cons : (p : ℕ → Bool) (m : ℕ) (ms : List ℕ) → count_if p (m ∷ ms) ≡ weight (p m) + count_if p ms
count_if_cons p m ms = count_if_add (p m) (count_if p ms)

pub count_if_append : (p : ℕ → Bool) (xs ys : List ℕ) → count_if p (xs ++ ys) ≡ count_if p xs + count_if p ys
count_if_append p [] ys = omega arith
count_if_append p (x ∷ xs) ys = rw (count_if_cons p x (xs ++ ys), count_if_cons p x xs, count_if_append p xs ys) (omega arith)

pub count_if_set : (p : ℕ → Bool) (ms : List ℕ) (n v : ℕ) → n < length ms → count_if p (set ms n v) + weight (p (get_or ms n 0)) ≡ count_if p ms + weight (p v)
count_if_set p [] n v h = absurd (omega arith)
count_if_set p (m ∷ ms) zero v h = rw (count_if_cons p v ms, count_if_cons p m ms) (omega arith)
count_if_set p (m ∷ ms) (suc n) v h = let r = count_if_set p ms n v (omega arith) in rw (count_if_cons p m (set ms n v), count_if_cons p m ms) (omega arith)

pub count_if_le : (p : ℕ → Bool) (ms : List ℕ) → count_if p ms ≤ length ms
count_if_le p [] = omega arith
count_if_le p (m ∷ ms) = by (p m) (count_if p ms) (count_if_le p ms)
  where
    by : (b : Bool) (n : ℕ) → n ≤ length ms → cond b (suc n) n ≤ suc (length ms)
    by true n h = omega arith
    by false n h = omega arith

-- counted from the front
count_if_from : (p : ℕ → Bool) (ms : List ℕ) (n : ℕ) → fold (λ a m. a + cond (p m) 1 0) n ms ≡ n + count_if p ms
count_if_from p [] n = omega arith
count_if_from p (m ∷ ms) n = count_if_from p ms (n + weight (p m)) ∙ omega (arith, count_if_cons p m ms)

pub count_if_by : (p : ℕ → Bool) (ms : List ℕ) → count_by p ms ≡ count_if p ms
count_if_by p ms = count_if_from p ms 0 ∙ omega arith

-- two tests of the same marks, the second through f
pub count_if_map : (p q : ℕ → Bool) (f : ℕ → ℕ) → ((m : ℕ) → p (f m) ≡ q m) → (ms : List ℕ) → count_if p (map f ms) ≡ count_if q ms
count_if_map p q f h [] = refl
count_if_map p q f h (m ∷ ms) = rw (h m, count_if_map p q f h ms)

pub count_if_none : (ms : List ℕ) → count_if (λ m. false) ms ≡ 0
count_if_none [] = refl
count_if_none (m ∷ ms) = count_if_none ms

-- each mark is free or taken
pub count_if_taken_free : (ms : List ℕ) → count_if is_taken ms + count_if is_free ms ≡ length ms
count_if_taken_free [] = refl
count_if_taken_free (m ∷ ms) = by (is_free m) (count_if is_taken ms) (count_if is_free ms) (count_if_taken_free ms)
  where
    by : (b : Bool) (t f : ℕ) → t + f ≡ length ms → cond (not b) (suc t) t + cond b (suc f) f ≡ suc (length ms)
    by true t f h = omega arith
    by false t f h = omega arith

-- each taken mark is held or pending
pub count_if_held_pending : (ms : List ℕ) → count_if is_held ms + count_if is_pending ms ≡ count_if is_taken ms
count_if_held_pending [] = refl
count_if_held_pending (zero ∷ ms) = count_if_held_pending ms
count_if_held_pending (suc m ∷ ms) =
    rw (eqb-suc-zero m) (by (is_pending (suc m)) (count_if is_held ms) (count_if is_pending ms) (count_if is_taken ms) (count_if_held_pending ms))
  where
    by : (b : Bool) (h p t : ℕ) → h + p ≡ t → cond (not b) (suc h) h + cond b (suc p) p ≡ suc t
    by true h p t e = omega arith
    by false h p t e = omega arith

-- a loop's turn, and a block of turns
pub count_if_turn : (p : ℕ → Bool) (ms : List ℕ) (i : ℕ) → i < length ms → count_if p (drop i ms) ≡ weight (p (get_or ms i 0)) + count_if p (drop (i + 1) ms)
count_if_turn p ms i h = rw (drop-cons ms i 0 h, add-one i) (count_if_cons p (get_or ms i 0) (drop (suc i) ms))

pub count_if_end : (p : ℕ → Bool) (ms : List ℕ) (i : ℕ) → length ms ≤ i → count_if p (drop i ms) ≡ 0
count_if_end p ms i h = rw (drop_of_length-le ms h)

pub count_if_block : (p : ℕ → Bool) (ms : List ℕ) (i n : ℕ) → count_if p (drop i ms) ≡ count_if p (take n (drop i ms)) + count_if p (drop (i + n) ms)
count_if_block p ms i n =
    rw (← drop-drop n i ms) (rw (take-append-drop n (drop i ms)) at (count_if_append p (take n (drop i ms)) (drop n (drop i ms))))

pub count_if_rest : (p : ℕ → Bool) (ms : List ℕ) (i : ℕ) → count_if p (take (length ms - i) (drop i ms)) ≡ count_if p (drop i ms)
count_if_rest p ms i = ap (count_if p) (take_all (length ms - i) (drop i ms) (omega (arith, length-drop i ms)))

pub count_if_split : (p : ℕ → Bool) (ms : List ℕ) (n : ℕ) → count_if p ms ≡ count_if p (take n ms) + count_if p (drop n ms)
count_if_split p ms n = let e : 0 + n ≡ n = omega arith in rw e at (count_if_block p ms 0 n)

-- ---- last_taken
pub above_taken : (n m : ℕ) → above n (suc m) ≡ suc n
above_taken zero m = refl
above_taken (suc n) m = refl

above_some : (n m : ℕ) → 0 < n → above n m ≡ suc n
above_some zero m h = absurd (omega arith)
above_some (suc n) m h = refl

pub last_taken_le : (ms : List ℕ) → last_taken ms ≤ length ms
last_taken_le [] = omega arith
last_taken_le (m ∷ ms) = by (last_taken ms) m (last_taken_le ms)
  where
    by : (n m : ℕ) → n ≤ length ms → above n m ≤ suc (length ms)
    by zero zero h = omega arith
    by zero (suc m) h = omega arith
    by (suc n) m h = omega arith

-- free marks at the end are passed over
pub last_taken_append : (xs ys : List ℕ) → last_taken ys ≡ 0 → last_taken (xs ++ ys) ≡ last_taken xs
last_taken_append [] ys e = e
last_taken_append (x ∷ xs) ys e = rw (last_taken_append xs ys e)

pub last_taken_over : (xs ys : List ℕ) → 0 < last_taken ys → last_taken (xs ++ ys) ≡ length xs + last_taken ys
last_taken_over [] ys h = omega arith
last_taken_over (x ∷ xs) ys h =
    let r = last_taken_over xs ys h in
    above_some (last_taken (xs ++ ys)) x (omega arith) ∙ omega arith

pub last_taken_skip : (ms : List ℕ) (i n : ℕ) → last_taken (take n (drop i ms)) ≡ 0 → last_taken (take (i + n) ms) ≡ last_taken (take i ms)
last_taken_skip ms i n e = rw (take-add i n ms) (last_taken_append (take i ms) (take n (drop i ms)) e)

-- the last of the first i + 1 marks is free, or is the one
pub last_taken_free : (ms : List ℕ) (i : ℕ) → i < length ms → get_or ms i 0 ≡ 0 → last_taken (take (suc i) ms) ≡ last_taken (take i ms)
last_taken_free ms i h e = rw (take-suc ms i 0 h, e) (last_taken_append (take i ms) (0 ∷ []) refl)

pub last_taken_here : (ms : List ℕ) (i : ℕ) → i < length ms → (get_or ms i 0 ≡ 0 → ⊥) → last_taken (take (suc i) ms) ≡ suc i
last_taken_here ms i h n =
    let one = last (get_or ms i 0) n in
    let r = last_taken_over (take i ms) (get_or ms i 0 ∷ []) (omega arith) in
    let l = length-take-le i ms (omega arith) in
    rw (take-suc ms i 0 h) (omega arith)
  where
    last : (m : ℕ) → (m ≡ 0 → ⊥) → above 0 m ≡ 1
    last zero q = absurd (q refl)
    last (suc m) q = refl

-- no number from there on is taken
pub last_taken_above : (ms : List ℕ) (n : ℕ) → last_taken ms ≤ n → count_if is_taken (drop n ms) ≡ 0
last_taken_above [] zero h = refl
last_taken_above [] (suc n) h = refl
last_taken_above (m ∷ ms) zero h = by (last_taken ms) m (last_taken_above ms 0) h
  where
    by : (l m : ℕ) → (l ≤ 0 → count_if is_taken ms ≡ 0) → above l m ≤ 0 → count_if is_taken (m ∷ ms) ≡ 0
    by zero zero r h = r (omega arith)
    by zero (suc m) r h = absurd (omega arith)
    by (suc l) m r h = absurd (omega arith)
last_taken_above (m ∷ ms) (suc n) h = last_taken_above ms n (by (last_taken ms) m h)
  where
    by : (l m : ℕ) → above l m ≤ suc n → l ≤ n
    by zero m h = omega arith
    by (suc l) m h = omega arith

-- a taken number is below it
pub last_taken_gt : (ms : List ℕ) (j : ℕ) → (get_or ms j 0 ≡ 0 → ⊥) → j < last_taken ms
last_taken_gt [] j n = absurd (n refl)
last_taken_gt (zero ∷ ms) zero n = absurd (n refl)
last_taken_gt (suc m ∷ ms) zero n = by (last_taken ms)
  where
    by : (l : ℕ) → 0 < above l (suc m)
    by zero = omega arith
    by (suc l) = omega arith
last_taken_gt (m ∷ ms) (suc j) n = let r = last_taken_gt ms j n in omega (arith, above_some (last_taken ms) m (omega arith))

pub live_le_last_taken : (ms : List ℕ) → count_if is_taken ms ≤ last_taken ms
live_le_last_taken ms =
    omega (arith, count_if_split is_taken ms (last_taken ms), last_taken_above ms (last_taken ms) (omega arith), count_if_le is_taken (take (last_taken ms) ms), length-take-le (last_taken ms) ms (last_taken_le ms))

pub last_taken_rest : (ms : List ℕ) (i : ℕ) → last_taken (take (length ms - i) (drop i ms)) ≡ last_taken (drop i ms)
last_taken_rest ms i = ap last_taken (take_all (length ms - i) (drop i ms) (omega (arith, length-drop i ms)))

-- ---- tip
pub tip_of_taken : (n used : ℕ) → (n ≡ 0 → ⊥) → tip_of n used ≡ n
tip_of_taken zero used h = absurd (h refl)
tip_of_taken (suc n) used h = refl

pub tip_of_used : (used : ℕ) → (used ≡ 0 → ⊥) → tip_of 0 used ≡ 1
tip_of_used zero h = absurd (h refl)
tip_of_used (suc used) h = refl

pub tip_ge : (ms : List ℕ) (used : ℕ) → last_taken ms ≤ tip ms used
tip_ge ms used = by (last_taken ms) used
  where
    by : (l u : ℕ) → l ≤ tip_of l u
    by zero u = omega arith
    by (suc l) u = omega arith

pub tip_le : (ms : List ℕ) (used : ℕ) → 1 ≤ length ms → tip ms used ≤ length ms
tip_le ms used h = by (last_taken ms) used (last_taken_le ms)
  where
    by : (l u : ℕ) → l ≤ length ms → tip_of l u ≤ length ms
    by zero zero g = omega arith
    by zero (suc u) g = omega arith
    by (suc l) u g = g

pub live_le_tip : (ms : List ℕ) (used : ℕ) → count_if is_taken ms ≤ tip ms used
live_le_tip ms used = omega (arith, live_le_last_taken ms, tip_ge ms used)

-- held plus pending plus free below the tip is the tip
pub tip_tally : (ms : List ℕ) (used : ℕ) → 1 ≤ length ms → count_if is_taken ms + count_if is_free (take (tip ms used) ms) ≡ tip ms used
tip_tally ms used h =
    let t = tip ms used in
    omega (arith, count_if_split is_taken ms t, last_taken_above ms t (tip_ge ms used), count_if_taken_free (take t ms), length-take-le t ms (tip_le ms used h))
