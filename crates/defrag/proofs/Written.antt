-- Laws of rows written one after the other: writing xs and then ys is writing xs ++ ys. Assumes nothing.
use mathlib.Core.Path.{◌≡◌, ap, sym, ◌∙◌}
use mathlib.Core.Bool.{Bool, true, false}
use mathlib.Core.List.{List, [], ◌∷◌, ◌++◌}
use Prim.Native.Nat.{ℕ, suc, ◌+◌, ◌<◌, ◌≤◌}
use native.Mathlib.Numerals.{add-one}
use native.Mathlib.Omega.{arith}
use lib.ListN.{length, get_or, set, drop, length-append, drop_of_length-le}
use lib.Seq.{sets, drop-cons}
use Rattle.model.specs.Store.{Row}
use Rattle.model.specs.Tables.{ids_of, locations_of}
use Rattle.model.specs.Defrag.{cons_if}
use Rattle.defrag.specs.Listed.{movable_at, row_of, listed_of}

-- ---- listed_of

pub listed_of_turn : (locations : List ℕ) (l : ℕ) (os : List ℕ) (i : ℕ) → i < length os
    → listed_of locations l (drop i os) ≡ row_of locations l (get_or os i 0) ++ listed_of locations (l + 1) (drop (i + 1) os)
unfolding listed_of
listed_of_turn locations l os i h = ap (listed_of locations l) (drop-cons os i 0 h) ∙ ap (λ k. row_of locations l (get_or os i 0) ++ listed_of locations (l + 1) (drop k os)) (sym (add-one i))

pub listed_of_end : (locations : List ℕ) (l : ℕ) (os : List ℕ) (i : ℕ) → length os ≤ i → listed_of locations l (drop i os) ≡ []
unfolding listed_of
listed_of_end locations l os i h = ap (listed_of locations l) (drop_of_length-le os h)

pub row_of_le : (locations : List ℕ) (l o : ℕ) → length (row_of locations l o) ≤ 1
unfolding row_of
row_of_le locations l o = go (movable_at locations o l)
  where
    go : (b : Bool) → length (cons_if b (o, l) []) ≤ 1
    go true = omega arith
    go false = omega arith

pub listed_of_le : (locations : List ℕ) (l : ℕ) (os : List ℕ) → length (listed_of locations l os) ≤ length os
unfolding listed_of
listed_of_le locations l [] = omega arith
listed_of_le locations l (o ∷ os) =
    omega (arith, length-append (row_of locations l o) (listed_of locations (l + 1) os), row_of_le locations l o, listed_of_le locations (l + 1) os)

pub row_of_none : (locations : List ℕ) (l o : ℕ) → movable_at locations o l ≡ false → row_of locations l o ≡ []
unfolding row_of
row_of_none locations l o e = ap (λ b. cons_if b (o, l) []) e

pub row_of_some : (locations : List ℕ) (l o : ℕ) → movable_at locations o l ≡ true → row_of locations l o ≡ (o, l) ∷ []
unfolding row_of
row_of_some locations l o e = ap (λ b. cons_if b (o, l) []) e

-- ---- one more

sets_ids : (xs ys : List Row) (t : List ℕ) (n : ℕ) → sets t n (ids_of (xs ++ ys)) ≡ sets (sets t n (ids_of xs)) (n + length xs) (ids_of ys)
sets_ids [] ys t n = let e : n ≡ n + 0 = omega arith in ap (λ k. sets t k (ids_of ys)) e
sets_ids (x ∷ xs) ys t n =
    let e : suc n + length xs ≡ n + suc (length xs) = omega arith in
    sets_ids xs ys (set t n x.0) (suc n) ∙ ap (λ k. sets (sets (set t n x.0) (suc n) (ids_of xs)) k (ids_of ys)) e

sets_locations : (xs ys : List Row) (t : List ℕ) (n : ℕ) → sets t n (locations_of (xs ++ ys)) ≡ sets (sets t n (locations_of xs)) (n + length xs) (locations_of ys)
sets_locations [] ys t n = let e : n ≡ n + 0 = omega arith in ap (λ k. sets t k (locations_of ys)) e
sets_locations (x ∷ xs) ys t n =
    let e : suc n + length xs ≡ n + suc (length xs) = omega arith in
    sets_locations xs ys (set t n x.1) (suc n) ∙ ap (λ k. sets (sets (set t n x.1) (suc n) (locations_of xs)) k (locations_of ys)) e

-- of `left`, xs is written at n and ys is left, from m on: the whole, w, stays the same
module _ (xs ys : List Row) (n : ℕ) {left : List Row} {m : ℕ} (split : left ≡ xs ++ ys) (more : m ≡ n + length xs) where
  pub next_count : {w : ℕ} → n + length left ≡ w → m + length ys ≡ w
  next_count e = let l : length left ≡ length xs + length ys = ap length split ∙ length-append xs ys in omega arith

  pub next_ids : (t : List ℕ) {t' w : List ℕ} → t' ≡ sets t n (ids_of xs) → sets t n (ids_of left) ≡ w → sets t' m (ids_of ys) ≡ w
  next_ids t {t'} {w} s e =
      (λ i. sets (s i) (more i) (ids_of ys)) ∙ sym (sets_ids xs ys t n) ∙ ap (λ r. sets t n (ids_of r)) (sym split) ∙ e

  pub next_locations : (t : List ℕ) {t' w : List ℕ} → t' ≡ sets t n (locations_of xs) → sets t n (locations_of left) ≡ w → sets t' m (locations_of ys) ≡ w
  next_locations t {t'} {w} s e =
      (λ i. sets (s i) (more i) (locations_of ys)) ∙ sym (sets_locations xs ys t n) ∙ ap (λ r. sets t n (locations_of r)) (sym split) ∙ e
