-- Laws that the code's steps come to: the first of some rows, a row written over zeros, the next row kept. Assumes nothing.
use mathlib.Core.Path.{◌≡◌, refl, sym, ap, ◌∙◌}
use mathlib.Core.Bool.{Bool, true, false, cond, not, ◌&&◌}
use mathlib.Core.List.{List, [], ◌∷◌, ◌++◌}
use Prim.Native.Nat.{ℕ, zero, suc, ◌+◌, ◌-◌, ◌*◌, ◌≤◌, ◌<◌}
use native.Mathlib.Numerals.{add-one}
use native.Mathlib.Omega.{arith}
use lib.Dec.{eqb, eqb-suc-zero}
use lib.ListN.{length, get_or, set, take, drop, replicate, length-append, length-drop, length-replicate, length-map}
use lib.ListN.{get_or-replicate, drop_of_length-le}
use lib.Seq.{append_snoc, drop-cons, drop-drop, take_at, drop_at, set_at, length-take-le}
use borrow.Author.Tests.{not-true, not-false}
use borrow.Rule.Slice.PartMut.{put_mid}
use native.Mathlib.Decide.{dec_lt}
use lib.ListN.{take-append-drop}
use borrow.Author.Tests.{lt-ltb, le-ltb}
use Rattle.std.specs.List.{position, position_or_len, prefix_len}
use Rattle.std.specs.Option.{unwrap_or}
use Rattle.std.proofs.lemmas.Bool.{cases_lt}
use mathlib.Core.Logic.{◌⊎◌, inl, inr}
use Rattle.std.specs.Simd.{first_chunks}
use Rattle.list_parts.specs.Parts.{part}
use Rattle.list_parts.proofs.Parts.{length_chunks, chunk_at}
use Rattle.list_parts.proofs.Ranges.{put_middle}
use Rattle.carried.proofs.Each.{drop_zeros}
use Rattle.carried.proofs.Laws.{put_row_none}
use Prim.Native.Nat.{◌^◌, min}
use Rattle.carried.specs.Carried.{width, put_row, put_rows, up_from}
use Rattle.keys.specs.Keys.{key_is_long, kept_length, normal, normal_of, long_in, normal_rows, is_store, all_stored, first_met}
use Rattle.keys.proofs.Laws.{length_normal_of, all_stored_replicate}

-- ---- the rows from row i on: the first, and the others

next_rows : (rows : List ℕ) (i : ℕ) → drop width (drop (i * width) rows) ≡ drop ((i + 1) * width) rows
next_rows rows i = let e : i * width + width ≡ (i + 1) * width = omega arith in drop-drop width (i * width) rows ∙ ap (λ n. drop n rows) e

pub long_in_next : (ss : List Bool) (rows : List ℕ) (i : ℕ) → i < length ss
    → long_in (drop i ss) (drop (i * width) rows)
    ≡ (get_or ss i false && key_is_long (part width rows i)) ∷ long_in (drop (i + 1) ss) (drop ((i + 1) * width) rows)
unfolding long_in
long_in_next ss rows i h = rw (drop-cons ss i false h, next_rows rows i, add-one i)

pub normal_rows_next : (ss : List Bool) (rows : List ℕ) (i : ℕ) → i < length ss
    → normal_rows (drop i ss) (drop (i * width) rows)
    ≡ normal_of (get_or ss i false) (part width rows i) ++ normal_rows (drop (i + 1) ss) (drop ((i + 1) * width) rows)
unfolding normal_rows
normal_rows_next ss rows i h = rw (drop-cons ss i false h, next_rows rows i, add-one i)

-- ---- the test of a byte

pub not_zero : (b : ℕ) → not (eqb b 0) ≡ is_store b
not_zero zero = refl
not_zero (suc b) = ap not (eqb-suc-zero b)

-- ---- rows that are so many
pub when_so_many : {A : Type 0} (b : Bool) (x y : A) → b ≡ true → x ≡ cond b x y
when_so_many b x y e = sym (ap (λ t. cond t x y) e)

pub so_many : (n : ℕ) (bytes : List ℕ) (rows : List (List ℕ)) → rows ≡ first_chunks width n bytes → length rows ≡ n
so_many n bytes rows e = ap length e ∙ length_chunks width n bytes

pub row_at : (n : ℕ) (bytes : List ℕ) (rows : List (List ℕ)) (i : ℕ) → rows ≡ first_chunks width n bytes → i < n → get_or rows i [] ≡ part width bytes i
row_at n bytes rows i e h = ap (λ x. get_or x i []) e ∙ chunk_at width n i bytes [] h

-- ---- the first row with too long a key

met_next : (b : Bool) (m n : ℕ) → m ≡ n → cond (not b) (1 + m) 0 ≡ cond b 0 (suc n)
met_next true m n e = refl
met_next false m n e = omega (arith, e)

pub first_in_rows : (n : ℕ) (rows : List ℕ) → position_or_len key_is_long (first_chunks width n rows) ≡ first_met (long_in (replicate n true) rows)
unfolding first_met long_in
first_in_rows zero rows = refl
first_in_rows (suc n) rows = met_next (key_is_long (take width rows)) _ _ (first_in_rows n (drop width rows))

-- of n updates' rows none before row i has too long a key
module _ (ss : List Bool) (rows : List ℕ) (n i : ℕ) (hn : length ss ≡ n)
    (before : first_met (long_in ss rows) ≡ i + first_met (long_in (drop i ss) (drop (i * width) rows))) where
  -- r is the answer of row i's test
  module _ (r : Bool) (h : i < n) (test : r ≡ (get_or ss i false && key_is_long (part width rows i))) where
    pub long_here : r ≡ true → i ≡ first_met (long_in ss rows)
    unfolding first_met
    long_here q =
        let z : first_met (long_in (drop i ss) (drop (i * width) rows)) ≡ 0 = rw (long_in_next ss rows i (omega arith), sym test ∙ q) in
        omega (arith, before, z)

    pub long_turn : r ≡ false → first_met (long_in ss rows) ≡ i + 1 + first_met (long_in (drop (i + 1) ss) (drop ((i + 1) * width) rows))
    unfolding first_met
    long_turn q =
        let z : first_met (long_in (drop i ss) (drop (i * width) rows)) ≡ suc (first_met (long_in (drop (i + 1) ss) (drop ((i + 1) * width) rows))) =
        rw (long_in_next ss rows i (omega arith), sym test ∙ q) in
        omega (arith, before, z)

  pub long_end : n ≤ i → i ≡ first_met (long_in ss rows)
  unfolding first_met long_in
  long_end h =
      let z : first_met (long_in (drop i ss) (drop (i * width) rows)) ≡ 0 =
      ap (λ x. first_met (long_in x (drop (i * width) rows))) (drop_of_length-le ss {i = i} (omega arith)) in
      omega (arith, before, z)

prefix_le : {X : Type 0} (p : X → Bool) (xs : List X) → prefix_len p xs ≤ length xs
prefix_le p [] = omega arith
prefix_le p (x ∷ xs) = go (p x) (prefix_le p xs)
  where
    go : (b : Bool) → prefix_len p xs ≤ length xs → cond b (1 + prefix_len p xs) 0 ≤ suc (length xs)
    go true h = omega (arith, h)
    go false h = omega arith

-- the place of the first, or how many there are
pub place_or_all : {X : Type 0} (p : X → Bool) (xs : List X) (n : ℕ) → length xs ≡ n → unwrap_or (position p xs) n ≡ position_or_len p xs
place_or_all p xs n e = go (cases_lt (position_or_len p xs) (length xs)) (prefix_le (λ x. not (p x)) xs)
  where
    go : (position_or_len p xs < length xs) ⊎ (length xs ≤ position_or_len p xs) → position_or_len p xs ≤ length xs
        → unwrap_or (position p xs) n ≡ position_or_len p xs
    go (inl h) f = rw (lt-ltb (position_or_len p xs) (length xs) h)
    go (inr h) f = rw (le-ltb (position_or_len p xs) (length xs) h) (omega (arith, e, f, h))

-- ---- a row written over zeros: the collection, the length, and then the key
pub normal_written : (row kept first key : List ℕ) (n a : ℕ) → kept ≡ replicate width 0 → length row ≡ width → n ≡ kept_length row → first ≡ take 8 row → key ≡ take (16 + n - 16) (drop 16 row) → a ≡ n
    → put_mid 9 a (set (first ++ drop 8 kept) 8 n) key ≡ normal row
unfolding normal
normal_written row kept first key n a z l k f g e =
    let p = take 8 row in
    let zeros = replicate {A = ℕ} 71 0 in
    let lp : length p ≡ 8 = length-take-le 8 row (omega arith) in
    let lq : length (p ++ (n ∷ [])) ≡ 9 = length-append p (n ∷ []) ∙ omega (arith, lp) in
    let lz : length (take n zeros) ≡ n = length-take-le n zeros (omega (arith, k, length-replicate {A = ℕ} 71 0)) in
    let m : 16 + n - 16 ≡ n = omega arith in
    let first_two : set (first ++ (0 ∷ zeros)) 8 n ≡ (p ++ (n ∷ [])) ++ (take n zeros ++ drop n zeros) =
    ap (λ x. set (x ++ (0 ∷ zeros)) 8 n) f ∙ set_at p 0 zeros n 8 lp ∙ sym (append_snoc p n zeros)
    ∙ ap (λ x. (p ++ (n ∷ [])) ++ x) (sym (take-append-drop n zeros)) in
    ap (λ x. put_mid 9 a (set (first ++ drop 8 x) 8 n) key) z
    ∙ ap (λ x. put_mid 9 x (set (first ++ (0 ∷ zeros)) 8 n) key) e
    ∙ ap (λ x. put_mid 9 n x key) first_two
    ∙ put_middle (p ++ (n ∷ [])) (take n zeros) (drop n zeros) key 9 n lq lz
    ∙ append_snoc p n (key ++ drop n zeros)
    ∙ ap (λ x. p ++ (n ∷ (x ++ drop n zeros))) (g ∙ ap (λ x. take x (drop 16 row)) m)
    ∙ ap (λ x. p ++ (n ∷ (take n (drop 16 row) ++ x))) (drop_zeros n 71)
    ∙ ap (λ x. p ++ (x ∷ (take x (drop 16 row) ++ replicate (71 - x) 0))) k

pub normal_of_stored : (s : Bool) (row : List ℕ) → not s ≡ false → normal row ≡ normal_of s row
normal_of_stored s row h = sym (ap (λ x. normal_of x row) (not-false s h))

pub normal_of_free : (s : Bool) (row : List ℕ) → not s ≡ true → replicate width 0 ≡ normal_of s row
normal_of_free s row h = sym (ap (λ x. normal_of x row) (not-true s h))

-- ---- put_rows

-- one more row is kept
put_next : (k : ℕ) (is row rest t : List ℕ) → length row ≡ width → put_rows width (k ∷ is) (row ++ rest) t ≡ put_rows width is rest (put_row width t k row)
unfolding put_rows
put_next k is row rest t l = rw (take_at row rest width l, drop_at row rest width l)

whole_part : (rows : List ℕ) (n i : ℕ) → length rows ≡ n * width → i < n → length (part width rows i) ≡ width
whole_part rows n i l h = length-take-le width (drop (i * width) rows) (rw (length-drop (i * width) rows) (omega arith))

-- s says whether row i is stored, and u is the column with it as row k
put_turn : (k : ℕ) (is : List ℕ) (ss : List Bool) (rows t u : List ℕ) (n i : ℕ) (s : Bool) → length ss ≡ n → length rows ≡ n * width → i < n
    → s ≡ get_or ss i false → u ≡ put_row width t k (normal_of s (part width rows i))
    → put_rows width is (normal_rows (drop (i + 1) ss) (drop ((i + 1) * width) rows)) u
    ≡ put_rows width (k ∷ is) (normal_rows (drop i ss) (drop (i * width) rows)) t
put_turn k is ss rows t u n i s m l h f e =
    let row = normal_of (get_or ss i false) (part width rows i) in
    let rest = normal_rows (drop (i + 1) ss) (drop ((i + 1) * width) rows) in
    ap (put_rows width is rest) (e ∙ ap (λ x. put_row width t k (normal_of x (part width rows i))) f)
    ∙ sym (put_next k is row rest t (length_normal_of (get_or ss i false) (part width rows i) (whole_part rows n i l h)))
    ∙ ap (λ x. put_rows width (k ∷ is) x t) (sym (normal_rows_next ss rows i (omega arith)))

-- rows one after the other from row `first` on, of which row i is next
pub keep_turn : (first : ℕ) (ss : List Bool) (rows t u : List ℕ) (n i : ℕ) (s : Bool) → length ss ≡ n → length rows ≡ n * width → i < n
    → s ≡ get_or ss i false → u ≡ put_row width t (first + i) (normal_of s (part width rows i))
    → put_rows width (up_from (first + (i + 1)) (n - (i + 1))) (normal_rows (drop (i + 1) ss) (drop ((i + 1) * width) rows)) u
    ≡ put_rows width (up_from (first + i) (n - i)) (normal_rows (drop i ss) (drop (i * width) rows)) t
unfolding up_from
keep_turn first ss rows t u n i s m l h f e =
    let k = first + i in
    let next : first + (i + 1) ≡ suc k = omega arith in
    let left : n - i ≡ suc (n - (i + 1)) = omega arith in
    ap (λ x. put_rows width (up_from x (n - (i + 1))) (normal_rows (drop (i + 1) ss) (drop ((i + 1) * width) rows)) u) next
    ∙ put_turn k (up_from (suc k) (n - (i + 1))) ss rows t u n i s m l h f e
    ∙ ap (λ x. put_rows width (up_from k x) (normal_rows (drop i ss) (drop (i * width) rows)) t) (sym left)

pub keep_end : (k n i : ℕ) (bytes t : List ℕ) → n ≤ i → put_rows width (up_from k (n - i)) bytes t ≡ t
unfolding put_rows up_from
keep_end k n i bytes t h = let m : n - i ≡ 0 = omega arith in ap (λ x. put_rows width (up_from k x) bytes t) m

-- a column has no row of a number that is too large
pub put_row_capped : (t r : List ℕ) (k l : ℕ) → length t < 2 ^ 64 → l ≡ min k (2 ^ 64 - 1) → put_row width t l r ≡ put_row width t k r
put_row_capped t r k l h e = go (dec_lt k (2 ^ 64))
  where
    go : Dec (k < 2 ^ 64) → put_row width t l r ≡ put_row width t k r
    go (yes s) = let same : l ≡ k = omega (arith, e) in ap (λ x. put_row width t x r) same
    go (no s) = put_row_none width t l r (omega (arith, e, h)) ∙ sym (put_row_none width t k r (omega (arith, h)))

-- each row at its id's, of which row i is next
pub put_at_turn : (ids rows t u : List ℕ) (i : ℕ) → length rows ≡ length ids * width → i < length ids
    → u ≡ put_row width t (get_or ids i 0) (normal (part width rows i))
    → put_rows width (drop (i + 1) ids) (normal_rows (drop (i + 1) (all_stored ids)) (drop ((i + 1) * width) rows)) u
    ≡ put_rows width (drop i ids) (normal_rows (drop i (all_stored ids)) (drop (i * width) rows)) t
put_at_turn ids rows t u i l h e =
    let ss = all_stored ids in
    let n : length ss ≡ length ids = length-map ids (λ (x : ℕ). true) in
    let s : get_or ss i false ≡ true = ap (λ x. get_or x i false) (all_stored_replicate ids) ∙ get_or-replicate (length ids) i true false h in
    ap (λ x. put_rows width (drop x ids) (normal_rows (drop (i + 1) ss) (drop ((i + 1) * width) rows)) u) (add-one i)
    ∙ put_turn (get_or ids i 0) (drop (suc i) ids) ss rows t u (length ids) i true n l h (sym s) e
    ∙ ap (λ x. put_rows width x (normal_rows (drop i ss) (drop (i * width) rows)) t) (sym (drop-cons ids i 0 h))

pub put_at_end : (ids bytes t : List ℕ) (i : ℕ) → length ids ≤ i → put_rows width (drop i ids) bytes t ≡ t
unfolding put_rows
put_at_end ids bytes t i h = ap (λ x. put_rows width x bytes t) (drop_of_length-le ids h)
