-- Laws of the column of what rows carry, over rows of any width: a store of rows is seen in those rows and in no other, and two columns that agree in
-- the rows that count still do after a commit. Assumes nothing.
use mathlib.Core.Path.{◌≡◌, refl, sym, ap, ◌∙◌}
use mathlib.Core.Logic.{◌⊎◌, inl, inr, ⊎_elim, ◌≢◌}
use mathlib.Core.Bool.{Bool, true, false, true≢false}
use mathlib.Core.List.{List, [], ◌∷◌, ◌++◌, map}
use Prim.Native.Nat.{ℕ, zero, suc, ◌+◌, ◌*◌, ◌≤◌, ◌<◌}
use native.Mathlib.Nat.{suc-mul, zero-mul}
use native.Mathlib.Decide.{ℕ_discrete}
use native.Mathlib.Omega.{arith}
use lib.Dec.{leb, eqb}
use lib.ListN.{length, get_or, set, take, drop, length-append, length-drop, length-replicate}
use lib.Seq.{length-take-le, take_at, drop_at, get_or-set_other}
use borrow.Author.Tests.{leb-true, eqb-true, le-leb, lt-leb, eq-eqb, ne_eqb}
use Rattle.list_parts.specs.Parts.{part, put_part}
use Rattle.list_parts.specs.Lists.{elem}
use Rattle.list_parts.proofs.Lists.{elem_head, elem_tail, elem_cases, elem_not}
use Rattle.list_parts.proofs.Parts.{part_end, length_part_full, length_put_part, part_put_part, part_put_part_other}
use Rattle.carried.specs.Carried.{row_in, put_row, put_rows, rows_at, up_from, kept_row, committed}

-- ---- row_in

pub row_in_part : (w : ℕ) (t : List ℕ) (i : ℕ) → i * w + w ≤ length t → row_in w t i ≡ part w t i
unfolding row_in
row_in_part w t i h = simp (le-leb _ _ h)

-- ---- put_row

-- a row is stored whole, or nothing is
pub put_row_done : (w : ℕ) (t : List ℕ) (i : ℕ) (r : List ℕ) → i * w + w ≤ length t → length r ≡ w → put_row w t i r ≡ put_part w t i r
unfolding put_row
put_row_done w t i r h e = simp (le-leb _ _ h, eq-eqb _ _ e)

pub put_row_none : (w : ℕ) (t : List ℕ) (i : ℕ) (r : List ℕ) → length t < i * w + w → put_row w t i r ≡ t
unfolding put_row
put_row_none w t i r h = simp (lt-leb _ _ h)

pub put_row_cases : (w : ℕ) (t : List ℕ) (i : ℕ) (r : List ℕ) → ((i * w + w ≤ length t) × (length r ≡ w)) ⊎ (put_row w t i r ≡ t)
unfolding put_row
put_row_cases w t i r = go (leb (i * w + w) (length t)) refl (eqb (length r) w) refl
  where
    go : (a : Bool) → leb (i * w + w) (length t) ≡ a → (b : Bool) → eqb (length r) w ≡ b
        → ((i * w + w ≤ length t) × (length r ≡ w)) ⊎ (put_row w t i r ≡ t)
    go true p true q = inl (leb-true _ _ p, eqb-true _ _ q)
    go true p false q = inr (simp (p, q))
    go false p b q = inr (simp p)

pub length_put_row : (w : ℕ) (t : List ℕ) (i : ℕ) (r : List ℕ) → length (put_row w t i r) ≡ length t
length_put_row w t i r =
    ⊎_elim (λ h. ap length (put_row_done w t i r h.0 h.1) ∙ length_put_part w t i r h.0 h.1) (λ e. ap length e) (put_row_cases w t i r)

pub put_row_here : (w : ℕ) (t : List ℕ) (i : ℕ) (r : List ℕ) → i * w + w ≤ length t → length r ≡ w → part w (put_row w t i r) i ≡ r
put_row_here w t i r h e = ap (λ x. part w x i) (put_row_done w t i r h e) ∙ part_put_part w t i r h e

pub put_row_other : (w : ℕ) (t : List ℕ) (i : ℕ) (r : List ℕ) (k : ℕ) → i ≢ k → part w (put_row w t i r) k ≡ part w t k
put_row_other w t i r k n =
    ⊎_elim
    (λ h. ap (λ x. part w x k) (put_row_done w t i r h.0 h.1) ∙ part_put_part_other w t i r h.0 h.1 k (λ e. n (sym e)))
    (λ e. ap (λ x. part w x k) e)
    (put_row_cases w t i r)

-- one row stored in two columns of n rows: they agree there, and elsewhere where they did
pub put_row_same : (w n : ℕ) (t u : List ℕ) (i : ℕ) (r : List ℕ) (k : ℕ) → length t ≡ n * w → length u ≡ n * w → length r ≡ w
    → (k ≡ i → k < n) → (k ≢ i → part w t k ≡ part w u k) → part w (put_row w t i r) k ≡ part w (put_row w u i r) k
put_row_same w n t u i r k lt lu lr below other = go (ℕ_discrete k i)
  where
    go : Dec (k ≡ i) → part w (put_row w t i r) k ≡ part w (put_row w u i r) k
    go (yes e) =
        let b = part_end w n k (below e) in
        rw (← e) (put_row_here w t k r (rw lt b) lr ∙ sym (put_row_here w u k r (rw lu b) lr))
    go (no q) = put_row_other w t i r k (λ e. q (sym e)) ∙ other q ∙ sym (put_row_other w u i r k (λ e. q (sym e)))

-- ---- put_rows

-- the first of several rows, and the others
pub rows_first : (w m : ℕ) (bytes : List ℕ) → length bytes ≡ suc m * w → (length (take w bytes) ≡ w) × (length (drop w bytes) ≡ m * w)
rows_first w m bytes e =
    let f = suc-mul m w in
    (length-take-le w bytes (omega arith), rw (length-drop w bytes) (omega arith))

pub length_put_rows : (w : ℕ) (is bytes t : List ℕ) → length (put_rows w is bytes t) ≡ length t
unfolding put_rows
length_put_rows w [] bytes t = refl
length_put_rows w (i ∷ is) bytes t = length_put_rows w is (drop w bytes) (put_row w t i (take w bytes)) ∙ length_put_row w t i (take w bytes)

pub put_rows_other : (w : ℕ) (is bytes t : List ℕ) (k : ℕ) → elem k is ≡ false → part w (put_rows w is bytes t) k ≡ part w t k
unfolding put_rows
put_rows_other w [] bytes t k h = refl
put_rows_other w (i ∷ is) bytes t k h =
    let n = elem_not k i is h in
    put_rows_other w is (drop w bytes) (put_row w t i (take w bytes)) k n.1 ∙ put_row_other w t i (take w bytes) k (λ e. n.0 (sym e))

pub put_rows_same : (w n : ℕ) (is bytes t u : List ℕ) (k : ℕ) → length t ≡ n * w → length u ≡ n * w → length bytes ≡ length is * w → k < n
    → (elem k is ≡ true) ⊎ (part w t k ≡ part w u k) → part w (put_rows w is bytes t) k ≡ part w (put_rows w is bytes u) k
unfolding put_rows
put_rows_same w n [] bytes t u k lt lu lb b (inl e) = absurd (true≢false (sym e))
put_rows_same w n [] bytes t u k lt lu lb b (inr e) = e
put_rows_same w n (i ∷ is) bytes t u k lt lu lb b h =
    put_rows_same w n is (drop w bytes) (put_row w t i (take w bytes)) (put_row w u i (take w bytes)) k
    (length_put_row w t i (take w bytes) ∙ lt)
    (length_put_row w u i (take w bytes) ∙ lu)
    (rows_first w (length is) bytes lb).1
    b
    (⊎_elim (λ e. ⊎_elim (λ f. inr (one (λ n. absurd (n f)))) (λ f. inl f) (elem_cases k i is e)) (λ e. inr (one (λ _. e))) h)
  where
    one : (k ≢ i → part w t k ≡ part w u k) → part w (put_row w t i (take w bytes)) k ≡ part w (put_row w u i (take w bytes)) k
    one = put_row_same w n t u i (take w bytes) k lt lu (rows_first w (length is) bytes lb).0 (λ _. b)

-- rows from one on that the column does not have
pub put_rows_past : (w k n : ℕ) (bytes t : List ℕ) → length t < k * w + w → put_rows w (up_from k n) bytes t ≡ t
unfolding put_rows up_from
put_rows_past w k zero bytes t h = refl
put_rows_past w k (suc n) bytes t h =
    let f = suc-mul k w in
    ap (put_rows w (up_from (suc k) n) (drop w bytes)) (put_row_none w t k (take w bytes) h)
    ∙ put_rows_past w (suc k) n (drop w bytes) t (omega arith)

-- ---- rows_at

pub length_rows_at : (w n : ℕ) (c is : List ℕ) → length c ≡ n * w → ((i : ℕ) → elem i is ≡ true → i < n) → length (rows_at w c is) ≡ length is * w
unfolding rows_at
length_rows_at w n c [] lc h = sym (zero-mul w)
length_rows_at w n c (i ∷ is) lc h =
    let f : length (part w c i) ≡ w = length_part_full w c i (rw lc (part_end w n i (h i (elem_head i i is refl)))) in
    let g = length_rows_at w n c is lc (λ j e. h j (elem_tail j i is e)) in
    rw (length-append, suc-mul) (omega arith)

pub rows_at_cong : (w : ℕ) (t u is : List ℕ) → ((k : ℕ) → elem k is ≡ true → part w t k ≡ part w u k) → rows_at w t is ≡ rows_at w u is
unfolding rows_at
rows_at_cong w t u [] h = refl
rows_at_cong w t u (i ∷ is) h =
    let e : part w t i ≡ part w u i = h i (elem_head i i is refl) in
    let f : rows_at w t is ≡ rows_at w u is = rows_at_cong w t u is (λ k q. h k (elem_tail k i is q)) in
    ap (λ x. x ++ rows_at w t is) e ∙ ap (λ x. part w u i ++ x) f

-- rows that are taken out of one column and stored in another
own : (w n : ℕ) (is c t : List ℕ) (k : ℕ) → length t ≡ n * w → length c ≡ n * w → ((i : ℕ) → elem i is ≡ true → i < n)
    → (elem k is ≡ true) ⊎ (part w t k ≡ part w c k) → part w (put_rows w is (rows_at w c is) t) k ≡ part w c k
unfolding put_rows rows_at
own w n [] c t k lt lc h (inl e) = absurd (true≢false (sym e))
own w n [] c t k lt lc h (inr e) = e
own w n (i ∷ is) c t k lt lc h q =
    let b : i * w + w ≤ n * w = part_end w n i (h i (elem_head i i is refl)) in
    let full : length (part w c i) ≡ w = length_part_full w c i (rw lc b) in
    let here : part w (put_row w t i (part w c i)) i ≡ part w c i = put_row_here w t i (part w c i) (rw lt b) full in
    rw (take_at (part w c i) (rows_at w c is) w full, drop_at (part w c i) (rows_at w c is) w full)
    (own w n is c (put_row w t i (part w c i)) k (length_put_row w t i (part w c i) ∙ lt) lc (λ j e. h j (elem_tail j i is e))
    (go here (ℕ_discrete k i) q))
  where
    go : part w (put_row w t i (part w c i)) i ≡ part w c i → Dec (k ≡ i) → (elem k (i ∷ is) ≡ true) ⊎ (part w t k ≡ part w c k)
        → (elem k is ≡ true) ⊎ (part w (put_row w t i (part w c i)) k ≡ part w c k)
    go here (yes e) _ = inr (rw e here)
    go here (no d) (inl e) = ⊎_elim (λ f. absurd (d f)) (λ f. inl f) (elem_cases k i is e)
    go here (no d) (inr e) = inr (put_row_other w t i (part w c i) k (λ f. d (sym f)) ∙ e)

pub put_rows_own : (w n : ℕ) (is c t : List ℕ) (k : ℕ) → length t ≡ n * w → length c ≡ n * w → ((i : ℕ) → elem i is ≡ true → i < n)
    → elem k is ≡ true → part w (put_rows w is (rows_at w c is) t) k ≡ part w c k
put_rows_own w n is c t k lt lc h e = own w n is c t k lt lc h (inl e)

-- ---- up_from

pub length_up_from : (k n : ℕ) → length (up_from k n) ≡ n
unfolding up_from
length_up_from k zero = refl
length_up_from k (suc n) = ap suc (length_up_from (suc k) n)

pub elem_up_from : (k n j : ℕ) → k ≤ j → j < k + n → elem j (up_from k n) ≡ true
unfolding up_from
elem_up_from k zero j h l = absurd (omega arith)
elem_up_from k (suc n) j h l = go (ℕ_discrete j k) (λ q. elem_up_from (suc k) n j (omega arith) (omega arith))
  where
    go : Dec (j ≡ k) → (j ≢ k → elem j (up_from (suc k) n) ≡ true) → elem j (k ∷ up_from (suc k) n) ≡ true
    go (yes e) rest = elem_head j k (up_from (suc k) n) e
    go (no q) rest = elem_tail j k (up_from (suc k) n) (rest q)

pub up_from_below : (k n j : ℕ) → j < k → elem j (up_from k n) ≡ false
unfolding up_from
up_from_below k zero j h = refl
up_from_below k (suc n) j h = rw (ne_eqb j k (λ e. omega arith)) (up_from_below (suc k) n j (omega arith))

pub up_from_past : (k n j : ℕ) → k + n ≤ j → elem j (up_from k n) ≡ false
unfolding up_from
up_from_past k zero j h = refl
up_from_past k (suc n) j h = rw (ne_eqb j k (λ e. omega arith)) (up_from_past (suc k) n j (omega arith))

pub up_from_bounds : (k n j : ℕ) → elem j (up_from k n) ≡ true → (k ≤ j) × (j < k + n)
unfolding up_from
up_from_bounds k zero j h = absurd (true≢false (sym h))
up_from_bounds k (suc n) j h =
    ⊎_elim (λ e. (omega arith, omega arith)) (λ e. let b = up_from_bounds (suc k) n j e in (omega arith, omega arith)) (elem_cases j k (up_from (suc k) n) h)

-- ---- committed

abbrev pub ids_in : List (ℕ × ℕ) → List ℕ
ids_in rs = map (λ (r : ℕ × ℕ). r.0) rs

-- every update's id is below m
abbrev pub Below : ℕ → List (ℕ × ℕ) → Type 0
Below m [] = Unit {0}
Below m (r ∷ rs) = (r.0 < m) × Below m rs

pub below_ids : (m : ℕ) (rs : List (ℕ × ℕ)) → ((i : ℕ) → elem i (ids_in rs) ≡ true → i < m) → Below m rs
below_ids m [] h = tt
below_ids m (r ∷ rs) h =
    (h r.0 (elem_head r.0 r.0 (ids_in rs) refl), below_ids m rs (λ i e. h i (elem_tail i r.0 (ids_in rs) e)))

-- the locations that updates leave
abbrev pub located : List (ℕ × ℕ) → List ℕ → List ℕ
located [] lo = lo
located (r ∷ rs) lo = located rs (set lo r.0 r.1)

-- two columns agree in the row of each id that has a location
abbrev pub Carry : ℕ → List ℕ → List ℕ → List ℕ → Type 0
Carry w lo t u = (i : ℕ) → get_or lo i 0 ≢ 0 → part w t i ≡ part w u i

pub length_kept_row : (w : ℕ) (t : List ℕ) (k l : ℕ) → k * w + w ≤ length t → length (kept_row w t k l) ≡ w
unfolding kept_row
length_kept_row w t k zero h = length-replicate {A = ℕ} w 0
length_kept_row w t k (suc l) h = length_part_full w t k h

pub kept_row_cong : (w : ℕ) (t u : List ℕ) (k l : ℕ) → part w t k ≡ part w u k → kept_row w t k l ≡ kept_row w u k l
unfolding kept_row
kept_row_cong w t u k zero e = refl
kept_row_cong w t u k (suc l) e = e

pub length_committed : (w k : ℕ) (rs : List (ℕ × ℕ)) (t : List ℕ) → length (committed w k rs t) ≡ length t
unfolding committed
length_committed w k [] t = refl
length_committed w k (r ∷ rs) t =
    length_committed w (suc k) rs (put_row w t r.0 (kept_row w t k r.1)) ∙ length_put_row w t r.0 (kept_row w t k r.1)

pub committed_kept : (w m k : ℕ) (rs : List (ℕ × ℕ)) (t : List ℕ) (j : ℕ) → Below m rs → m ≤ j → part w (committed w k rs t) j ≡ part w t j
unfolding committed
committed_kept w m k [] t j b h = refl
committed_kept w m k (r ∷ rs) t j b h =
    let lt = b.0 in
    committed_kept w m (suc k) rs (put_row w t r.0 (kept_row w t k r.1)) j b.1 h
    ∙ put_row_other w t r.0 (kept_row w t k r.1) j (λ e. omega arith)

-- an id that no update names
pub committed_other : (w k : ℕ) (rs : List (ℕ × ℕ)) (t : List ℕ) (j : ℕ) → elem j (ids_in rs) ≡ false
    → part w (committed w k rs t) j ≡ part w t j
unfolding committed
committed_other w k [] t j h = refl
committed_other w k (r ∷ rs) t j h =
    let n = elem_not j r.0 (ids_in rs) h in
    committed_other w (suc k) rs (put_row w t r.0 (kept_row w t k r.1)) j n.1
    ∙ put_row_other w t r.0 (kept_row w t k r.1) j (λ e. n.0 (sym e))

pub committed_same : (w n m k : ℕ) (rs : List (ℕ × ℕ)) (lo t u : List ℕ) → length t ≡ n * w → length u ≡ n * w → Below m rs → m ≤ k → k + length rs ≤ n
    → ((j : ℕ) → k ≤ j → j < k + length rs → part w t j ≡ part w u j)
    → Carry w lo t u → Carry w (located rs lo) (committed w k rs t) (committed w k rs u)
unfolding committed
committed_same w n m k [] lo t u lt lu b h g same carry = carry
committed_same w n m k (r ∷ rs) lo t u lt lu b h g same carry =
    let id = r.0 in
    let row = kept_row w t k r.1 in
    let low : id < m = b.0 in
    let first : k < n = omega arith in
    let e : row ≡ kept_row w u k r.1 = kept_row_cong w t u k r.1 (same k (omega arith) (omega arith)) in
    let size : length row ≡ w = length_kept_row w t k r.1 (rw lt (part_end w n k first)) in
    rw (← e)
    (committed_same w n m (suc k) rs (set lo id r.1) (put_row w t id row) (put_row w u id row)
    (length_put_row w t id row ∙ lt)
    (length_put_row w u id row ∙ lu)
    b.1
    (omega arith)
    (omega arith)
    (λ j p q. put_row_same w n t u id row j lt lu size (λ d. omega arith) (λ _. same j (omega arith) (omega arith)))
    (λ j z.
    put_row_same w n t u id row j lt lu size (λ d. omega arith) (λ d. carry j (λ o. z (get_or-set_other lo id j r.1 0 d ∙ o)))))
