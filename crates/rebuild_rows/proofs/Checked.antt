-- The check of rows is the model's `rows`: where the marks of seen ids stand for the ids before, a row's number is the model's, and a repeated
-- location counts only before the first wrong row. Assumes nothing.
use mathlib.Core.Path.{◌≡◌, refl, ap, sym, ◌∙◌}
use mathlib.Core.Bool.{Bool, true, false, not, cond, ◌&&◌, ◌||◌}
use mathlib.Core.List.{List, [], ◌∷◌}
use Prim.Native.Nat.{ℕ, suc, ◌+◌, ◌<◌, ◌≤◌}
use native.Mathlib.Decide.{ℕ_discrete}
use native.Mathlib.Numerals.{add-one}
use native.Mathlib.Omega.{arith}
use lib.Dec.{eqb, ltb}
use lib.ListN.{length, get_or, set, take, replicate, length-replicate, length-set, length-take}
use lib.Seq.{get_or-set_same, get_or-set_other}
use borrow.Author.Tests.{le-ltb, lt-ltb, eq-eqb, ne_eqb, ltb-true}
use Rattle.refusal.specs.Refusals.{refusal, wrong_shape, out_of_range, no_such_id, repeated_id, repeated_location}
use Rattle.refusal.proofs.Tests.{and_true, all}
use Rattle.list_parts.specs.Lists.{elem}
use Rattle.list_parts.proofs.Lists.{elem_head}
use Rattle.address.specs.Address.{bad_slots, is_location}
use Rattle.model.specs.Store.{Store, Row}
use Rattle.model.specs.Verdict.{Verdict, test, ◌⨾◌}
use Rattle.model.specs.Tables.{in_ids, locations_of}
use Rattle.model.specs.Rebuild.{rows, rows_of}
use Rattle.model.proofs.Lists.{zeros}
use Rattle.rebuild_rows.specs.Checks.{groups, wrong_in, wrong_or, first_wrong, rows_before, decided, decided_by, checked, refused_row, repeats_from, wrong_verdict}
use Rattle.refusal.specs.declared.Refusal.{Refusal}
use Rattle.refusal.specs.declared.Kind.{Kind}
use Rattle.std.specs.Prelude.{Result, Err, Option, Some, None, is_none, ⊤}
use Rattle.rebuild_rows.proofs.Groups.{first_repeat, places, repeats_are}

-- ---- marks of ids

abbrev Seen : List ℕ → List ℕ → Type 0
Seen seen is = (x : ℕ) → x < length seen → elem x is ≡ not (eqb (get_or seen x 0) 0)

seen_next : (seen is : List ℕ) (x : ℕ) → Seen seen is → Seen (set seen x 1) (x ∷ is)
seen_next seen is x t y h = go (ℕ_discrete y x) (rw (length-set seen x 1) at h)
  where
    go : Dec (y ≡ x) → y < length seen → elem y (x ∷ is) ≡ not (eqb (get_or (set seen x 1) y 0) 0)
    go (yes q) l =
        let g : get_or (set seen x 1) y 0 ≡ 1 = ap (λ z. get_or (set seen z 1) y 0) (sym q) ∙ get_or-set_same seen y 1 0 l in
        elem_head y x is q ∙ ap (λ z. not (eqb z 0)) (sym g)
    go (no n) l = ap (λ b. b || elem y is) (ne_eqb y x n) ∙ t y l ∙ ap (λ z. not (eqb z 0)) (sym (get_or-set_other seen x y 1 0 n))

seen_none : (n : ℕ) → Seen (replicate n 0) []
seen_none n x h = ap (λ z. not (eqb z 0)) (sym (zeros n x))

-- ---- one row

abbrev wrong_by : Bool → Bool → Bool → Option Kind
wrong_by inside again place = cond (not inside) (Some no_such_id) (cond again (Some repeated_id) (cond place None (Some out_of_range)))

step : (inside again place repeat : Bool) (i f n : ℕ) (v : Verdict) (w : Result ⊤ Refusal) → i + 1 ≤ rows_before n w → v ≡ wrong_verdict (decided n w f)
    → (test (not inside) no_such_id i ⨾ test again repeated_id i ⨾ test (not place) out_of_range i ⨾ test repeat repeated_location i ⨾ v)
    ≡ wrong_verdict (decided n (wrong_or (wrong_by inside again place) i w) (cond (is_none (wrong_by inside again place)) (cond repeat i f) i))
unfolding test ◌⨾◌ decided
step false again place repeat i f n v w h e = rw (le-ltb i i (omega arith))
step true true place repeat i f n v w h e = rw (le-ltb i i (omega arith))
step true false false repeat i f n v w h e = rw (le-ltb i i (omega arith))
step true false true true i f n v w h e = rw (lt-ltb i (rows_before n w) (omega arith))
step true false true false i f n v w h e = e

-- ---- all rows

-- the locations of the rows before the first wrong one
abbrev good : ℕ → ℕ → List ℕ → List Row → List ℕ
good ids slots seen [] = []
good ids slots seen (r ∷ rs) = cond (is_none (wrong_in ids slots seen r.0 r.1)) (r.1 ∷ good ids slots (set seen r.0 1) rs) []

pull : (b : Bool) (before : List ℕ) (i l : ℕ) (g : List ℕ) → first_repeat before i (cond b (l ∷ g) []) ≡ cond b (cond (elem l before) i (first_repeat (l ∷ before) (i + 1) g)) i
pull true before i l g = refl
pull false before i l g = refl

first_wrong_ge : (ids slots n : ℕ) (seen : List ℕ) (i : ℕ) (rs : List Row) → i + length rs ≡ n → i ≤ rows_before n (first_wrong ids slots seen i rs)
unfolding first_wrong
first_wrong_ge ids slots n seen i [] e = omega arith
first_wrong_ge ids slots n seen i (r ∷ rs) e = go (wrong_in ids slots seen r.0 r.1) (first_wrong_ge ids slots n (set seen r.0 1) (i + 1) rs (omega arith))
  where
    go : (o : Option Kind) → i + 1 ≤ rows_before n (first_wrong ids slots (set seen r.0 1) (i + 1) rs)
        → i ≤ rows_before n (wrong_or o i (first_wrong ids slots (set seen r.0 1) (i + 1) rs))
    go None h = omega arith
    go (Some k) h = omega arith

-- the model's test of an earlier id, where the id is in range
same_wrong : (s : Store) (seen is : List ℕ) (r : Row) → s.ids ≤ length seen → Seen seen is
    → wrong_by (in_ids s r.0) (elem r.0 is) (is_location s.slots r.1) ≡ wrong_in s.ids s.slots seen r.0 r.1
unfolding wrong_in
same_wrong s seen is r l t = go (in_ids s r.0) refl
  where
    go : (b : Bool) → in_ids s r.0 ≡ b
        → wrong_by b (elem r.0 is) (is_location s.slots r.1) ≡ wrong_by b (not (eqb (get_or seen r.0 0) 0)) (is_location s.slots r.1)
    go false e = refl
    go true e =
        let h = ltb-true r.0 s.ids (and_true (ltb 0 r.0) (ltb r.0 s.ids) e).1 in
        ap (λ b. wrong_by true b (is_location s.slots r.1)) (t r.0 (omega arith))

rows_are : (s : Store) (n : ℕ) (seen is ls : List ℕ) (i : ℕ) (rs : List Row) → i + length rs ≡ n → s.ids ≤ length seen → Seen seen is
    → rows s is ls i rs ≡ wrong_verdict (decided n (first_wrong s.ids s.slots seen i rs) (first_repeat ls i (good s.ids s.slots seen rs)))
unfolding first_wrong decided
rows_are s n seen is ls i [] e l t = rw (le-ltb i n (omega arith))
rows_are s n seen is ls i (r ∷ rs) e l t =
    step (in_ids s r.0) (elem r.0 is) (is_location s.slots r.1) (elem r.1 ls) i (first_repeat (r.1 ∷ ls) (i + 1) later) n (rows s (r.0 ∷ is) (r.1 ∷ ls) (suc i) rs) w
    (first_wrong_ge s.ids s.slots n (set seen r.0 1) (i + 1) rs (omega arith))
    (ap (λ n. rows s (r.0 ∷ is) (r.1 ∷ ls) n rs) (sym (add-one i))
    ∙ rows_are s n (set seen r.0 1) (r.0 ∷ is) (r.1 ∷ ls) (i + 1) rs (omega arith) (rw (length-set seen r.0 1) l) (seen_next seen is r.0 t))
    ∙ ap (λ o. wrong_verdict (decided n (wrong_or o i w) (cond (is_none o) (cond (elem r.1 ls) i (first_repeat (r.1 ∷ ls) (i + 1) later)) i))) (same_wrong s seen is r l t)
    ∙ ap (λ f. wrong_verdict (decided n (first_wrong s.ids s.slots seen i (r ∷ rs)) f)) (sym (pull (is_none (wrong_in s.ids s.slots seen r.0 r.1)) ls i r.1 later))
  where
    later : List ℕ
    later = good s.ids s.slots (set seen r.0 1) rs

    w : Result ⊤ Refusal
    w = first_wrong s.ids s.slots (set seen r.0 1) (i + 1) rs

-- ---- the locations before the first wrong row

good_row : (ids slots n : ℕ) (seen : List ℕ) (i : ℕ) (rs : List Row) → i + length rs ≡ n
    → rows_before n (first_wrong ids slots seen i rs) ≡ i + length (good ids slots seen rs)
unfolding first_wrong
good_row ids slots n seen i [] e = omega arith
good_row ids slots n seen i (r ∷ rs) e = go (wrong_in ids slots seen r.0 r.1) (good_row ids slots n (set seen r.0 1) (i + 1) rs (omega arith))
  where
    go : (o : Option Kind) → rows_before n (first_wrong ids slots (set seen r.0 1) (i + 1) rs) ≡ i + 1 + length (good ids slots (set seen r.0 1) rs)
        → rows_before n (wrong_or o i (first_wrong ids slots (set seen r.0 1) (i + 1) rs))
        ≡ i + length (cond (is_none o) (r.1 ∷ good ids slots (set seen r.0 1) rs) [])
    go None e = omega arith
    go (Some k) e = omega arith

good_take : (ids slots : ℕ) (seen : List ℕ) (rs : List Row) → take (length (good ids slots seen rs)) (locations_of rs) ≡ good ids slots seen rs
good_take ids slots seen [] = refl
good_take ids slots seen (r ∷ rs) = go (is_none (wrong_in ids slots seen r.0 r.1)) (good_take ids slots (set seen r.0 1) rs)
  where
    later : List ℕ
    later = good ids slots (set seen r.0 1) rs

    go : (b : Bool) → take (length later) (locations_of rs) ≡ later → take (length (cond b (r.1 ∷ later) [])) (locations_of (r ∷ rs)) ≡ cond b (r.1 ∷ later) []
    go true e = ap (λ x. r.1 ∷ x) e
    go false e = refl

good_places : (ids slots : ℕ) (seen : List ℕ) (rs : List Row) → places slots (good ids slots seen rs) ≡ true
unfolding wrong_in
good_places ids slots seen [] = refl
good_places ids slots seen (r ∷ rs) =
    go (ltb 0 r.0 && ltb r.0 ids) (not (eqb (get_or seen r.0 0) 0)) (is_location slots r.1) refl (good_places ids slots (set seen r.0 1) rs)
  where
    later : List ℕ
    later = good ids slots (set seen r.0 1) rs

    go : (inside again place : Bool) → is_location slots r.1 ≡ place → places slots later ≡ true
        → places slots (cond (is_none (wrong_by inside again place)) (r.1 ∷ later) []) ≡ true
    go false again place e p = refl
    go true true place e p = refl
    go true false false e p = refl
    go true false true e p = all e p

rows_locations : (is ls : List ℕ) → length ls ≡ length is → locations_of (rows_of is ls) ≡ ls
rows_locations [] [] e = refl
rows_locations [] (l ∷ ls) e = absurd (omega arith)
rows_locations (i ∷ is) [] e = absurd (omega arith)
rows_locations (i ∷ is) (l ∷ ls) e = ap (λ x. l ∷ x) (rows_locations is ls (omega arith))

pub rows_length : (is ls : List ℕ) → length ls ≡ length is → length is ≡ length (rows_of is ls)
rows_length [] ls e = refl
rows_length (i ∷ is) [] e = absurd (omega arith)
rows_length (i ∷ is) (l ∷ ls) e = ap suc (rows_length is ls (omega arith))

module _ (ids slots : ℕ) (is ls : List ℕ) (long : length ls ≡ length is) where
  abbrev first : Result ⊤ Refusal
  first = first_wrong ids slots (replicate 65536 0) 0 (rows_of is ls)

  abbrev fine : List ℕ
  fine = good ids slots (replicate 65536 0) (rows_of is ls)

  -- all rows
  many : 0 + length (rows_of is ls) ≡ length is
  many = let e = rows_length is ls long in omega arith

  fine_rows : rows_before (length is) first ≡ length fine
  fine_rows = good_row ids slots (length is) (replicate 65536 0) 0 (rows_of is ls) many ∙ omega arith

  fine_take : take (rows_before (length is) first) ls ≡ fine
  fine_take =
      ap (λ n. take n ls) fine_rows ∙ ap (take (length fine)) (sym (rows_locations is ls long)) ∙ good_take ids slots (replicate 65536 0) (rows_of is ls)

  -- the first wrong row is a row, or past the last
  pub first_le : (w : Result ⊤ Refusal) → w ≡ first → rows_before (length is) w ≤ length ls
  first_le w e =
      let a : rows_before (length is) w ≡ length fine = ap (rows_before (length is)) e ∙ fine_rows in
      let b : length fine ≡ length (take (rows_before (length is) first) ls) = ap length (sym fine_take) in
      omega (arith, length-take (rows_before (length is) first) ls)

  module _ (w : Result ⊤ Refusal) (end f : ℕ) (e : w ≡ first) (p : end ≡ rows_before (length is) w)
      (q : f ≡ repeats_from slots (take end ls) groups 0 (length (take end ls))) where
    checked_is : decided (length is) w f ≡ checked ids slots is ls
    unfolding checked
    checked_is =
        ap (decided (length is) w) (q ∙ ap (λ x. repeats_from slots (take x ls) groups 0 (length (take x ls))) p) ∙ ap (decided_by slots ls (length is)) e

    pub checked_repeat : f < end → Err (refusal repeated_location f) ≡ checked ids slots is ls
    unfolding decided
    checked_repeat h = ap (λ b. cond b (Err (refusal repeated_location f)) w) (sym (lt-ltb f (rows_before (length is) w) (omega arith))) ∙ checked_is

    pub checked_first : end ≤ f → w ≡ checked ids slots is ls
    unfolding decided
    checked_first h = ap (λ b. cond b (Err (refusal repeated_location f)) w) (sym (le-ltb f (rows_before (length is) w) (omega arith))) ∙ checked_is

-- ---- the answer

module _ (ids slots : ℕ) (is ls : List ℕ) where
  pub refused_row_slots : bad_slots slots ≡ true → Err (refusal wrong_shape 0) ≡ refused_row ids slots is ls
  unfolding refused_row
  refused_row_slots b = rw b

  pub refused_row_long : bad_slots slots ≡ false → (length ls ≡ length is → ⊥) → Err (refusal wrong_shape 0) ≡ refused_row ids slots is ls
  unfolding refused_row
  refused_row_long b n = rw (b, ne_eqb (length ls) (length is) n)

  pub refused_row_fit : bad_slots slots ≡ false → length ls ≡ length is → refused_row ids slots is ls ≡ checked ids slots is ls
  unfolding refused_row
  refused_row_fit b long = rw (b, eq-eqb (length ls) (length is) long)

-- the first refused row gives the model's verdict
pub verdict_is : (s : Store) (is ls : List ℕ) → s.ids ≤ 65536 → bad_slots s.slots ≡ false → length ls ≡ length is
    → wrong_verdict (refused_row s.ids s.slots is ls) ≡ rows s [] [] 0 (rows_of is ls)
unfolding checked
verdict_is s is ls a b long =
    let first' = first s.ids s.slots is ls long in
    let fine' = fine s.ids s.slots is ls long in
    ap wrong_verdict (refused_row_fit s.ids s.slots is ls b long)
    ∙ ap (λ x. wrong_verdict (decided (length is) first' (repeats_from s.slots x groups 0 (length x)))) (fine_take s.ids s.slots is ls long)
    ∙ ap (λ f. wrong_verdict (decided (length is) first' f)) (repeats_are s.slots fine' (good_places s.ids s.slots (replicate 65536 0) (rows_of is ls)))
    ∙ sym (rows_are s (length is) (replicate 65536 0) [] [] 0 (rows_of is ls) (many s.ids s.slots is ls long) (rw (length-replicate {A = ℕ} 65536 0) a) (seen_none 65536))
