-- Laws of the kept batch: its rows as they stand in the words, one after the other, and the first bad one; and of what is written at a
-- location, which is at an address or nowhere. Assumes nothing.
use mathlib.Core.Bool.{Bool, true, false, not, cond, ◌&&◌, ◌||◌}
use mathlib.Core.Path.{◌≡◌, refl, sym, ap, ◌∙◌}
use mathlib.Core.List.{List, [], ◌∷◌}
use Prim.Native.Nat.{ℕ, zero, suc, ◌+◌, ◌-◌, ◌/◌, ◌%◌, ◌≤◌, ◌<◌, pred}
use native.Mathlib.Numerals.{add-one}
use native.Mathlib.Nat.{zero-add, sub-zero}
use native.Mathlib.Omega.{arith}
use lib.Dec.{ltb, eqb, eqb-suc-zero}
use lib.ListN.{length, get_or, take, drop, length-take, length-drop}
use lib.Seq.{drop-cons, get_or-take, get_or-drop}
use borrow.Author.Tests.{ne_eqb, lt-ltb, le-ltb, ltb-false}
use Rattle.refusal.specs.Refusals.{refusal, no_batch, tables_disagree}
use Rattle.refusal.specs.declared.Refusal.{Refusal}
use Rattle.refusal.proofs.Tests.{by_test}
use Rattle.address.specs.Address.{unit, is_location, bad_slots, unpacked}
use Rattle.model.specs.Store.{Store, Row}
use Rattle.model.specs.Verdict.{Verdict, ok, refuse, ◌⨾◌, test}
use Rattle.model.specs.Tables.{most_updates, most_opened, pairs, kept, bad_location}
use Rattle.model.specs.Tests.{one_open}
use Rattle.model.specs.Memory.{Memory, kept_ids_at, kept_locations_at, batch_words, read}
use Rattle.model.specs.Batches.{bad_row, abandon_rows, commit_rows}
use Rattle.model.proofs.Verdicts.{test_ok, then_ok}
use Rattle.tables.proofs.LawsEntries.{else_is}
use Rattle.model.proofs.Locations.{is_location_says, is_location_nz}
use Rattle.batch_kept.specs.Kept.{count_by, count_of, rows_then, rows_as, kept_from, bad_kept, first_bad, by_address, kept_row}
use Rattle.address.specs.declared.SlabAddress.{SlabAddress}
use Rattle.std.specs.Prelude.{Result, Ok, Err, Option, Some, is_err}

-- ---- rows
pairs_from : (b : List ℕ) (n i : ℕ) → length b ≡ batch_words → i + n ≤ most_updates → pairs n (drop i (take most_updates (drop kept_ids_at b))) (drop i (drop kept_locations_at b)) ≡ kept_from b n i
unfolding kept_from
pairs_from b zero i l h = refl
pairs_from b (suc n) i l h =
    let p : i < length (take most_updates (drop kept_ids_at b)) = simp (length-take, length-drop, l) (omega arith) in
    let q : i < length (drop kept_locations_at b) = simp (length-drop, l) (omega arith) in
    let x : get_or (take most_updates (drop kept_ids_at b)) i 0 ≡ get_or b (kept_ids_at + i) 0 = get_or-take most_updates (drop kept_ids_at b) i 0 (omega arith) ∙ get_or-drop kept_ids_at b i 0 in
    let y : get_or (drop kept_locations_at b) i 0 ≡ get_or b (kept_locations_at + i) 0 = get_or-drop kept_locations_at b i 0 in
    rw (drop-cons (take most_updates (drop kept_ids_at b)) i 0 p, drop-cons (drop kept_locations_at b) i 0 q, x, y)
    (ap (λ rs. kept_row b i ∷ rs) (pairs_from b n (suc i) l (omega arith)))

pub pairs_rows : (b : List ℕ) (n : ℕ) → length b ≡ batch_words → n ≤ most_updates → pairs n (take most_updates (drop kept_ids_at b)) (drop kept_locations_at b) ≡ kept_from b n 0
pairs_rows b n l h = pairs_from b n 0 l (omega arith)

-- the row at i, and those after it
pub kept_from_next : (b : List ℕ) (n i : ℕ) → i < n → kept_from b (n - i) i ≡ kept_row b i ∷ kept_from b (n - (i + 1)) (i + 1)
unfolding kept_from
kept_from_next b n i h = let e : n - i ≡ suc (n - (i + 1)) = omega arith in rw (e, add-one i)

pub kept_from_none : (b : List ℕ) (n i : ℕ) → n ≤ i → kept_from b (n - i) i ≡ []
unfolding kept_from
kept_from_none b n i h = let e : n - i ≡ 0 = omega arith in rw e

-- ---- the first bad row

-- a row is as bad as the update that is read from it
pub row_read : (bad : Row → Bool) (id l x y : ℕ) (r told : Bool) → id ≡ x → l ≡ y → r ≡ bad (id, l) → r ≡ told → bad (x, y) ≡ told
row_read bad id l x y r told p q e h = (λ k. bad (sym p k, sym q k)) ∙ sym e ∙ h

module _ (bad : Row → Bool) (b : List ℕ) (n i : ℕ) where
  pub first_bad_here : i < n → bad (kept_row b i) ≡ true → first_bad bad i (kept_from b (n - i) i) ≡ refuse tables_disagree i
  unfolding first_bad test ◌⨾◌
  first_bad_here h e = rw (kept_from_next b n i h, e)

  pub first_bad_next : i < n → bad (kept_row b i) ≡ false
      → first_bad bad i (kept_from b (n - i) i) ≡ first_bad bad (i + 1) (kept_from b (n - (i + 1)) (i + 1))
  unfolding first_bad test ◌⨾◌
  first_bad_next h e = rw (kept_from_next b n i h, e, add-one i)

  pub first_bad_none : n ≤ i → first_bad bad i (kept_from b (n - i) i) ≡ ok
  unfolding first_bad
  first_bad_none h = rw (kept_from_none b n i h)

pub abandon_rows_first : (s : Store) (bad : Row → Bool) → ((r : Row) → bad_row s r ≡ bad r) → (i : ℕ) (rs : List Row) → abandon_rows s i rs ≡ first_bad bad i rs
unfolding first_bad
abandon_rows_first s bad h i [] = refl
abandon_rows_first s bad h i (r ∷ rs) = λ k. test (h r k) tables_disagree i ⨾ abandon_rows_first s bad h (suc i) rs k

pub commit_rows_first : (s : Store) (bad : Row → Bool) → ((r : Row) → (bad_row s r || bad_location s r.0) ≡ bad r) → (i : ℕ) (rs : List Row)
    → commit_rows s i rs ≡ first_bad bad i rs
unfolding first_bad
commit_rows_first s bad h i [] = refl
commit_rows_first s bad h i (r ∷ rs) = λ k. test (h r k) tables_disagree i ⨾ commit_rows_first s bad h (suc i) rs k

-- ---- how many rows
one_open_lem : (o : ℕ) (v : Verdict) → ((test (not (ltb 0 o)) no_batch 0 ⨾ test (ltb most_opened o) tables_disagree 0) ⨾ v) ≡ rows_then (count_by o) v
unfolding test ◌⨾◌
one_open_lem zero v = refl
one_open_lem (suc o) v =
    let p : ltb 0 (suc o) ≡ true = lt-ltb 0 (suc o) (omega arith) in
    by_test (ltb most_opened (suc o)) (λ e. simp (p, eqb-suc-zero o, e)) (λ e. simp (p, eqb-suc-zero o, e))

rows_count : (o n : ℕ) → count_by o ≡ Ok n → (n ≡ pred o) × (n ≤ most_updates)
rows_count zero n e = let z : ◌≡◌ {A = ℕ} 0 1 = cc in absurd (omega arith)
rows_count (suc o) n e =
    by_test (ltb most_opened (suc o))
    (λ h.
    let q : Err (refusal tables_disagree 0) ≡ Ok n = simp (eqb-suc-zero o, h) at e in
    let z : ◌≡◌ {A = ℕ} 0 1 = cc in absurd (omega arith))
    (λ h.
    let q : Ok (suc o - 1) ≡ Ok n = simp (eqb-suc-zero o, h) at e in
    let r : suc o - 1 ≡ n = cc in
    (omega arith, omega (arith, ltb-false most_opened (suc o) h)))

pub one_open_rows : (m : Memory) (v : Verdict) → (one_open (read m) ⨾ v) ≡ rows_then (count_of m.batch) v
unfolding read count_of
one_open_rows m v = one_open_lem (get_or m.batch 0 0) v

pub count_of_count : (b : List ℕ) (n : ℕ) → count_of b ≡ Ok n → (n ≡ pred (get_or b 0 0)) × (n ≤ most_updates)
unfolding count_of
count_of_count b n e = rows_count (get_or b 0 0) n e

-- where a batch of no more than most_updates is open
pub one_open_few : (m : Memory) → one_open (read m) ≡ ok → pred (get_or m.batch 0 0) ≤ most_updates
unfolding read
one_open_few m e = let h = ltb-false most_opened (get_or m.batch 0 0) (test_ok (ltb most_opened (get_or m.batch 0 0)) tables_disagree 0 (then_ok (test (not (ltb 0 (get_or m.batch 0 0))) no_batch 0) _ e)) in omega arith

pub kept_rows : (m : Memory) (n : ℕ) → length m.batch ≡ batch_words → n ≡ pred (get_or m.batch 0 0) → n ≤ most_updates → kept (read m) ≡ kept_from m.batch n 0
unfolding read
kept_rows m n l e h = ap (λ x. pairs x (take most_updates (drop kept_ids_at m.batch)) (drop kept_locations_at m.batch)) (sym e) ∙ pairs_rows m.batch n l h

-- ---- what a check's answer tells
pub rows_as_count : (v : Verdict) (p n : ℕ) → rows_as v p ≡ Ok n → (v ≡ ok) × (n ≡ p)
rows_as_count ok p n e = let q : p ≡ n = cc in (refl, sym q)
rows_as_count (refuse k i) p n e = let z : ◌≡◌ {A = ℕ} 0 1 = cc in absurd (omega arith)

pub rows_as_refused : (v : Verdict) (p : ℕ) (r : Refusal) → rows_as v p ≡ Err r → v ≡ refuse r.kind r.index
rows_as_refused ok p r e = let z : ◌≡◌ {A = ℕ} 0 1 = cc in absurd (omega arith)
rows_as_refused (refuse k i) p r e =
    let q : refusal k i ≡ r = cc in
    ap (λ (x : Refusal). refuse x.kind x.index) q

-- ---- the first bad row, of two tests: the earlier of the two first ones

-- how many updates come before the one that is refused; all of them where none is
abbrev pub rows_before : Result ℕ Refusal → ℕ
rows_before (Ok n) = n
rows_before (Err r) = r.index

-- how many of the rows up to `end` come before the first bad one
abbrev before : (Row → Bool) → List ℕ → ℕ → ℕ → ℕ → ℕ
before bad b n i end = rows_before (rows_as (first_bad bad i (kept_from b n i)) end)

module _ (p : Row → Bool) (b : List ℕ) where
  before_from : (n i end : ℕ) → i + n ≡ end → i ≤ before p b n i end
  unfolding first_bad kept_from test ◌⨾◌
  before_from zero i end h = omega arith
  before_from (suc n) i end h =
      by_test (p (get_or b (1 + i) 0, get_or b (257 + i) 0)) (λ e. simp e (omega arith)) (λ e. simp e (omega (arith, before_from n (suc i) end (omega arith))))

  -- that number tells what is refused
  before_tells : (n i end : ℕ) → i + n ≡ end → first_bad p i (kept_from b n i) ≡ test (ltb (before p b n i end) end) tables_disagree (before p b n i end)
  unfolding first_bad kept_from test ◌⨾◌
  before_tells zero i end h = simp (le-ltb end end (omega arith))
  before_tells (suc n) i end h =
      by_test (p (get_or b (1 + i) 0, get_or b (257 + i) 0)) (λ e. simp (e, lt-ltb i end (omega arith))) (λ e. simp e (before_tells n (suc i) end (omega arith)))

module _ (p q : Row → Bool) (b : List ℕ) where
  before_either : (n i end : ℕ) → i + n ≡ end → before (λ r. p r || q r) b n i end ≡ before q b (before p b n i end - i) i (before p b n i end)
  unfolding first_bad kept_from test ◌⨾◌
  before_either zero i end h = let z : end - i ≡ 0 = omega arith in rw z
  before_either (suc n) i end h =
      let m = before p b n (suc i) end in
      let past : suc i ≤ m = before_from p b n (suc i) end (omega arith) in
      let more : m - i ≡ suc (m - suc i) = omega arith in
      let z : i - i ≡ 0 = omega arith in
      by_test (p (get_or b (1 + i) 0, get_or b (257 + i) 0))
      (λ e. simp (e, z))
      (λ e. by_test (q (get_or b (1 + i) 0, get_or b (257 + i) 0)) (λ f. simp (e, f, more)) (λ f. simp (e, f, more) (before_either n (suc i) end (omega arith))))

  -- the second test is asked of the rows before the first bad one by the first
  pub first_bad_either : (n : ℕ) (said own : Result ℕ Refusal) (end first : ℕ) → said ≡ rows_as (first_bad p 0 (kept_from b n 0)) n → end ≡ rows_before said
      → own ≡ rows_as (first_bad q 0 (kept_from b end 0)) end → first ≡ rows_before own
      → rows_as (first_bad (λ r. p r || q r) 0 (kept_from b n 0)) n ≡ rows_as (test (ltb first n) tables_disagree first) n
  first_bad_either n said own end first s e o f =
      let e' : end ≡ before p b n 0 n = e ∙ ap rows_before s in
      let f' : first ≡ before q b end 0 end = f ∙ ap rows_before o in
      let g : before (λ r. p r || q r) b n 0 n ≡ before q b (before p b n 0 n) 0 (before p b n 0 n) = rw sub-zero at (before_either n 0 n (zero-add n)) in
      ap (λ v. rows_as v n) (before_tells (λ r. p r || q r) b n 0 n (zero-add n))
      ∙ ap (λ x. rows_as (test (ltb x n) tables_disagree x) n) (g ∙ ap (λ x. before q b x 0 x) (sym e') ∙ sym f')

-- ---- ranges
module _ (cap l : ℕ) (ok : bad_slots cap ≡ false) where
  -- what is done at a location's address
  pub location_address : {A : Type 0} (f : ℕ → ℕ → A) (d : A) → cond (is_location cap l) (f (l / unit) (l % unit)) d ≡ by_address f d (unpacked cap l)
  unfolding unpacked
  location_address f d = by_test (is_location cap l)
      (λ h.
      let v = is_location_says cap l h in
      let e : suc (l / unit - 1) ≡ l / unit = omega (arith, v.low) in
      let z : eqb l 0 ≡ false = ne_eqb l 0 (is_location_nz cap l h) in
      simp (ok, z, h) (ap (λ x. f x (l % unit)) (sym e)))
      (λ h. by_test (eqb l 0) (λ z. simp (ok, z, h)) (λ z. simp (ok, z, h)))

  -- the same by what it unpacks to: no address, or one
  pub nowhere : {A : Type 0} (f : ℕ → ℕ → A) (d : A) (u : Result (Option SlabAddress) Refusal) → u ≡ unpacked cap l → ((a : SlabAddress) → u ≡ Ok (Some a) → ⊥)
      → d ≡ cond (is_location cap l) (f (l / unit) (l % unit)) d
  nowhere f d u e none = sym (location_address f d ∙ ap (by_address f d) (sym e) ∙ else_is (by_address f d) d refl (λ r. refl) u none)

  pub somewhere : {A : Type 0} (f : ℕ → ℕ → A) (d : A) (a : SlabAddress) → unpacked cap l ≡ Ok (Some a)
      → f (suc a.slab) a.slot ≡ cond (is_location cap l) (f (l / unit) (l % unit)) d
  somewhere f d a e = sym (location_address f d ∙ ap (by_address f d) e)

  is_err_unpacked : is_err (unpacked cap l) ≡ not (eqb l 0 || is_location cap l)
  unfolding unpacked
  is_err_unpacked = by_test (eqb l 0) (λ z. simp (ok, z)) (λ z. by_test (is_location cap l) (λ h. simp (ok, z, h)) (λ h. simp (ok, z, h)))

not_and : (a b : Bool) → not (a && b) ≡ (not a || not b)
not_and true b = refl
not_and false b = refl

pub bad_row_read : (m : Memory) (r : Row) → bad_slots m.slots ≡ false → bad_row (read m) r ≡ bad_kept m.ids m.slots r.0 r.1
unfolding bad_kept read
bad_row_read m r c =
    rw (is_err_unpacked m.slots r.1 c) (not_and (ltb 0 r.0 && ltb r.0 m.ids) (eqb r.1 0 || is_location m.slots r.1))
