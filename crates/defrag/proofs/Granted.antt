-- What the tests on the way say of the call: its refusals in their order, and where it is granted, that the rows fit the lent lists. Assumes nothing.
use mathlib.Core.Path.{◌≡◌, refl, sym, ◌∙◌}
use mathlib.Core.Bool.{Bool, true, false, not, ◌&&◌}
use mathlib.Core.List.{List}
use Prim.Native.Nat.{ℕ, suc, ◌+◌, ◌-◌, ◌≤◌}
use native.Mathlib.Omega.{arith}
use lib.Dec.{ltb, eqb}
use lib.ListN.{length, get_or, length-map}
use lib.Seq.{sets, sets-eq}
use lib.Ieee.{Float}
use borrow.Author.Tests.{eqb-true, eq-eqb, lt-ltb, le-ltb}
use Rattle.refusal.specs.Outcomes.{granted, refused}
use Rattle.refusal.specs.Refusals.{wrong_shape, batch_open, ratio_out_of_range}
use Rattle.refusal.proofs.Tests.{and_true, both_ways, clash}
use Rattle.fragmentation.specs.Cutoff.{is_ratio}
use Rattle.model.specs.Store.{Row, Call, ask, defrag, moves}
use Rattle.model.specs.Step.{answer, answer_by, grant, refusal_of, refusal}
use Rattle.model.specs.Questions.{ask_refusal, reply}
use Rattle.model.specs.Tables.{capacities, ids_of, locations_of}
use Rattle.model.specs.Defrag.{all_moves}
use Rattle.model.specs.Verdict.{test, ◌⨾◌}
use Rattle.model.specs.Memory.{Memory, read}
use Rattle.model.specs.Outcomes.{over}
use Rattle.model.specs.Lending.{move_tables}
use Rattle.model.specs.Lent.{lengths_fit, fits, fits_by}
use Rattle.model.proofs.Sizes.{capacities_range, shape_read, sizes_read}
use Rattle.histories.proofs.MovesFit.{moves_fit}

-- ---- lengths

pub some_ids : (ids slots a b c d e : ℕ) → fits_by move_tables ids slots a b c d e ≡ true → 1 ≤ ids
unfolding lengths_fit
some_ids ids slots a b c d e h =
    let r = capacities_range ids slots (and_true (capacities ids slots) _ h).0 in
    omega (arith, r.ids_from)

pub less_one : (n ids : ℕ) → 1 ≤ ids → eqb n (ids - 1) ≡ eqb (suc n) ids
less_one n ids h =
    both_ways (eqb n (ids - 1)) (eqb (suc n) ids)
    (λ e. let q = eqb-true n (ids - 1) e in eq-eqb (suc n) ids (omega arith))
    (λ e. let q = eqb-true (suc n) ids e in eq-eqb n (ids - 1) (omega arith))

-- ---- refusals

module _ (m : Memory) (r : Float) (is ls : List ℕ) where
  abbrev call : Call
  call = ask (defrag r is ls)

  -- the two lists have a row fewer than there are ids
  abbrev listed : Bool
  listed = eqb (suc (length is)) m.ids && eqb (length ls) (length is)

  abbrev fit : Bool
  fit = fits move_tables m && listed

  -- the answer by the four tests
  answer_by_lem : (f l o q : Bool) → fits move_tables m ≡ f → listed ≡ l → ltb 0 (get_or m.batch 0 0) ≡ o → is_ratio r ≡ q
      → answer (read m) call ≡ answer_by (test (not f) wrong_shape 0 ⨾ test (not l) wrong_shape 0 ⨾ test o batch_open 0 ⨾ test (not q) ratio_out_of_range 0) (moves (all_moves (read m) r))
  unfolding answer refusal refusal_of ask_refusal grant reply read
  answer_by_lem f l o q ef el eo eq =
      (λ i. answer_by (shape_read call m i ⨾ test (not listed) wrong_shape 0 ⨾ test (ltb 0 (get_or m.batch 0 0)) batch_open 0 ⨾ test (not (is_ratio r)) ratio_out_of_range 0) (moves (all_moves (read m) r)))
      ∙ (λ i. answer_by (test (not (ef i)) wrong_shape 0 ⨾ test (not (el i)) wrong_shape 0 ⨾ test (eo i) batch_open 0 ⨾ test (not (eq i)) ratio_out_of_range 0) (moves (all_moves (read m) r)))

  pub wrong : fit ≡ false → refused wrong_shape 0 ≡ answer (read m) call
  unfolding test ◌⨾◌
  wrong = go (fits move_tables m) listed refl refl
    where
      go : (f l : Bool) → fits move_tables m ≡ f → listed ≡ l → (f && l) ≡ false → refused wrong_shape 0 ≡ answer (read m) call
      go false l ef el e = sym (answer_by_lem false l _ _ ef el refl refl)
      go true false ef el e = sym (answer_by_lem true false _ _ ef el refl refl)
      go true true ef el e = clash e

  module _ (e : fit ≡ true) where
    both : (fits move_tables m ≡ true) × (listed ≡ true)
    both = and_true (fits move_tables m) listed e

    pub tables_fit : fits move_tables m ≡ true
    tables_fit = both.0

    pub opened : (get_or m.batch 0 0 ≡ 0 → ⊥) → refused batch_open 0 ≡ answer (read m) call
    unfolding test ◌⨾◌
    opened o = sym (answer_by_lem true true true _ both.0 both.1 (lt-ltb 0 (get_or m.batch 0 0) (omega arith)) refl)

    pub ratio : get_or m.batch 0 0 ≡ 0 → is_ratio r ≡ false → refused ratio_out_of_range 0 ≡ answer (read m) call
    unfolding test ◌⨾◌
    ratio o q = sym (answer_by_lem true true false false both.0 both.1 (le-ltb 0 (get_or m.batch 0 0) (omega arith)) q)

    pub given : get_or m.batch 0 0 ≡ 0 → is_ratio r ≡ true → granted (moves (all_moves (read m) r)) ≡ answer (read m) call
    unfolding test ◌⨾◌
    given o q = sym (answer_by_lem true true false true both.0 both.1 (le-ltb 0 (get_or m.batch 0 0) (omega arith)) q)

    -- ---- the rows fit

    lengths_are : (suc (length is) ≡ m.ids) × (length ls ≡ length is)
    lengths_are =
        let d = and_true (eqb (suc (length is)) m.ids) (eqb (length ls) (length is)) both.1 in
        (eqb-true _ _ d.0, eqb-true _ _ d.1)

    pub ids_written : sets is 0 (ids_of (all_moves (read m) r)) ≡ over (ids_of (all_moves (read m) r)) is
    unfolding read
    ids_written =
        let l = lengths_are.0 in
        let h = moves_fit (read m) r (sizes_read move_tables m both.0).caps in
        let n : length (ids_of (all_moves (read m) r)) ≡ length (all_moves (read m) r) = length-map (all_moves (read m) r) (λ (x : Row). x.0) in
        let z : 0 + length (ids_of (all_moves (read m) r)) ≡ length (ids_of (all_moves (read m) r)) = omega arith in
        rw z at (sets-eq (ids_of (all_moves (read m) r)) is 0 (omega arith))

    pub locations_written : sets ls 0 (locations_of (all_moves (read m) r)) ≡ over (locations_of (all_moves (read m) r)) ls
    unfolding read
    locations_written =
        let l = lengths_are.0 in
        let k = lengths_are.1 in
        let h = moves_fit (read m) r (sizes_read move_tables m both.0).caps in
        let n : length (locations_of (all_moves (read m) r)) ≡ length (all_moves (read m) r) = length-map (all_moves (read m) r) (λ (x : Row). x.1) in
        let z : 0 + length (locations_of (all_moves (read m) r)) ≡ length (locations_of (all_moves (read m) r)) = omega arith in
        rw z at (sets-eq (locations_of (all_moves (read m) r)) ls 0 (omega arith))
