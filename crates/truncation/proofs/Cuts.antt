-- The statements of specs/Cuts. Rounding up is one law (`rounded`), and a question that was granted knows its tests (`passed`). Assumes nothing.
use mathlib.Core.Path.{◌≡◌, refl, sym, ap, ◌∙◌}
use mathlib.Core.Bool.{Bool, true, false, not, cond, ◌&&◌, ◌||◌}
use mathlib.Core.List.{List}
use Prim.Native.Nat.{ℕ, zero, suc, ◌+◌, ◌-◌, ◌*◌, ◌/◌, ◌<◌, ◌≤◌, max, pred}
use native.Mathlib.Nat.{lt-div-mul-add, div-mul-le_self, le_of_mul-le-mul_right, mul-le-mul_right, div-lt_iff_lt-mul}
use native.Mathlib.Omega.{arith}
use lib.Dec.{ltb}
use lib.ListN.{length, get_or}
use lib.Seq.{get_or-set_same}
use borrow.Author.Tests.{ltb-true, leb-false, lt-leb}
use Rattle.refusal.specs.Outcomes.{granted}
use Rattle.refusal.specs.Refusals.{wrong_shape, batch_open, out_of_range, ratio_out_of_range, nothing_to_cut}
use Rattle.address.specs.Address.{slabs}
use Rattle.sizes.specs.Sizes.{size_of}
use Rattle.model.specs.Store.{Store, Cut, keep, cut, done, truncated, truncation, report}
use Rattle.model.specs.Tables.{capacities, slab_tip}
use Rattle.model.specs.Lending.{slab_tables, lent_fit}
use Rattle.model.specs.Truncation.{high_mark, bytes_to, fill, target_length, whole_slots, new_length, bytes_given_back, cut_of, cut_at, keeps, raise, with_high}
use Rattle.model.specs.Step.{refusal_of, refusal, grant, effect, answer, answer_by, next, unless}
use Rattle.model.specs.Verdict.{Verdict, ok, refuse, ◌⨾◌, test}
use Rattle.model.proofs.Sizes.{slab_tip_le, length_raise}
use Rattle.model.proofs.Granted.{granted_sizes}
use Rattle.truncation.specs.Cuts.{WholeCut, CutWhole, AnswerWhole, RoundedUp, TargetBelow, report_answer, ReportAfter}
use Rattle.truncation.proofs.Laws.{size_of_range, passed}

-- ---- lengths

rounded : (size n : ℕ) → 1 ≤ size → (n ≤ whole_slots size n) × (whole_slots size n < n + size)
rounded size n h =
    let low = lt-div-mul-add {a = n + size - 1} {b = size} h in
    let high = div-mul-le_self (n + size - 1) size in
    (omega (arith, low), omega (arith, high))

pub rounded_up : RoundedUp
rounded_up size top h = rounded size (target_length size top) h

-- the target is no less than what is in use
target_from : (size top : ℕ) → bytes_to size top ≤ target_length size top
target_from size top = by (ltb top 16) (bytes_to size top)
  where
    by : (b : Bool) (used : ℕ) → used ≤ cond b used (used * 115 / 100)
    by true used = omega arith
    by false used = omega arith

pub target_below : TargetBelow
target_below size top high t h low sparse = by (ltb top 16) (bytes_to size top) (bytes_to size high) (mul-le-mul_right size (omega arith)) sparse
  where
    by : (b : Bool) (used before : ℕ) → 1 * size ≤ before → used * 100 / before < t → cond b used (used * 115 / 100) < before
    by b used before pos less =
        let some : 0 < before = omega arith in
        let few : used * 100 < t * before = (div-lt_iff_lt-mul {k = before} {x = used * 100} {y = t} some).0 less in
        let most : t * before ≤ 86 * before = mul-le-mul_right before low in
        in_use b (omega arith)
      where
        in_use : (b : Bool) → used * 100 < 86 * before → cond b used (used * 115 / 100) < before
        in_use true l = omega arith
        in_use false l = omega arith

-- ---- a cut

pub cut_whole : CutWhole
cut_whole size top high t length back h e = by (ltb (fill size top high) t) (ltb (new_length size top) (bytes_to size high)) refl e
  where
    by : (a b : Bool) → ltb (new_length size top) (bytes_to size high) ≡ b
        → cond (a && b) (cut (new_length size top) (bytes_given_back size top high)) keep ≡ cut length back → WholeCut size top high length back
    by true true l e =
        let is : new_length size top ≡ length = cc in
        let rest : bytes_given_back size top high ≡ back = cc in
        let below : new_length size top < bytes_to size high = ltb-true _ _ l in
        record {
          slots = (target_length size top + size - 1) / size;
          whole = sym is;
          covers = le_of_mul-le-mul_right (omega (arith, target_from size top, (rounded_up size top h).0)) h;
          below = rw (← is) below;
          gives = omega (arith, below, rest);
          together = omega (arith, below, is, rest);
        }
    by true false l e = let z : ◌≡◌ {A = ℕ} 0 1 = cc in absurd (omega arith)
    by false b l e = let z : ◌≡◌ {A = ℕ} 0 1 = cc in absurd (omega arith)

at_whole : (k high t tip length back : ℕ) → 1 ≤ size_of k → cut_at k high t tip ≡ cut length back → WholeCut (size_of k) (pred tip) (max high (pred tip)) length back
unfolding cut_at
at_whole k high t zero length back h e = let z : ◌≡◌ {A = ℕ} 0 1 = cc in absurd (omega arith)
at_whole k high t (suc top) length back h e = cut_whole (size_of k) top (max high top) t length back h e

-- ---- a question that was granted

-- its tests were passed, and its answer is what becomes of the file
granted_by : (s : Store) (k t : ℕ) (c : Cut) → answer s (truncation k t) ≡ granted (truncated c)
    → (refusal s (truncation k t) ≡ ok) × (cut_at k (high_mark s k) t (slab_tip s k) ≡ c)
unfolding answer grant
granted_by s k t c e = by (refusal s (truncation k t)) refl e
  where
    by : (v : Verdict) → refusal s (truncation k t) ≡ v → answer_by v (truncated (cut_at k (high_mark s k) t (slab_tip s k))) ≡ granted (truncated c)
        → (refusal s (truncation k t) ≡ ok) × (cut_at k (high_mark s k) t (slab_tip s k) ≡ c)
    by ok p e = (p, cc)
    by (refuse n i) p e = let z : ◌≡◌ {A = ℕ} 0 1 = cc in absurd (omega arith)

pub answer_whole : AnswerWhole
answer_whole s k t length back e =
    let g = granted_by s k t (cut length back) e in
    at_whole k (high_mark s k) t (slab_tip s k) length back (size_of_range k (leb-false slabs k (passed s k t g.0).slab)).0 g.1

-- ---- a report after it

module _ (s : Store) (k t : ℕ) where
  abbrev marks : List ℕ
  marks = raise s.tallies.high k (slab_tip s k)

  -- the raised mark is below the slots, and raising it again leaves it
  raised_below : (tip : ℕ) → tip ≤ s.slots → k < length s.tallies.high → high_mark s k < s.slots → get_or (raise s.tallies.high k tip) k 0 < s.slots
  raised_below zero l h below = below
  raised_below (suc top) l h below = rw (get_or-set_same s.tallies.high k (max (high_mark s k) top) 0 h) (omega arith)

  raised_cut : (tip : ℕ) → k < length s.tallies.high → cut_at k (get_or (raise s.tallies.high k tip) k 0) t tip ≡ cut_at k (high_mark s k) t tip
  unfolding cut_at
  raised_cut zero h = refl
  raised_cut (suc top) h =
      let p : max (get_or (raise s.tallies.high k (suc top)) k 0) top ≡ max (high_mark s k) top =
      rw (get_or-set_same s.tallies.high k (max (high_mark s k) top) 0 h) (omega arith) in
      ap (λ x. cut_of (size_of k) top x t) p

  report_refusal : refusal s (truncation k t) ≡ ok → refusal (with_high s marks) (report k t) ≡ test (keeps (cut_at k (high_mark s k) t (slab_tip s k))) nothing_to_cut 0
  unfolding refusal refusal_of lent_fit test ◌⨾◌
  report_refusal fine =
      let p = passed s k t fine in
      let z = granted_sizes s (truncation k t) fine in
      let h : k < length s.tallies.high = omega (arith, leb-false slabs k p.slab, z.high) in
      let below = raised_below (slab_tip s k) (slab_tip_le s z.range.slots_from k) h (leb-false s.slots (high_mark s k) p.mark) in
      let fit : (capacities s.ids s.slots && lent_fit slab_tables (with_high s marks)) ≡ true = rw (length_raise s.tallies.high k (slab_tip s k)) p.fit in
      λ i. test (not (fit i)) wrong_shape 0 ⨾
      (test (p.shut i) batch_open 0 ⨾ test (p.slab i || lt-leb s.slots (get_or marks k 0) below i) out_of_range 0 ⨾ test (not (p.target i)) ratio_out_of_range 0) ⨾
      test (keeps (raised_cut (slab_tip s k) h i)) nothing_to_cut 0

pub report_after : ReportAfter
unfolding answer next effect grant test
report_after s k t c e =
    let g = granted_by s k t c e in
    (λ i. answer (unless (g.0 i) s (with_high s (raise s.tallies.high k (slab_tip s k)))) (report k t))
    ∙ (λ i. answer_by (report_refusal s k t g.0 i) done)
    ∙ ap (λ x. answer_by (test (keeps x) nothing_to_cut 0) done) g.1
    ∙ by c
  where
    by : (c : Cut) → answer_by (test (keeps c) nothing_to_cut 0) done ≡ report_answer c
    by keep = refl
    by (cut n b) = refl
