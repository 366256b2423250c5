-- Laws of release: its tests on lengths and words, one allocator by its waiting word, and one turn of the loop over the slabs. Assumes nothing.
use mathlib.Core.Path.{◌≡◌, refl, sym, ap, ◌∙◌}
use mathlib.Core.Bool.{not}
use mathlib.Core.List.{List, map}
use Prim.Native.Nat.{ℕ, zero, suc, ◌+◌, ◌-◌, ◌*◌, ◌<◌, ◌≤◌}
use native.Mathlib.Nat.{mul-le-mul_right, suc-mul}
use native.Mathlib.Numerals.{add-one}
use native.Mathlib.Omega.{arith}
use lib.Dec.{ltb}
use lib.ListN.{length, get_or, take, drop}
use borrow.Rule.Slice.PartMut.{put_mid}
use Rattle.refusal.specs.Outcomes.{granted}
use Rattle.refusal.specs.Refusals.{wrong_shape, batch_open}
use Rattle.list_parts.specs.Parts.{part}
use Rattle.address.specs.Address.{slabs}
use Rattle.marks.specs.Marks.{is_pending, count_if, let_go}
use Rattle.id_allocator.specs.Counted.{hinted}
use Rattle.model.specs.Store.{done, release}
use Rattle.model.specs.Tables.{bump}
use Rattle.model.specs.Step.{refusal_of, refusal, grant, answer, answer_by}
use Rattle.model.specs.Memory.{Memory, read, get_word, word_at, put_word, freed_words, hint_words, waiting_words}
use Rattle.model.specs.MemoryAfter.{Slots, with_ids, with_slots, released_marks, released_words, release_slabs, release_ids, memory_effect, memory_after}
use Rattle.model.specs.Verdict.{◌⨾◌, test}
use Rattle.model.specs.Lending.{mark_tables}
use Rattle.model.specs.Lent.{fits}
use Rattle.model.proofs.Granted.{granted_fits}
use Rattle.model.proofs.Sizes.{shape_read, fits_slot_marks}
use Rattle.model.proofs.Answered.{granted_after}

-- ---- the tests
module _ (m : Memory) where
  pub release_answer : answer (read m) release
      ≡ answer_by (test (not (fits mark_tables m)) wrong_shape 0 ⨾ test (ltb 0 (get_or m.batch 0 0)) batch_open 0) done
  unfolding answer refusal refusal_of grant read
  release_answer = λ i. answer_by (shape_read release m i ⨾ test (ltb 0 (get_or m.batch 0 0)) batch_open 0) done

  -- what a granted release has found
  pub release_length : granted done ≡ answer (read m) release → length m.slot_marks ≡ slabs * m.slots
  release_length e = fits_slot_marks mark_tables m (granted_fits m release (granted_after m release (granted done) e refl).fine)

-- ---- one allocator
module _ (g : List ℕ) (a w : ℕ) (ms : List ℕ) where
  pub quiet_marks : (hint : ℕ) → w ≡ 0 → ms ≡ released_marks hint w ms
  quiet_marks hint e = ap (λ x. released_marks hint x ms) (sym e)

  pub quiet_words : w ≡ 0 → g ≡ released_words g a w ms
  quiet_words e = ap (λ x. released_words g a x ms) (sym e)

pub waiting_marks : (hint w : ℕ) (ms : List ℕ) → (w ≡ 0 → ⊥) → map let_go (hinted hint ms) ≡ released_marks hint w ms
waiting_marks hint zero ms h = absurd (h refl)
waiting_marks hint (suc w) ms h = refl

waiting_words_lem : (g : List ℕ) (a w : ℕ) (ms : List ℕ) → (w ≡ 0 → ⊥)
    → put_word (put_word (bump g (word_at freed_words a) (count_if is_pending (hinted (get_word g hint_words a) ms))) hint_words a 0) waiting_words a 0 ≡ released_words g a w ms
waiting_words_lem g a zero ms h = absurd (h refl)
waiting_words_lem g a (suc w) ms h = refl

-- the pending ones are counted as freed, then hint and waiting are 0
pub released_words_lem : (g counted unhinted after : List ℕ) (a w hint freed : ℕ) (ms : List ℕ) → (w ≡ 0 → ⊥) → hint ≡ get_word g hint_words a → freed ≡ count_if is_pending (hinted hint ms)
    → counted ≡ bump g (word_at freed_words a) freed → unhinted ≡ put_word counted hint_words a 0 → after ≡ put_word unhinted waiting_words a 0 → after ≡ released_words g a w ms
released_words_lem g counted unhinted after a w hint freed ms h p f c u e =
    e ∙ ap (λ x. put_word x waiting_words a 0) (u ∙ ap (λ x. put_word x hint_words a 0) (c ∙ ap (bump g (word_at freed_words a)) (f ∙ ap (λ x. count_if is_pending (hinted x ms)) p)))
    ∙ waiting_words_lem g a w ms h

-- ---- the slabs
pub start_within : (cap k start : ℕ) → start ≡ k * cap → k < slabs → start + cap ≤ slabs * cap
start_within cap k start e h = omega (arith, mul-le-mul_right cap h, suc-mul k cap)

pub release_end : (cap n k : ℕ) (s : Slots) → n ≡ 0 → s ≡ release_slabs cap n k s
unfolding release_slabs
release_end cap n k s e = ap (λ x. release_slabs cap x k s) (sym e)

-- one slab passed: what is left to do is the same
pub release_turn : (cap k start : ℕ) (ms g ys g' : List ℕ) → k < slabs → start ≡ k * cap
    → ys ≡ released_marks (get_word g hint_words (k + 1)) (get_word g waiting_words (k + 1)) (take (start + cap - start) (drop start ms))
    → g' ≡ released_words g (k + 1) (get_word g waiting_words (k + 1)) (take (start + cap - start) (drop start ms))
    → release_slabs cap (slabs - (k + 1)) (k + 1) (record { marks = put_mid start (start + cap - start) ms ys; words = g' })
    ≡ release_slabs cap (slabs - k) k (record { marks = ms; words = g })
unfolding release_slabs
release_turn cap k start ms g ys g' h s y w =
    let n : start + cap - start ≡ cap = omega arith in
    let e : slabs - k ≡ suc (slabs - (k + 1)) = omega arith in
    let old : Slots = record { marks = ms; words = g } in
    let marks : ys ≡ released_marks (get_word g hint_words (suc k)) (get_word g waiting_words (suc k)) (part cap ms k) =
    y ∙ λ i. released_marks (get_word g hint_words (add-one k i)) (get_word g waiting_words (add-one k i)) (take (n i) (drop (s i) ms)) in
    let words : g' ≡ released_words g (suc k) (get_word g waiting_words (suc k)) (part cap ms k) =
    w ∙ λ i. released_words g (add-one k i) (get_word g waiting_words (add-one k i)) (take (n i) (drop (s i) ms)) in
    (λ i. release_slabs cap (slabs - (k + 1)) (add-one k i) (record { marks = put_mid (s i) (n i) ms (marks i); words = words i }))
    ∙ ap (λ x. release_slabs cap x k old) (sym e)

-- ---- the memory after a release
pub release_after : (m : Memory) (ids g₁ : List ℕ) (s : Slots) → granted done ≡ answer (read m) release
    → ids ≡ released_marks (get_word m.tallies hint_words 0) (get_word m.tallies waiting_words 0) m.id_marks
    → g₁ ≡ released_words m.tallies 0 (get_word m.tallies waiting_words 0) m.id_marks
    → s ≡ release_slabs m.slots slabs 0 (record { marks = m.slot_marks; words = g₁ })
    → with_slots (with_ids m ids g₁) s ≡ memory_after m release
unfolding memory_effect
release_after m ids g₁ s e a b c =
    (λ i. with_slots (with_ids m (a i) (b i)) (c i))
    ∙ (λ i. with_slots (release_ids m) (release_slabs m.slots slabs 0 (record { marks = m.slot_marks; words = b i })))
    ∙ sym (granted_after m release (granted done) e refl).after
