-- Laws of a new id: its answer in terms of lengths, words and a search from the hint, and how many numbers it takes. Assumes nothing.
use Rattle.std.proofs.Common.{◌≡◌, ℕ, zero, suc, ◌+◌, ◌<◌, Bool, true, false, cond, not, ◌&&◌, eqb, ltb, leb, List, [], ◌∷◌, length, get_or, set, sym, refl, ap, ◌∙◌, arith}
use lib.Dec.{eqb-suc-zero}
use Rattle.refusal.specs.Outcomes.{granted}
use Rattle.refusal.specs.Refusals.{wrong_shape, batch_open, none_free}
use Rattle.marks.specs.Marks.{is_free, smallest_free, hold}
use Rattle.id_allocator.specs.Counted.{hinted, quiet, counted}
use Rattle.id_allocator.proofs.LawsCounted.{counted_smallest_free, counted_length, settle_free}
use Rattle.model.specs.Memory.{Memory, read, word_at, get_word, put_word, granted_words, used_words, hint_words, waiting_words}
use Rattle.model.specs.MemoryAfter.{with_ids, new_id_words, memory_effect, memory_after}
use Rattle.model.specs.Step.{refusal_of, refusal, grant, answer, answer_by}
use Rattle.model.specs.Store.{new_id, gave}
use Rattle.model.specs.Ids.{next_id}
use Rattle.model.specs.Tables.{bump}
use Rattle.model.specs.Lending.{id_tables}
use Rattle.model.specs.Lent.{fits}
use Rattle.model.specs.Verdict.{◌⨾◌, test}
use Rattle.model.proofs.Granted.{granted_fits, new_id_granted}
use Rattle.model.proofs.Sizes.{shape_read, fits_range, fits_id_marks}
use Rattle.model.proofs.Answered.{granted_after}
use Rattle.object_ids.specs.NewIds.{takes}

module _ (m : Memory) where
  -- the smallest free number above 0, searched for from the hint
  abbrev pub found : ℕ
  found = smallest_free 1 (hinted (get_word m.tallies hint_words 0) m.id_marks)

  pub next_found : next_id (read m) ≡ found
  unfolding read
  next_found = counted_smallest_free (get_word m.tallies hint_words 0) (get_word m.tallies waiting_words 0) m.id_marks 1

  pub new_id_answer : answer (read m) new_id
      ≡ answer_by (test (not (fits id_tables m)) wrong_shape 0 ⨾ test (ltb 0 (get_or m.batch 0 0)) batch_open 0 ⨾ test (leb m.ids found) none_free 0) (gave found)
  unfolding answer refusal refusal_of grant read
  new_id_answer = λ i. answer_by
      (shape_read new_id m i ⨾ test (ltb 0 (get_or m.batch 0 0)) batch_open 0 ⨾ test (leb m.ids (next_found i)) none_free 0)
      (gave (next_found i))

-- number 0 is free where its mark is 0 and the hint is 0
hold_taken : (x : ℕ) → is_free (hold x) ≡ false
hold_taken zero = refl
hold_taken (suc x) = eqb-suc-zero x

and_yes : (b : Bool) → b ≡ (b && true)
and_yes true = refl
and_yes false = refl

and_no : (b c : Bool) → c ≡ false → false ≡ (b && c)
and_no true c e = sym e
and_no false c e = refl

free_read : (hint w : ℕ) (ms : List ℕ) → 0 < length ms → is_free (get_or (counted hint w ms) 0 0) ≡ (is_free (get_or ms 0 0) && eqb hint 0)
unfolding counted hinted quiet
free_read hint w [] h = absurd (omega arith)
free_read zero zero (x ∷ ms) h = settle_free x ∙ and_yes (is_free x)
free_read zero (suc w) (x ∷ ms) h = and_yes (is_free x)
free_read (suc hint) zero (x ∷ ms) h = settle_free (hold x) ∙ hold_taken x ∙ and_no (is_free x) (eqb (suc hint) 0) (eqb-suc-zero hint)
free_read (suc hint) (suc w) (x ∷ ms) h = hold_taken x ∙ and_no (is_free x) (eqb (suc hint) 0) (eqb-suc-zero hint)

pub takes_read : (m : Memory) → 0 < length m.id_marks
    → takes (get_or m.id_marks 0 0) (get_word m.tallies hint_words 0) ≡ cond (is_free (get_or (read m).id_marks 0 0)) 2 1
unfolding read
takes_read m h = ap (λ b. cond b 2 1) (sym (free_read (get_word m.tallies hint_words 0) (get_word m.tallies waiting_words 0) m.id_marks h))

-- ---- a granted call: the id is below the length, and the tables are written so
pub record NewIdGranted (m : Memory) (id : ℕ) : Type 0 where
  pub some : 0 < length m.id_marks
  pub small : id < 65536
  pub after : memory_after m new_id
      ≡ with_ids m (set (set m.id_marks id 1) 0 (hold (get_or m.id_marks 0 0)))
      (new_id_words m.tallies id (takes (get_or m.id_marks 0 0) (get_word m.tallies hint_words 0)))

pub new_id_granted_lem : (m : Memory) (id : ℕ) → granted (gave id) ≡ answer (read m) new_id → NewIdGranted m id
unfolding grant memory_effect read
new_id_granted_lem m id e =
    let q = granted_after m new_id (granted (gave id)) e refl in
    let is : id ≡ next_id (read m) = let g : granted (gave id) ≡ granted (gave (next_id (read m))) = q.given in cc in
    let lt : next_id (read m) < length (read m).id_marks = new_id_granted (read m) q.fine in
    let len : length (read m).id_marks ≡ length m.id_marks = counted_length (get_word m.tallies hint_words 0) (get_word m.tallies waiting_words 0) m.id_marks in
    let f = granted_fits m new_id q.fine in
    let r = fits_range id_tables m f in
    let ids = fits_id_marks id_tables m f in
    let some : 0 < length m.id_marks = omega arith in
    record {
      some = some;
      small = omega (arith, r.ids_to, ids);
      after = q.after ∙ λ i.
          with_ids m (set (set m.id_marks (sym is i) 1) 0 (hold (get_or m.id_marks 0 0)))
          (new_id_words m.tallies (sym is i) (sym (takes_read m some) i));
    }

-- ---- an id is held: what is written, one after the other
pub held_marks : (ms with after : List ℕ) (id first held : ℕ) → with ≡ set ms id 1 → held ≡ hold first → after ≡ set with 0 held → after ≡ set (set ms id 1) 0 (hold first)
held_marks ms with after id first held p h e = e ∙ (λ k. set (p k) 0 (h k))

pub held_words : (g counted used after : List ℕ) (id first hint more : ℕ) → hint ≡ get_word g hint_words 0 → more ≡ takes first hint → counted ≡ bump g (word_at granted_words 0) more
    → used ≡ put_word counted used_words 0 1 → after ≡ put_word used hint_words 0 (id + 1) → after ≡ new_id_words g id (takes first (get_word g hint_words 0))
held_words g counted used after id first hint more h m c u e =
    e ∙ ap (λ x. put_word x hint_words 0 (id + 1)) (u ∙ ap (λ x. put_word x used_words 0 1) (c ∙ ap (bump g (word_at granted_words 0)) (m ∙ ap (takes first) h)))
