-- Laws of the counters: the words of a kind are a part of the tallies, summed from the last to the first as the definition sums. Assumes nothing.
use Rattle.std.proofs.Common.{◌≡◌, ℕ, suc, ◌+◌, ◌-◌, ◌%◌, ◌^◌, ◌<◌, ◌≤◌, true, not, eqb, List, ◌++◌, length, get_or, take, drop, sym, refl, ap, ◌∙◌, append-nil, arith, length-drop, drop_of_length-le, length-take, get_or-drop, drop-cons, get_or-take, eq-eqb, ne_eqb, eqb-true}
use lib.Seq.{drop-length}
use Rattle.refusal.specs.Outcomes.{granted, refused}
use Rattle.refusal.proofs.Tests.{and_true}
use Rattle.refusal.specs.Refusals.{wrong_shape}
use Rattle.model.specs.Store.{Sums, counts, Answer, counters, ask}
use Rattle.model.specs.Ids.{sum}
use Rattle.model.specs.Step.{refusal_of, refusal, grant, answer, answer_by}
use Rattle.model.specs.Questions.{ask_refusal, reply}
use Rattle.model.specs.Lending.{tallies_alone}
use Rattle.model.specs.Lent.{lengths_fit, fits, fits_by}
use Rattle.model.specs.Outcomes.{over}
use Rattle.model.specs.Memory.{Memory, read, tally_words}
use Rattle.model.specs.Tables.{allocators, capacities}
use Rattle.model.specs.Verdict.{ok, test, ◌⨾◌}
use Rattle.model.proofs.Granted.{granted_fits}
use Rattle.model.proofs.Sizes.{shape_read, fits_tallies}
use Rattle.model.proofs.Verdicts.{then_nothing}
use Rattle.model.proofs.Answered.{granted_after}
use Rattle.object_ids.specs.Counts.{listed}

-- ---- the words of a kind
abbrev pub words : List ℕ → ℕ → List ℕ
words g base = take allocators (drop base g)

module _ (g : List ℕ) (base : ℕ) where
  pub words_at : (i : ℕ) → i < allocators → get_or (words g base) i 0 ≡ get_or g (base + i) 0
  words_at i h = get_or-take allocators (drop base g) i 0 h ∙ get_or-drop base g i 0

  pub words_long : base + allocators ≤ length g → length (words g base) ≡ allocators
  words_long h = simp (length-take, length-drop) (omega arith)

  -- summed from the end
  pub sum_end : base + allocators ≤ length g → 0 ≡ sum (drop allocators (words g base))
  sum_end h = ap sum (sym (drop-length (words g base)) ∙ ap (λ n. drop n (words g base)) (words_long h))

  pub sum_turn : (i s : ℕ) → base + allocators ≤ length g → 1 < i → i ≤ allocators → s ≡ sum (drop i (words g base))
      → (get_or g (base + (i - 1)) 0 + s) % 2 ^ 64 ≡ sum (drop (i - 1) (words g base))
  sum_turn i s h low high e =
      let lt : i - 1 < length (words g base) = omega (arith, words_long h) in
      let next : suc (i - 1) ≡ i = omega arith in
      (λ j. (sym (words_at (i - 1) (omega arith)) j + e j) % 2 ^ 64)
      ∙ ap (λ n. (get_or (words g base) (i - 1) 0 + sum (drop n (words g base))) % 2 ^ 64) (sym next)
      ∙ ap sum (sym (drop-cons (words g base) (i - 1) 0 lt))

-- ---- the answer, on lengths and words
pub counters_answer : (m : Memory) → answer (read m) (ask counters)
    ≡ answer_by (test (not (fits tallies_alone m)) wrong_shape 0)
    (counts (words m.tallies 0) (words m.tallies allocators) (record {
      objects_allocated = get_or m.tallies 0 0;
      objects_freed = get_or m.tallies allocators 0;
      heap_slots_allocated = sum (drop 1 (words m.tallies 0));
      heap_slots_freed = sum (drop 1 (words m.tallies allocators));
    }))
unfolding answer refusal refusal_of ask_refusal grant reply read
counters_answer m = λ i. answer_by ((ap (λ v. v ⨾ ok) (shape_read (ask counters) m) ∙ then_nothing (test (not (fits tallies_alone m)) wrong_shape 0)) i)
    (counts (words m.tallies 0) (words m.tallies allocators) (record {
      objects_allocated = words_at m.tallies 0 0 (omega arith) i;
      objects_freed = words_at m.tallies allocators 0 (omega arith) i;
      heap_slots_allocated = sum (drop 1 (words m.tallies 0));
      heap_slots_freed = sum (drop 1 (words m.tallies allocators));
    }))

pub tallies_long : (ids slots n : ℕ) → fits_by tallies_alone ids slots n ≡ true → n ≡ tally_words
unfolding lengths_fit
tallies_long ids slots n e = eqb-true _ _ (and_true (capacities ids slots) (eqb n tally_words) e).1

-- the tallies of a granted call
pub counters_length : (m : Memory) (g f : List ℕ) (z : Sums) → granted (counts g f z) ≡ answer (read m) (ask counters) → length m.tallies ≡ tally_words
counters_length m g f z e = fits_tallies tallies_alone m (granted_fits m (ask counters) (granted_after m (ask counters) (granted (counts g f z)) e refl).fine)

-- ---- the lent lists

-- the words of a kind over all of a list that is as long
pub words_over : (g lent : List ℕ) (base : ℕ) → base + allocators ≤ length g → length lent ≡ allocators → words g base ≡ over (words g base) lent
words_over g lent base h e =
    sym (append-nil (words g base))
    ∙ ap (λ x. words g base ++ x) (sym (drop_of_length-le lent {i = length (words g base)} (omega (arith, words_long g base h))))

module _ (g f : List ℕ) (a : Answer) where
  pub listed_first : (length g ≡ allocators → ⊥) → listed g f a ≡ refused wrong_shape 0
  unfolding listed
  listed_first h = simp (ne_eqb _ _ h)

  pub listed_second : length g ≡ allocators → (length f ≡ allocators → ⊥) → listed g f a ≡ refused wrong_shape 0
  unfolding listed
  listed_second e h = simp (eq-eqb _ _ e, ne_eqb _ _ h)

  pub listed_both : length g ≡ allocators → length f ≡ allocators → listed g f a ≡ a
  unfolding listed
  listed_both e d = simp (eq-eqb _ _ e, eq-eqb _ _ d)
