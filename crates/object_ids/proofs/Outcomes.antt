-- The outcome tells which answer it is, and is that of the model's answer. Assumes nothing.
use Rattle.std.proofs.Common.{◌≡◌, ℕ, List, get_or, refl}
use Rattle.refusal.proofs.Outcomes.{outcome_one}
use Rattle.model.specs.Outcomes.{outcome_of}
use Rattle.model.proofs.Outcomes.{answer_one}
use Rattle.object_ids.specs.NewIds.{new_id_answer}
use Rattle.object_ids.specs.Counts.{counters_answer, stats_answer}
use Rattle.object_ids.specs.Outcomes.{new_id_outcome, counted_outcome}
use Rattle.std.specs.Prelude.{Result, Ok, Err}
use Rattle.refusal.specs.declared.Refusal.{Refusal}
use Rattle.object_ids.specs.declared.counts.AllocatorStats.{AllocatorStats}

-- ---- a new id
pub new_id_outcome_one : (a b : Result ℕ Refusal) → new_id_outcome a ≡ new_id_outcome b → a ≡ b
new_id_outcome_one = outcome_one _ (λ vs. get_or vs 0 0) (λ _. refl)

pub new_id_answer_outcome : (a : Result ℕ Refusal) → outcome_of (new_id_answer a) ≡ new_id_outcome a
new_id_answer_outcome (Ok id) = refl
new_id_answer_outcome (Err r) = refl

pub new_id_answer_one : (a b : Result ℕ Refusal) → new_id_answer a ≡ new_id_answer b → a ≡ b
new_id_answer_one a b = answer_one new_id_outcome new_id_outcome_one a b (new_id_answer_outcome a) (new_id_answer_outcome b)

-- ---- counters
pub counted_outcome_one : (a b : Result AllocatorStats Refusal) → counted_outcome a ≡ counted_outcome b → a ≡ b
counted_outcome_one =
    outcome_one _
    (λ vs. record {
      objects_allocated = get_or vs 0 0;
      objects_freed = get_or vs 1 0;
      heap_slots_allocated = get_or vs 2 0;
      heap_slots_freed = get_or vs 3 0;
    })
    (λ _. refl)

pub counters_answer_outcome : (g f : List ℕ) (a : Result AllocatorStats Refusal) → outcome_of (counters_answer g f a) ≡ counted_outcome a
counters_answer_outcome g f (Ok z) = refl
counters_answer_outcome g f (Err r) = refl

-- whatever the lists of pairs hold
pub counters_answer_one : (g f g' f' : List ℕ) (a b : Result AllocatorStats Refusal) → counters_answer g f a ≡ counters_answer g' f' b → a ≡ b
counters_answer_one g f g' f' a b = answer_one counted_outcome counted_outcome_one a b (counters_answer_outcome g f a) (counters_answer_outcome g' f' b)

pub stats_answer_outcome : (tallies : List ℕ) (a : Result AllocatorStats Refusal) → outcome_of (stats_answer tallies a) ≡ counted_outcome a
stats_answer_outcome tallies a = counters_answer_outcome _ _ a

pub stats_answer_one : (tallies : List ℕ) (a b : Result AllocatorStats Refusal) → stats_answer tallies a ≡ stats_answer tallies b → a ≡ b
stats_answer_one tallies a b = counters_answer_one _ _ _ _ a b
