-- The outcome tells which answer it is, and is that of the model's answer. Assumes nothing.
use mathlib.Core.List.{List, [], ◌∷◌}
use mathlib.Core.Path.{◌≡◌, refl}
use Prim.Native.Nat.{ℕ}
use lib.ListN.{get_or}
use Rattle.std.specs.Prelude.{Result, Ok, Err}
use Rattle.refusal.proofs.Outcomes.{outcome_one}
use Rattle.refusal.specs.declared.Refusal.{Refusal}
use Rattle.model.specs.Outcomes.{outcome_of}
use Rattle.model.proofs.Outcomes.{answer_one}
use Rattle.reason.specs.Reasons.{reason_answer}
use Rattle.reason.specs.Outcomes.{reason_says, reason_outcome}
use Rattle.reason.specs.declared.Standing.{Standing}
use Rattle.reason.specs.declared.Reason.{Reason}
use Rattle.reason.specs.declared.Reason.TheVariants as R

abbrev standing_back : List ℕ → Standing
standing_back vs = record { slab = get_or vs 1 0; slot = get_or vs 2 0; smaller = get_or vs 3 0; live = get_or vs 4 0; tip = get_or vs 5 0 }

-- by the first value
abbrev reason_back : List ℕ → Reason
reason_back vs =
    get_or (R.NotStored ∷ R.FullEnough (standing_back vs) ∷ R.BeforeLine (standing_back vs) (get_or vs 6 0) ∷ []) (get_or vs 0 0) (R.Listed (standing_back vs) (get_or vs 6 0))

pub reason_outcome_one : (a b : Result Reason Refusal) → reason_outcome a ≡ reason_outcome b → a ≡ b
reason_outcome_one =
    outcome_one reason_says reason_back
    λ a. elim a as (λ k. reason_back (reason_says k) ≡ k) [ R.NotStored ↦ refl | R.FullEnough w ↦ refl | R.BeforeLine w line ↦ refl | R.Listed w line ↦ refl ]

pub reason_answer_outcome : (a : Result Reason Refusal) → outcome_of (reason_answer a) ≡ reason_outcome a
reason_answer_outcome (Ok R.NotStored) = refl
reason_answer_outcome (Ok (R.FullEnough w)) = refl
reason_answer_outcome (Ok (R.BeforeLine w line)) = refl
reason_answer_outcome (Ok (R.Listed w line)) = refl
reason_answer_outcome (Err r) = refl

pub reason_answer_one : (a b : Result Reason Refusal) → reason_answer a ≡ reason_answer b → a ≡ b
reason_answer_one a b = answer_one reason_outcome reason_outcome_one a b (reason_answer_outcome a) (reason_answer_outcome b)
