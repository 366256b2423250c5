-- The outcome tells which answer it is, and is that of the model's answer. Assumes nothing.
use mathlib.Core.List.{List}
use mathlib.Core.Path.{◌≡◌, refl}
use Prim.Native.Nat.{ℕ}
use lib.ListN.{get_or}
use Rattle.refusal.proofs.Outcomes.{outcome_one}
use Rattle.model.specs.Outcomes.{outcome_of}
use Rattle.model.proofs.Outcomes.{answer_one}
use Rattle.lookup.specs.Lookup.{looked_answer}
use Rattle.lookup.specs.Outcomes.{looked_outcome}
use Rattle.std.specs.Prelude.{Result, Ok, Err}
use Rattle.refusal.specs.declared.Refusal.{Refusal}

pub looked_outcome_one : (a b : Result ℕ Refusal) → looked_outcome a ≡ looked_outcome b → a ≡ b
looked_outcome_one = outcome_one _ (λ vs. get_or vs 0 0) (λ _. refl)

pub looked_answer_outcome : (a : Result ℕ Refusal) (row : List ℕ) → outcome_of (looked_answer a row) ≡ looked_outcome a
looked_answer_outcome (Ok location) row = refl
looked_answer_outcome (Err r) row = refl

-- whatever the two rows hold
pub looked_answer_one : (a b : Result ℕ Refusal) (row row' : List ℕ) → looked_answer a row ≡ looked_answer b row' → a ≡ b
looked_answer_one a b row row' = answer_one looked_outcome looked_outcome_one a b (looked_answer_outcome a row) (looked_answer_outcome b row')
