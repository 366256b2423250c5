-- The outcome tells which answer it is. Assumes nothing.
use mathlib.Core.Path.{◌≡◌, refl}
use lib.ListN.{get_or}
use Rattle.refusal.proofs.Outcomes.{outcome_one}
use Rattle.sizes.specs.Outcomes.{class_outcome}
use Rattle.std.specs.Prelude.{Result, ℕ}
use Rattle.refusal.specs.declared.Refusal.{Refusal}

pub class_outcome_one : (a b : Result ℕ Refusal) → class_outcome a ≡ class_outcome b → a ≡ b
class_outcome_one = outcome_one _ (λ vs. (get_or vs 0 0)) (λ _. refl)
