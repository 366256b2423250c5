-- The outcome tells which answer it is. Assumes nothing.
use mathlib.Core.Path.{◌≡◌, refl}
use lib.ListN.{get_or}
use Rattle.refusal.proofs.Outcomes.{outcome_one}
use Rattle.batch_kept.specs.Outcomes.{rows_outcome}
use Rattle.std.specs.Prelude.{Result, ℕ}
use Rattle.refusal.specs.declared.Refusal.{Refusal}

pub rows_outcome_one : (a b : Result ℕ Refusal) → rows_outcome a ≡ rows_outcome b → a ≡ b
rows_outcome_one = outcome_one _ (λ vs. (get_or vs 0 0)) (λ _. refl)
