-- The outcome tells which answer it is. Assumes nothing.
use mathlib.Core.Path.{◌≡◌, refl}
use lib.ListN.{get_or}
use Rattle.refusal.proofs.Outcomes.{outcome_one}
use Rattle.defrag.specs.Outcomes.{defrag_outcome}
use Rattle.std.specs.Prelude.{Result, ℕ}
use Rattle.refusal.specs.declared.Refusal.{Refusal}

pub defrag_outcome_one : (a b : Result ℕ Refusal) → defrag_outcome a ≡ defrag_outcome b → a ≡ b
defrag_outcome_one = outcome_one _ (λ vs. get_or vs 0 0) (λ _. refl)
