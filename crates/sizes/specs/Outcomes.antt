-- The outcome of each answer: document 01's number and values. Assumes nothing.
use Rattle.std.specs.Prelude.{[], ◌∷◌, Result, ℕ}
use Rattle.refusal.specs.Outcomes.{Values, outcome_by}
use Rattle.refusal.specs.declared.Refusal.{Refusal}

abbrev pub class_outcome : Result ℕ Refusal → Values
class_outcome r = outcome_by (λ slab. (slab ∷ [])) r
