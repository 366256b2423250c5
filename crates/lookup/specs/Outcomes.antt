-- The outcome of a lookup: document 01's number and values. Assumes nothing.
use Rattle.std.specs.Prelude.{[], ◌∷◌, Result, ℕ}
use Rattle.refusal.specs.Outcomes.{Values, outcome_by}
use Rattle.refusal.specs.declared.Refusal.{Refusal}

-- what the row carries stands in the lent list
abbrev pub looked_outcome : Result ℕ Refusal → Values
looked_outcome r = outcome_by (λ location. location ∷ []) r
