-- The outcome of looking at the kept batch: document 01's number, or how many updates it has. Assumes nothing.
use Rattle.std.specs.Prelude.{[], ◌∷◌, Result, ℕ}
use Rattle.refusal.specs.Outcomes.{Values, outcome_by}
use Rattle.refusal.specs.declared.Refusal.{Refusal}

abbrev pub rows_outcome : Result ℕ Refusal → Values
rows_outcome r = outcome_by (λ n. (n ∷ [])) r
