-- The outcome of reading a snapshot into lists: the documents' number, or how many rows there are. Assumes nothing.
use Rattle.std.specs.Prelude.{[], ◌∷◌, Result, ℕ}
use Rattle.refusal.specs.Outcomes.{Values, outcome_by}
use Rattle.refusal.specs.declared.Refusal.{Refusal}

abbrev pub taken_outcome : Result ℕ Refusal → Values
taken_outcome r = outcome_by (λ n. (n ∷ [])) r
