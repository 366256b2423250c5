-- The outcome of asking for a defrag list: document 01's number, or how many rows there are. Assumes nothing.
use Rattle.std.specs.Prelude.{[], ◌∷◌, Result, ℕ}
use Rattle.refusal.specs.Outcomes.{Values, outcome_by}
use Rattle.refusal.specs.declared.Refusal.{Refusal}

abbrev pub defrag_outcome : Result ℕ Refusal → Values
defrag_outcome r = outcome_by (λ n. n ∷ []) r
