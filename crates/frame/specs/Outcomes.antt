-- The outcome of a verdict: the documents' number and values. Assumes nothing.
use Rattle.std.specs.Prelude.{[], ◌∷◌, Result, ℕ}
use Rattle.refusal.specs.Outcomes.{Values, outcome_by}
use Rattle.refusal.specs.declared.Refusal.{Refusal}

abbrev pub verdict_outcome : Result ℕ Refusal → Values
verdict_outcome r = outcome_by (λ n. (n ∷ [])) r
