-- The outcome of asking for a snapshot's length: the documents' number, or how many bytes it takes. Assumes nothing.
use Rattle.std.specs.Prelude.{[], ◌∷◌, Result, ℕ}
use Rattle.refusal.specs.Outcomes.{Values, outcome_by}
use Rattle.refusal.specs.declared.Refusal.{Refusal}

abbrev pub measured_outcome : Result ℕ Refusal → Values
measured_outcome r = outcome_by (λ n. (n ∷ [])) r
