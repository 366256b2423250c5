-- The outcome of asking for a slab's cutoff: document 01's number and values. Assumes nothing.
use Rattle.std.specs.Prelude.{List, [], ◌∷◌, Result, Option, Some, None, ℕ}
use Rattle.refusal.specs.Outcomes.{Values, outcome_by}
use Rattle.refusal.specs.declared.Refusal.{Refusal}

-- nothing where no slot is to be looked at
abbrev pub cutoff_says : Option ℕ → List ℕ
cutoff_says None = []
cutoff_says (Some slot) = slot ∷ []

abbrev pub cutoff_outcome : Result (Option ℕ) Refusal → Values
cutoff_outcome r = outcome_by cutoff_says r
