-- The outcome of asking for a cut: document 01's number and values. Assumes nothing.
use Rattle.std.specs.Prelude.{List, ℕ, [], ◌∷◌, Result, Option, Some, None}
use Rattle.refusal.specs.Outcomes.{Values, outcome_by}
use Rattle.refusal.specs.declared.Refusal.{Refusal}
use Rattle.truncation.specs.declared.Cut.{Cut}

-- 1, the new length and the bytes given back; three zeros where the file is kept
abbrev pub truncated_says : Option Cut → List ℕ
truncated_says None = 0 ∷ 0 ∷ 0 ∷ []
truncated_says (Some c) = 1 ∷ c.length ∷ c.given_back ∷ []

abbrev pub truncated_outcome : Result (Option Cut) Refusal → Values
truncated_outcome r = outcome_by truncated_says r
