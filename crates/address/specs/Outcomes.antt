-- The outcome of each answer: document 01's number and values. Assumes nothing.
use Rattle.std.specs.Prelude.{List, ℕ, [], ◌∷◌, Result, Option, Some, None}
use Rattle.refusal.specs.Outcomes.{Values, outcome_by}
use Rattle.refusal.specs.declared.Refusal.{Refusal}
use Rattle.address.specs.declared.SlabAddress.{SlabAddress}

abbrev pub made_outcome : Result SlabAddress Refusal → Values
made_outcome r = outcome_by (λ a. (a.slab ∷ a.slot ∷ [])) r

abbrev pub packed_outcome : Result ℕ Refusal → Values
packed_outcome r = outcome_by (λ location. (location ∷ [])) r

-- nothing where there is no object
abbrev pub unpacked_says : Option SlabAddress → List ℕ
unpacked_says None = []
unpacked_says (Some a) = a.slab ∷ a.slot ∷ []

abbrev pub unpacked_outcome : Result (Option SlabAddress) Refusal → Values
unpacked_outcome r = outcome_by unpacked_says r
