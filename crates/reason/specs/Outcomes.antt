-- The outcome of asking for a reason: document 02's number and values. Assumes nothing.
use Rattle.std.specs.Prelude.{List, [], ◌∷◌, ℕ, Result}
use Rattle.refusal.specs.Outcomes.{Values, outcome_by}
use Rattle.refusal.specs.declared.Refusal.{Refusal}
use Rattle.reason.specs.declared.Standing.{Standing}
use Rattle.reason.specs.declared.Reason.{Reason}
use Rattle.reason.specs.declared.Reason.TheVariants as R

-- the number of a reason; slab, slot, smaller slots in use, live slots and tip; and the line
abbrev pub standing_values : ℕ → Standing → ℕ → List ℕ
standing_values n w line = n ∷ w.slab ∷ w.slot ∷ w.smaller ∷ w.live ∷ w.tip ∷ line ∷ []

-- zeros where nothing is stored, and for the line where there is none
abbrev pub reason_says : Reason → List ℕ
reason_says R.NotStored = 0 ∷ 0 ∷ 0 ∷ 0 ∷ 0 ∷ 0 ∷ 0 ∷ []
reason_says (R.FullEnough w) = standing_values 1 w 0
reason_says (R.BeforeLine w line) = standing_values 2 w line
reason_says (R.Listed w line) = standing_values 3 w line

abbrev pub reason_outcome : Result Reason Refusal → Values
reason_outcome r = outcome_by reason_says r
