-- The outcome tells which answer it is, and is that of the model's answer. Assumes nothing.
use mathlib.Core.List.{List}
use mathlib.Core.Path.{◌≡◌, refl}
use Prim.Native.Nat.{ℕ, zero, suc}
use lib.ListN.{get_or}
use Rattle.refusal.proofs.Outcomes.{outcome_one}
use Rattle.model.specs.Outcomes.{outcome_of}
use Rattle.model.proofs.Outcomes.{answer_one}
use Rattle.truncation.specs.Truncations.{truncated_answer}
use Rattle.truncation.specs.Outcomes.{truncated_says, truncated_outcome}
use Rattle.std.specs.Prelude.{Result, Ok, Err, Option, Some, None}
use Rattle.refusal.specs.declared.Refusal.{Refusal}
use Rattle.truncation.specs.declared.Cut.{Cut}

-- a cut where the first value is above 0
abbrev cut_back : ℕ → ℕ → ℕ → Option Cut
cut_back zero length given = None
cut_back (suc n) length given = Some (record { length = length; given_back = given })

abbrev cut_read_back : List ℕ → Option Cut
cut_read_back vs = cut_back (get_or vs 0 0) (get_or vs 1 0) (get_or vs 2 0)

pub truncated_outcome_one : (a b : Result (Option Cut) Refusal) → truncated_outcome a ≡ truncated_outcome b → a ≡ b
truncated_outcome_one =
    outcome_one truncated_says cut_read_back λ c. elim c as (λ k. cut_read_back (truncated_says k) ≡ k) [ None ↦ refl | Some x ↦ refl ]

pub truncated_answer_outcome : (a : Result (Option Cut) Refusal) → outcome_of (truncated_answer a) ≡ truncated_outcome a
truncated_answer_outcome (Ok None) = refl
truncated_answer_outcome (Ok (Some c)) = refl
truncated_answer_outcome (Err r) = refl

pub truncated_answer_one : (a b : Result (Option Cut) Refusal) → truncated_answer a ≡ truncated_answer b → a ≡ b
truncated_answer_one a b = answer_one truncated_outcome truncated_outcome_one a b (truncated_answer_outcome a) (truncated_answer_outcome b)
