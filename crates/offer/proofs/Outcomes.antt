-- The outcome of the model's answer tells whether an offer was done, or why not. Assumes nothing.
use mathlib.Core.List.{List}
use mathlib.Core.Path.{◌≡◌, refl}
use Prim.Native.Nat.{ℕ}
use Rattle.refusal.specs.Outcomes.{finished_outcome}
use Rattle.refusal.proofs.Outcomes.{finished_outcome_one}
use Rattle.model.specs.Outcomes.{outcome_of}
use Rattle.model.specs.Store.{placed}
use Rattle.model.proofs.Outcomes.{answer_one, finished_as_outcome}
use Rattle.offer.specs.Outcome.{offered_answer}
use Rattle.std.specs.Prelude.{Result, ⊤}
use Rattle.refusal.specs.declared.Refusal.{Refusal}

pub offered_answer_outcome : (a : Result ⊤ Refusal) (ls : List ℕ) → outcome_of (offered_answer a ls) ≡ finished_outcome a
offered_answer_outcome a ls = finished_as_outcome (placed ls) refl a

-- whatever the two lists hold
pub offered_answer_one : (a b : Result ⊤ Refusal) (ls ls' : List ℕ) → offered_answer a ls ≡ offered_answer b ls' → a ≡ b
offered_answer_one a b ls ls' = answer_one finished_outcome finished_outcome_one a b (offered_answer_outcome a ls) (offered_answer_outcome b ls')
