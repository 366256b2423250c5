-- The outcome tells which answer it is, and is that of the model's answer. Assumes nothing.
use mathlib.Core.List.{List}
use mathlib.Core.Path.{◌≡◌, refl}
use Prim.Native.Nat.{ℕ}
use lib.ListN.{get_or}
use Rattle.refusal.specs.Outcomes.{finished_outcome}
use Rattle.refusal.proofs.Outcomes.{outcome_one, finished_outcome_one}
use Rattle.model.specs.Outcomes.{outcome_of}
use Rattle.model.specs.Store.{wrote}
use Rattle.model.proofs.Outcomes.{answer_one, finished_as_outcome}
use Rattle.snapshot_writer.specs.Outcome.{measured_answer, written_answer}
use Rattle.snapshot_writer.specs.Outcomes.{measured_outcome}
use Rattle.std.specs.Prelude.{Result, Ok, Err, ⊤}
use Rattle.refusal.specs.declared.Refusal.{Refusal}

-- ---- the length of a snapshot
pub measured_outcome_one : (a b : Result ℕ Refusal) → measured_outcome a ≡ measured_outcome b → a ≡ b
measured_outcome_one = outcome_one _ (λ vs. (get_or vs 0 0)) (λ _. refl)

pub measured_answer_outcome : (a : Result ℕ Refusal) → outcome_of (measured_answer a) ≡ measured_outcome a
measured_answer_outcome (Ok n) = refl
measured_answer_outcome (Err r) = refl

pub measured_answer_one : (a b : Result ℕ Refusal) → measured_answer a ≡ measured_answer b → a ≡ b
measured_answer_one a b = answer_one measured_outcome measured_outcome_one a b (measured_answer_outcome a) (measured_answer_outcome b)

-- ---- a snapshot written, whatever the two files hold
pub written_answer_outcome : (a : Result ⊤ Refusal) (file : List ℕ) → outcome_of (written_answer a file) ≡ finished_outcome a
written_answer_outcome a file = finished_as_outcome (wrote file) refl a

pub written_answer_one : (a b : Result ⊤ Refusal) (file file' : List ℕ) → written_answer a file ≡ written_answer b file' → a ≡ b
written_answer_one a b file file' = answer_one finished_outcome finished_outcome_one a b (written_answer_outcome a file) (written_answer_outcome b file')
