-- What the answers of the two calls say, and what writing leaves, in the model's words. Assumes nothing.
use Rattle.std.specs.Prelude.{List, ℕ, Result, Ok, Err, ⊤}
use Rattle.refusal.specs.Outcomes.{granted, refused_as, finished_as}
use Rattle.model.specs.Memory.{Memory, read}
use Rattle.model.specs.Outcomes.{list_in}
use Rattle.model.specs.Step.{answer}
use Rattle.model.specs.Store.{ask, snapshot, gave, wrote, Answer}
use Rattle.refusal.specs.declared.Refusal.{Refusal}

abbrev pub measured_answer : Result ℕ Refusal → Answer
measured_answer (Ok n) = granted (gave n)
measured_answer (Err r) = refused_as r

-- with the lent file as it is then
abbrev pub written_answer : Result ⊤ Refusal → List ℕ → Answer
written_answer f file = finished_as (wrote file) f

-- what writing leaves: its answer, and the lent file
pub record Left : Type 0 where
  pub answer : Answer
  pub file : List ℕ

unfoldable pub snapshot_leaves : Memory → List ℕ → Left
snapshot_leaves m file = record {
  answer = answer (read m) (ask (snapshot file));
  file = list_in 0 (answer (read m) (ask (snapshot file))) file;
}
