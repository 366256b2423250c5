-- What an offer answers and leaves, in the model's words. Assumes nothing.
use Rattle.std.specs.Prelude.{List, ℕ, Result, ⊤}
use Rattle.refusal.specs.Outcomes.{finished_as}
use Rattle.model.specs.Memory.{Memory, read}
use Rattle.model.specs.MemoryAfter.{memory_after}
use Rattle.model.specs.Outcomes.{list_in}
use Rattle.model.specs.Step.{answer}
use Rattle.model.specs.Store.{Offer, offer, placed, Answer}
use Rattle.refusal.specs.declared.Refusal.{Refusal}

-- the answer, with the lent list as it is then
abbrev pub offered_answer : Result ⊤ Refusal → List ℕ → Answer
offered_answer f ls = finished_as (placed ls) f

-- what an offer leaves: its answer, the tables that it may change, and the lent list
pub record Left : Type 0 where
  pub answer : Answer
  pub slot_marks : List ℕ
  pub batch : List ℕ
  pub tallies : List ℕ
  pub carried : List ℕ
  pub placed : List ℕ

unfoldable pub offer_leaves : Memory → Offer → Left
offer_leaves m o = record {
  answer = answer (read m) (offer o);
  slot_marks = (memory_after m (offer o)).slot_marks;
  batch = (memory_after m (offer o)).batch;
  tallies = (memory_after m (offer o)).tallies;
  carried = (memory_after m (offer o)).carried;
  placed = list_in 0 (answer (read m) (offer o)) o.placed;
}
