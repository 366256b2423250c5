-- What the answer of asking for a reason says, in the model's words. Assumes nothing.
use Rattle.std.specs.Prelude.{Result, Ok, Err}
use Rattle.refusal.specs.Outcomes.{granted, refused_as}
use Rattle.refusal.specs.declared.Refusal.{Refusal}
use Rattle.model.specs.Store as M
use Rattle.model.specs.Store.{not_stored, full_enough, before_line, listed, because, Answer}
use Rattle.reason.specs.declared.Standing.{Standing}
use Rattle.reason.specs.declared.Reason.{Reason}
use Rattle.reason.specs.declared.Reason.TheVariants as R

abbrev pub standing_as : Standing → M.Standing
standing_as w = record { slab = w.slab; slot = w.slot; smaller = w.smaller; live = w.live; tip = w.tip }

abbrev pub reason_as : Reason → M.Reason
reason_as R.NotStored = not_stored
reason_as (R.FullEnough w) = full_enough (standing_as w)
reason_as (R.BeforeLine w line) = before_line (standing_as w) line
reason_as (R.Listed w line) = listed (standing_as w) line

abbrev pub reason_answer : Result Reason Refusal → Answer
reason_answer (Ok a) = granted (because (reason_as a))
reason_answer (Err r) = refused_as r
