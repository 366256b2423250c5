use mathlib.Core.Path.{refl, sym, ap, ◌∙◌}
use Rattle.std.specs.Prelude.{Ok}
use Rattle.refusal.specs.Outcomes.{Values}
use Rattle.exports_status.specs.Status.{values_in}
use Rattle.reason.specs.Reasons.{reason_answer}
use Rattle.reason.proofs.Outcomes.{reason_answer_outcome}
use Rattle.exports.proofs.Laws.{exported_short, told_exported}
use Rattle.exports.proofs.reasons.wentuhoro_reason.Goals as goal

pub returns-then-told-ne7 : goal.returns-then-told-ne7
returns-then-told-ne7 c = exported_short 7 c.args.told.now _ c.if-told-ne7.true

pub returns-in-Ok : goal.returns-in-Ok
returns-in-Ok c =
    let lent = c.args.told.now in
    told_exported reason_answer _ _ _ c.reason_for_object.ensures c.in-Ok.is 7 lent _ _ c.if-told-ne7.false refl (ap (λ (x : Values). values_in x lent) (reason_answer_outcome (Ok c.in-Ok.reason)) ∙ sym c.put_reason.ensures)

pub returns-in-Err : goal.returns-in-Err
returns-in-Err c =
    let lent = c.args.told.now in
    told_exported reason_answer _ _ _ c.reason_for_object.ensures c.in-Err.is 7 lent _ _ c.if-told-ne7.false (sym c.status.ensures) refl
