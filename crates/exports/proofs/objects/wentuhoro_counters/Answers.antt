use mathlib.Core.Path.{◌∙◌}
use Rattle.object_ids.specs.Counts.{counters_answer}
use Rattle.exports.proofs.Laws.{told_status}
use Rattle.exports.proofs.objects.wentuhoro_counters.Goals as goal

pub returns-in-Ok : goal.returns-in-Ok
returns-in-Ok c =
    let e = c.counters.ensures in
    record { status = told_status (counters_answer _ _) _ _ _ e.result_after c.in-Ok.is; granted_after = e.granted_after; freed_after = e.freed_after }

pub returns-in-Err : goal.returns-in-Err
returns-in-Err c =
    let e = c.counters.ensures in
    record { status = c.status.ensures ∙ told_status (counters_answer _ _) _ _ _ e.result_after c.in-Err.is; granted_after = e.granted_after; freed_after = e.freed_after }
