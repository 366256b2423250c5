use mathlib.Core.Path.{◌∙◌}
use Rattle.model.specs.Store.{finished_answer}
use Rattle.model.proofs.Outcomes.{finished_answer_outcome}
use Rattle.exports.proofs.Laws.{finished_status}
use Rattle.exports.proofs.stores.wentuhoro_fresh.Goals as goal

pub returns : goal.returns
returns c =
    let e = c.fresh.ensures in
    record { status = c.finished.ensures ∙ finished_status finished_answer finished_answer_outcome _ _ e.0; tables_after = e.1 }
