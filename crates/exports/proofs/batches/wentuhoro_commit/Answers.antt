use mathlib.Core.Path.{◌∙◌}
use Rattle.model.specs.Store.{finished_answer}
use Rattle.model.proofs.Outcomes.{finished_answer_outcome}
use Rattle.exports.proofs.Laws.{finished_status}
use Rattle.exports.proofs.batches.wentuhoro_commit.Goals as goal

pub returns : goal.returns
returns c =
    let e = c.commit.ensures in
    record { status = c.finished.ensures ∙ finished_status finished_answer finished_answer_outcome _ _ e.answers; tables_after = e.leaves }
