use mathlib.Core.Path.{◌∙◌}
use Rattle.model.specs.Store.{finished_answer}
use Rattle.model.proofs.Outcomes.{finished_answer_outcome}
use Rattle.exports.proofs.Laws.{finished_status}
use Rattle.exports.proofs.moves_and_cuts.wentuhoro_cut_done.Goals as goal

pub returns : goal.returns
returns c =
    let e = c.cut_done.ensures in
    record { status = c.finished.ensures ∙ finished_status finished_answer finished_answer_outcome _ _ e.result_value; tables_after = e.tallies_after }
