use mathlib.Core.Path.{ap, ◌∙◌}
use Rattle.snapshot_writer.specs.Outcome.{Left, written_answer, snapshot_leaves}
use Rattle.snapshot_writer.proofs.Outcomes.{written_answer_outcome}
use Rattle.exports.proofs.Laws.{finished_status}
use Rattle.exports.proofs.snapshots.wentuhoro_snapshot_write.Goals as goal

pub returns : goal.returns
unfolding snapshot_leaves
returns c =
    let w = c.snapshot_write in
    let left = w.new.file in
    record {
      status = c.finished.ensures ∙ finished_status (λ x. written_answer x left) (λ x. written_answer_outcome x left) _ _ (ap (λ (x : Left). x.answer) w.ensures);
      file_after = ap (λ (x : Left). x.file) w.ensures;
    }
