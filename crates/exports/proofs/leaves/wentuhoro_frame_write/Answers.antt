use mathlib.Core.Path.{ap, ◌∙◌}
use Rattle.refusal.specs.Outcomes.{finished_outcome}
use Rattle.exports_status.specs.Status.{status_of}
use Rattle.frame.specs.Frame.{Writing}
use Rattle.exports.proofs.leaves.wentuhoro_frame_write.Goals as goal

pub returns : goal.returns
returns c =
    let e = c.write.ensures in
    (c.finished.ensures ∙ ap (λ (w : Writing). status_of (finished_outcome w.answer)) e, ap (λ (w : Writing). w.slot) e)
