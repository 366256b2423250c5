use mathlib.Core.Path.{ap, ◌∙◌}
use Rattle.refusal.specs.Outcomes.{finished_outcome}
use Rattle.exports_status.specs.Status.{status_of}
use Rattle.settings.specs.Settings.{Storing}
use Rattle.exports.proofs.leaves.wentuhoro_cookie_write.Goals as goal

pub returns : goal.returns
returns c =
    let e = c.serialize.ensures in
    (c.finished.ensures ∙ ap (λ (w : Storing). status_of (finished_outcome w.answer)) e, ap (λ (w : Storing). w.cookie) e)
