use mathlib.Core.Path.{ap, ◌∙◌}
use Rattle.std.specs.Prelude.{Result, ⊤}
use Rattle.refusal.specs.declared.Refusal.{Refusal}
use Rattle.refusal.specs.Outcomes.{finished_outcome}
use Rattle.exports_status.specs.Status.{status_of}
use Rattle.exports.proofs.leaves.wentuhoro_cookie_verify.Goals as goal

pub returns : goal.returns
returns c = c.finished.ensures ∙ ap (λ (x : Result ⊤ Refusal). status_of (finished_outcome x)) c.verify.ensures
