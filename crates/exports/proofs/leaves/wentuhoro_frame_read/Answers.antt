use mathlib.Core.Path.{sym, ap, ◌∙◌}
use Rattle.exports_status.specs.Status.{status_of, values_in}
use Rattle.exports.proofs.Laws.{exported_short, exported_is, one_word}
use Rattle.frame.specs.Outcomes.{verdict_outcome}
use Rattle.exports.proofs.leaves.wentuhoro_frame_read.Goals as goal
use Rattle.std.specs.Prelude.{Result, ℕ}
use Rattle.refusal.specs.declared.Refusal.{Refusal}

pub returns-then-length-ne1 : goal.returns-then-length-ne1
returns-then-length-ne1 c = exported_short 1 c.args.length.now _ c.if-length-ne1.true

pub returns-in-Ok : goal.returns-in-Ok
returns-in-Ok c =
    let lent = c.args.length.now in
    let e = sym c.verdict.ensures ∙ c.in-Ok.is in
    exported_is 1 lent _ _ _ c.if-length-ne1.false (ap (λ (x : Result ℕ Refusal). status_of (verdict_outcome x)) e)
    (ap (λ (x : Result ℕ Refusal). values_in (verdict_outcome x) lent) e ∙ one_word lent _ c.if-length-ne1.false)

pub returns-in-Err : goal.returns-in-Err
returns-in-Err c =
    let lent = c.args.length.now in
    let e = sym c.verdict.ensures ∙ c.in-Err.is in
    exported_is 1 lent _ _ _ c.if-length-ne1.false (ap (λ (x : Result ℕ Refusal). status_of (verdict_outcome x)) e ∙ sym c.status.ensures)
    (ap (λ (x : Result ℕ Refusal). values_in (verdict_outcome x) lent) e)
