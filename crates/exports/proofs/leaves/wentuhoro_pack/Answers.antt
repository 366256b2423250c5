use mathlib.Core.Path.{sym, ap, ◌∙◌}
use Rattle.exports_status.specs.Status.{status_of, values_in}
use Rattle.exports.proofs.Laws.{exported_short, exported_is, one_word}
use Rattle.address.specs.Outcomes.{packed_outcome}
use Rattle.exports.proofs.leaves.wentuhoro_pack.Goals as goal
use Rattle.std.specs.Prelude.{Result, ℕ}
use Rattle.refusal.specs.declared.Refusal.{Refusal}

pub returns-then-location-ne1 : goal.returns-then-location-ne1
returns-then-location-ne1 c = exported_short 1 c.args.location.now _ c.if-location-ne1.true

pub returns-in-Ok : goal.returns-in-Ok
returns-in-Ok c =
    let lent = c.args.location.now in
    let e = sym c.pack.ensures ∙ c.in-Ok.is in
    exported_is 1 lent _ _ _ c.if-location-ne1.false (ap (λ (x : Result ℕ Refusal). status_of (packed_outcome x)) e)
    (ap (λ (x : Result ℕ Refusal). values_in (packed_outcome x) lent) e ∙ one_word lent _ c.if-location-ne1.false)

pub returns-in-Err : goal.returns-in-Err
returns-in-Err c =
    let lent = c.args.location.now in
    let e = sym c.pack.ensures ∙ c.in-Err.is in
    exported_is 1 lent _ _ _ c.if-location-ne1.false (ap (λ (x : Result ℕ Refusal). status_of (packed_outcome x)) e ∙ sym c.status.ensures)
    (ap (λ (x : Result ℕ Refusal). values_in (packed_outcome x) lent) e)
