use mathlib.Core.Path.{◌≡◌, sym, ap, ◌∙◌}
use Rattle.snapshot.specs.Outcomes.{step_outcome}
use Rattle.exports_status.specs.Status.{status_of, values_in, or_zeros}
use Rattle.std.proofs.Common.{rules}
use Rattle.exports.proofs.Laws.{exported_short, exported_is}
use Rattle.exports.proofs.snapshots.wentuhoro_snapshot_step.Goals as goal
use Rattle.std.specs.Prelude.{Result, Option, Ok, None}
use Rattle.refusal.specs.declared.Refusal.{Refusal}
use Rattle.snapshot_blocks.specs.declared.Row.{Row}
use Rattle.snapshot.specs.declared.Position.{Position}

pub returns-then-values-ne8 : goal.returns-then-values-ne8
returns-then-values-ne8 c =
    exported_short 8 c.args.values.now _ c.if-values-ne8.true

pub returns-in-Ok-Some : goal.returns-in-Ok-Some
returns-in-Ok-Some c =
    let lent = c.args.values.now in
    let e = sym c.step.ensures ∙ (c.in-Ok-Some.is ∙ ap Ok c.in-Ok-Some.field-0-is) in
    exported_is 8 lent _ _ _ c.if-values-ne8.false (ap (λ (x : Result (Option (Row × Position)) Refusal). status_of (or_zeros 8 (step_outcome x))) e)
    (ap (λ (x : Result (Option (Row × Position)) Refusal). values_in (or_zeros 8 (step_outcome x)) lent) e ∙ sym c.eight.ensures)

pub returns-in-Ok-None : goal.returns-in-Ok-None
returns-in-Ok-None c =
    let lent = c.args.values.now in
    let none : c.step.result ≡ Ok None = search rules in
    let e = sym c.step.ensures ∙ none in
    exported_is 8 lent _ _ _ c.if-values-ne8.false (ap (λ (x : Result (Option (Row × Position)) Refusal). status_of (or_zeros 8 (step_outcome x))) e)
    (ap (λ (x : Result (Option (Row × Position)) Refusal). values_in (or_zeros 8 (step_outcome x)) lent) e ∙ sym c.eight-in-Ok-None.ensures)

pub returns-in-Err : goal.returns-in-Err
returns-in-Err c =
    let lent = c.args.values.now in
    let e = sym c.step.ensures ∙ c.in-Err.is in
    exported_is 8 lent _ _ _ c.if-values-ne8.false (ap (λ (x : Result (Option (Row × Position)) Refusal). status_of (or_zeros 8 (step_outcome x))) e ∙ sym c.status.ensures)
    (ap (λ (x : Result (Option (Row × Position)) Refusal). values_in (or_zeros 8 (step_outcome x)) lent) e)
