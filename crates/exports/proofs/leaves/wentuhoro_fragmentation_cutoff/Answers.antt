use mathlib.Core.Path.{◌≡◌, sym, ap, ◌∙◌}
use Rattle.fragmentation.specs.Outcomes.{cutoff_outcome}
use Rattle.exports_status.specs.Status.{status_of, values_in, or_zeros}
use Rattle.std.proofs.Common.{rules}
use Rattle.exports.proofs.Laws.{exported_short, exported_is}
use Rattle.exports.proofs.leaves.wentuhoro_fragmentation_cutoff.Goals as goal
use Rattle.std.specs.Prelude.{Result, Option, ℕ, Ok, None}
use Rattle.refusal.specs.declared.Refusal.{Refusal}

pub returns-then-cutoff-ne2 : goal.returns-then-cutoff-ne2
returns-then-cutoff-ne2 c =
    exported_short 2 c.args.cutoff.now _ c.if-cutoff-ne2.true

pub returns-in-Ok-Some : goal.returns-in-Ok-Some
returns-in-Ok-Some c =
    let lent = c.args.cutoff.now in
    let e = sym c.fragmentation_cutoff.ensures ∙ (c.in-Ok-Some.is ∙ ap Ok c.in-Ok-Some.field-0-is) in
    exported_is 2 lent _ _ _ c.if-cutoff-ne2.false (ap (λ (x : Result (Option ℕ) Refusal). status_of (or_zeros 2 (cutoff_outcome x))) e)
    (ap (λ (x : Result (Option ℕ) Refusal). values_in (or_zeros 2 (cutoff_outcome x)) lent) e ∙ sym c.two.ensures)

pub returns-in-Ok-None : goal.returns-in-Ok-None
returns-in-Ok-None c =
    let lent = c.args.cutoff.now in
    let none : c.fragmentation_cutoff.result ≡ Ok None = search rules in
    let e = sym c.fragmentation_cutoff.ensures ∙ none in
    exported_is 2 lent _ _ _ c.if-cutoff-ne2.false (ap (λ (x : Result (Option ℕ) Refusal). status_of (or_zeros 2 (cutoff_outcome x))) e)
    (ap (λ (x : Result (Option ℕ) Refusal). values_in (or_zeros 2 (cutoff_outcome x)) lent) e ∙ sym c.two-in-Ok-None.ensures)

pub returns-in-Err : goal.returns-in-Err
returns-in-Err c =
    let lent = c.args.cutoff.now in
    let e = sym c.fragmentation_cutoff.ensures ∙ c.in-Err.is in
    exported_is 2 lent _ _ _ c.if-cutoff-ne2.false (ap (λ (x : Result (Option ℕ) Refusal). status_of (or_zeros 2 (cutoff_outcome x))) e ∙ sym c.status.ensures)
    (ap (λ (x : Result (Option ℕ) Refusal). values_in (or_zeros 2 (cutoff_outcome x)) lent) e)
