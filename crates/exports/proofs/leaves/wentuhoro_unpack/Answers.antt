use mathlib.Core.Path.{◌≡◌, sym, ap, ◌∙◌}
use Rattle.address.specs.Outcomes.{unpacked_outcome}
use Rattle.exports_status.specs.Status.{status_of, values_in, or_zeros}
use Rattle.std.proofs.Common.{rules}
use Rattle.exports.proofs.Laws.{exported_short, exported_is}
use Rattle.exports.proofs.leaves.wentuhoro_unpack.Goals as goal
use Rattle.std.specs.Prelude.{Result, Option, Ok, None}
use Rattle.refusal.specs.declared.Refusal.{Refusal}
use Rattle.address.specs.declared.SlabAddress.{SlabAddress}

pub returns-then-address-ne3 : goal.returns-then-address-ne3
returns-then-address-ne3 c =
    exported_short 3 c.args.address.now _ c.if-address-ne3.true

pub returns-in-Ok-Some : goal.returns-in-Ok-Some
returns-in-Ok-Some c =
    let lent = c.args.address.now in
    let e = sym c.unpack.ensures ∙ (c.in-Ok-Some.is ∙ ap Ok c.in-Ok-Some.field-0-is) in
    exported_is 3 lent _ _ _ c.if-address-ne3.false (ap (λ (x : Result (Option SlabAddress) Refusal). status_of (or_zeros 3 (unpacked_outcome x))) e)
    (ap (λ (x : Result (Option SlabAddress) Refusal). values_in (or_zeros 3 (unpacked_outcome x)) lent) e ∙ sym c.three.ensures)

pub returns-in-Ok-None : goal.returns-in-Ok-None
returns-in-Ok-None c =
    let lent = c.args.address.now in
    let none : c.unpack.result ≡ Ok None = search rules in
    let e = sym c.unpack.ensures ∙ none in
    exported_is 3 lent _ _ _ c.if-address-ne3.false (ap (λ (x : Result (Option SlabAddress) Refusal). status_of (or_zeros 3 (unpacked_outcome x))) e)
    (ap (λ (x : Result (Option SlabAddress) Refusal). values_in (or_zeros 3 (unpacked_outcome x)) lent) e ∙ sym c.three-in-Ok-None.ensures)

pub returns-in-Err : goal.returns-in-Err
returns-in-Err c =
    let lent = c.args.address.now in
    let e = sym c.unpack.ensures ∙ c.in-Err.is in
    exported_is 3 lent _ _ _ c.if-address-ne3.false (ap (λ (x : Result (Option SlabAddress) Refusal). status_of (or_zeros 3 (unpacked_outcome x))) e ∙ sym c.status.ensures)
    (ap (λ (x : Result (Option SlabAddress) Refusal). values_in (or_zeros 3 (unpacked_outcome x)) lent) e)
