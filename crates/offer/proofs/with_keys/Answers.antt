-- `offer::with_keys` meets its contract: no key is too long; or a key is, and nothing else is wrong; or both refuse, and the earlier decides.
-- Assumes nothing.
use mathlib.Core.Path.{ap, ◌∙◌}
use Rattle.refusal.specs.declared.Refusal.{Refusal}
use Rattle.model.specs.Verdict.{refuse}
use Rattle.offer.proofs.LawsOffer.{keys_short, keys_alone, keys_after, keys_before}
use Rattle.offer.proofs.with_keys.Goals as goal

pub returns-then-updates-long : goal.returns-then-updates-long
returns-then-updates-long c = let a = c.args in keys_short a.checked a.long a.updates c.if-updates-long.true

pub returns-in_default : goal.returns-in_default
returns-in_default c =
    let a = c.args in
    ap (λ (r : Refusal). refuse r.kind r.index) c.at.ensures
    ∙ keys_alone a.checked a.long a.updates c.if-updates-long.false c.in_default.is

pub returns-then-decides : goal.returns-then-decides
returns-then-decides c =
    let a = c.args in
    keys_after a.checked a.long a.updates c.if-updates-long.false _ _ c.in-Err.is c.decides.ensures c.if-decides.true

pub returns : goal.returns
returns c =
    let a = c.args in
    ap (λ (r : Refusal). refuse r.kind r.index) c.at.ensures
    ∙ keys_before a.checked a.long a.updates c.if-updates-long.false _ _ c.in-Err.is c.decides.ensures c.if-decides.false
