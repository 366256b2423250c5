-- `updates::check` meets its contract. The invariant: the check of the updates left is the check of all, and every id so far has its byte set (so a
-- byte that is not set says that the id is new). Assumes nothing.
use mathlib.Core.Path.{refl, sym, ap, ◌∙◌}
use native.Mathlib.Omega.{arith}
use lib.ListN.{get_or}
use Rattle.refusal.specs.declared.Refusal.{Refusal}
use Rattle.refusal.proofs.Tests.{clash}
use Rattle.model.specs.Verdict.{refuse}
use Rattle.offer_updates.specs.Kinds.{before}
use Rattle.model.specs.Lending.{place_tables}
use Rattle.model.specs.Lent.{lent_by}
use Rattle.offer_updates.proofs.Laws.{row_told, check_stop, check_on, check_over, seen_on, far}
use borrow.Author.Rules.{rules}
use Rattle.offer_updates.proofs.check.Goals as goal

pub loop-i-init : goal.loop-i-init
loop-i-init c = (search rules, λ x e. clash (sym e), refl)

pub location_of-location-requires : goal.location_of-location-requires
location_of-location-requires c = (search rules, c.locations_of-found.ensures.0, c.locations_of-found.ensures.1)

pub wrong-requires : goal.wrong-requires
wrong-requires c =
    let l = c.loop-i in
    let a = c.args in
    (search rules, far (get_or a.ids.now l.i 0) a.ids.now l.i _ (l.invariant.1 (get_or a.ids.now l.i 0)))

pub returns-in-Some : goal.returns-in-Some
returns-in-Some c =
    let l = c.loop-i in
    let a = c.args in
    let m = lent_by place_tables a.caps.ids a.caps.slots a.id_marks.now a.locations.now a.slot_marks.now a.owners.now a.tallies.now in
    ap (λ (r : Refusal). refuse r.kind r.index) c.at.ensures
    ∙ check_stop m a.ids.now a.slabs.now l.i c.wrong.result (search rules) (search rules)
    (row_told m (before l.i a.ids.now) (get_or a.ids.now l.i 0) (get_or a.slabs.now l.i 0) _ _ c.wrong.ensures c.location_of-location.ensures) _ c.in-Some.is ∙ l.invariant.2

pub loop-i-preserved : goal.loop-i-preserved
loop-i-preserved c =
    let l = c.loop-i in
    let a = c.args in
    let m = lent_by place_tables a.caps.ids a.caps.slots a.id_marks.now a.locations.now a.slot_marks.now a.owners.now a.tallies.now in (
      search rules,
      seen_on a.ids.now l.i l.seen l.invariant.0 l.invariant.1,
      check_on m a.ids.now a.slabs.now l.i c.wrong.result (search rules) (search rules)
          (row_told m (before l.i a.ids.now) (get_or a.ids.now l.i 0) (get_or a.slabs.now l.i 0) _ _ c.wrong.ensures c.location_of-location.ensures) c.in_default.is ∙ l.invariant.2,
    )

pub returns : goal.returns
returns c =
    let l = c.loop-i in
    let a = c.args in
    check_over _ _ a.ids.now a.slabs.now _ l.i (omega arith) ∙ l.invariant.2
