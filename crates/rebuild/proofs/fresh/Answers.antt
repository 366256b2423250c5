-- `rebuild::fresh` meets its contract: where the lengths are wrong nothing is written, else every table is zeros, which is a rebuild from no rows. Assumes nothing.
use mathlib.Core.Bool.{not}
use mathlib.Core.Path.{ap, ◌∙◌}
use Rattle.refusal.specs.Outcomes.{refused_as}
use Rattle.model.specs.Store as S
use Rattle.model.specs.Lent.{lent_to}
use Rattle.rebuild.proofs.Granted.{fresh_refused, fresh_granted}
use Rattle.rebuild.proofs.fresh.Goals as goal

pub returns-then-not-all_fit : goal.returns-then-not-all_fit
returns-then-not-all_fit c =
    let a = c.args in
    let m = lent_to S.fresh a.caps.ids a.caps.slots a.id_marks.now a.locations.now a.slot_marks.now a.owners.now a.batch.now a.tallies.now a.carried.now in
    let f = fresh_refused m c.all_fit.ensures (ap not c.if-not-all_fit.true) in
    (ap refused_as c.of.ensures ∙ f.0, f.1)

pub returns : goal.returns
returns c =
    let a = c.args in
    let m = lent_to S.fresh a.caps.ids a.caps.slots a.id_marks.now a.locations.now a.slot_marks.now a.owners.now a.batch.now a.tallies.now a.carried.now in
    fresh_granted m c.all_fit.ensures (ap not c.if-not-all_fit.false) c.all.ensures
