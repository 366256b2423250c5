-- The refusal of an abandon: lengths, then the opened word, then the rows, each return by a law that says the rest of the chain.
-- Assumes nothing.
use mathlib.Core.Path.{sym, ◌∙◌}
use Rattle.std.proofs.lemmas.Result.{err_from_is_err_and}
use Rattle.model.specs.Lent.{lent_to}
use Rattle.model.specs.Store as S
use Rattle.model.proofs.Granted.{refused_shape}
use Rattle.abandon.proofs.Laws.{abandon_count, abandon_refused}
use Rattle.abandon.proofs.check.Goals as goal

pub returns-then-not-slab_fits : goal.returns-then-not-slab_fits
returns-then-not-slab_fits c =
    let a = c.args in
    let m = lent_to S.abandon a.caps.ids a.caps.slots a.slot_marks.now a.batch.now a.tallies.now in
    simp (c.of.ensures, refused_shape m S.abandon (sym c.slab_fits.ensures ∙ c.if-not-slab_fits.true))

pub returns : goal.returns
returns c =
    let a = c.args in
    let m = lent_to S.abandon a.caps.ids a.caps.slots a.slot_marks.now a.batch.now a.tallies.now in
    c.in_range.ensures ∙ abandon_count m (sym c.slab_fits.ensures ∙ c.if-not-slab_fits.false) _ (sym c.opened.ensures ∙ c.in_ok-n.was)

pub returns-in_err-n : goal.returns-in_err-n
returns-in_err-n c =
    let a = c.args in
    let m = lent_to S.abandon a.caps.ids a.caps.slots a.slot_marks.now a.batch.now a.tallies.now in
    let p = err_from_is_err_and c.from_residual.result c.from_residual.ensures.1 in
    rw (p.1, p.2) (abandon_refused m (sym c.slab_fits.ensures ∙ c.if-not-slab_fits.false) _ _ (sym c.opened.ensures ∙ c.in_err-n.was))
