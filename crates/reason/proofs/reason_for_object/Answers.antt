-- The refusals in their order, then the object of the id: each return is a law of what its tests told. Assumes nothing.
use mathlib.Core.Path.{sym, ap, ◌∙◌}
use Rattle.std.specs.Prelude.{Ok, Err}
use Rattle.std.proofs.lemmas.Result.{err_from_is_err_and}
use borrow.Author.Tests.{not-true, not-false}
use Rattle.model.specs.Lending.{reason_tables}
use Rattle.model.specs.Lent.{lent_by}
use Rattle.reason.specs.Reasons.{reason_answer}
use Rattle.reason.proofs.Laws.{says_shape, says_open, says_ratio, says_none, says_refused, object_slab, says_at}
use Rattle.reason.proofs.reason_for_object.Goals as goal

pub returns-then-not-reason_fits : goal.returns-then-not-reason_fits
returns-then-not-reason_fits c =
    let a = c.args in
    let m = lent_by reason_tables a.caps.ids a.caps.slots a.id_marks.now a.locations.now a.slot_marks.now a.owners.now a.batch.now a.tallies.now in
    ap (λ x. reason_answer (Err x)) c.of.ensures ∙ says_shape m a.id a.r (sym c.reason_fits.ensures ∙ c.if-not-reason_fits.true)

pub returns-then-get-ne0 : goal.returns-then-get-ne0
returns-then-get-ne0 c =
    let a = c.args in
    let m = lent_by reason_tables a.caps.ids a.caps.slots a.id_marks.now a.locations.now a.slot_marks.now a.owners.now a.batch.now a.tallies.now in
    let fit = sym c.reason_fits.ensures ∙ c.if-not-reason_fits.false in
    ap (λ x. reason_answer (Err x)) c.of-then-get-ne0.ensures ∙ says_open m a.id a.r fit (λ e. c.if-get-ne0.true (c.get.ensures ∙ e))

pub returns-then-bad_ratio : goal.returns-then-bad_ratio
returns-then-bad_ratio c =
    let a = c.args in
    let m = lent_by reason_tables a.caps.ids a.caps.slots a.id_marks.now a.locations.now a.slot_marks.now a.owners.now a.batch.now a.tallies.now in
    let fit = sym c.reason_fits.ensures ∙ c.if-not-reason_fits.false in
    let shut = sym c.get.ensures ∙ c.if-get-ne0.false in
    ap (λ x. reason_answer (Err x)) c.of-then-bad_ratio.ensures ∙ says_ratio m a.id a.r fit shut (not-true _ (sym c.bad_ratio.ensures ∙ c.if-bad_ratio.true))

pub reason_at-requires : goal.reason_at-requires
reason_at-requires c =
    let a = c.args in
    let m = lent_by reason_tables a.caps.ids a.caps.slots a.id_marks.now a.locations.now a.slot_marks.now a.owners.now a.batch.now a.tallies.now in
    let fit = sym c.reason_fits.ensures ∙ c.if-not-reason_fits.false in
    let shut = sym c.get.ensures ∙ c.if-get-ne0.false in
    let ratio = not-false _ (sym c.bad_ratio.ensures ∙ c.if-bad_ratio.false) in
    object_slab m a.id a.r fit shut ratio _ (sym (c.in_ok-address.was ∙ ap Ok c.in-Some.is) ∙ c.object_of.ensures)

pub returns-in-None : goal.returns-in-None
returns-in-None c =
    let a = c.args in
    let m = lent_by reason_tables a.caps.ids a.caps.slots a.id_marks.now a.locations.now a.slot_marks.now a.owners.now a.batch.now a.tallies.now in
    let fit = sym c.reason_fits.ensures ∙ c.if-not-reason_fits.false in
    let shut = sym c.get.ensures ∙ c.if-get-ne0.false in
    let ratio = not-false _ (sym c.bad_ratio.ensures ∙ c.if-bad_ratio.false) in
    says_none m a.id a.r fit shut ratio (sym (c.in_ok-address.was ∙ ap Ok c.in-None.is) ∙ c.object_of.ensures)

pub returns-in-Some : goal.returns-in-Some
returns-in-Some c =
    let a = c.args in
    let m = lent_by reason_tables a.caps.ids a.caps.slots a.id_marks.now a.locations.now a.slot_marks.now a.owners.now a.batch.now a.tallies.now in
    let fit = sym c.reason_fits.ensures ∙ c.if-not-reason_fits.false in
    let shut = sym c.get.ensures ∙ c.if-get-ne0.false in
    let ratio = not-false _ (sym c.bad_ratio.ensures ∙ c.if-bad_ratio.false) in
    ap reason_answer c.reason_at.ensures ∙ says_at m a.id a.r fit shut ratio _ (sym (c.in_ok-address.was ∙ ap Ok c.in-Some.is) ∙ c.object_of.ensures)

pub returns-in_err-address : goal.returns-in_err-address
returns-in_err-address c =
    let a = c.args in
    let m = lent_by reason_tables a.caps.ids a.caps.slots a.id_marks.now a.locations.now a.slot_marks.now a.owners.now a.batch.now a.tallies.now in
    let fit = sym c.reason_fits.ensures ∙ c.if-not-reason_fits.false in
    let shut = sym c.get.ensures ∙ c.if-get-ne0.false in
    let ratio = not-false _ (sym c.bad_ratio.ensures ∙ c.if-bad_ratio.false) in
    let p = err_from_is_err_and c.from_residual.result c.from_residual.ensures.1 in
    rw (p.1, p.2) (says_refused m a.id a.r fit shut ratio _ (sym c.in_err-address.was ∙ c.object_of.ensures))
