-- `offer::offer` meets its contract. Each refusal is told by the tests on the way (LawsOffer); what is granted leaves the tables that the model leaves,
-- since the slots found with the hints are the model's (LawsPlaces). Assumes nothing.
use mathlib.Core.Bool.{not}
use mathlib.Core.Path.{sym, ap, ◌∙◌}
use lib.ListN.{length, take}
use Rattle.std.proofs.lemmas.Result.{err_from_is_err_and}
use Rattle.refusal.specs.Refusals.{wrong_shape, batch_open, too_many}
use Rattle.keys.specs.Keys.{stores_of}
use Rattle.keys.proofs.Laws.{length_stores_of}
use Rattle.model.specs.Lending.{every_table}
use Rattle.model.specs.Lent.{lent_by}
use Rattle.model.specs.Store.{Offer}
use Rattle.model.specs.Verdict.{judged_verdict}
use Rattle.offer.proofs.LawsOffer.{leaves_as, leaves_verdict, leaves_done, refused_shape, refused_open, refused_many, fits_told, fits_failed, rest_told, kinds_told, kinds_long}
use Rattle.offer.proofs.offer.Goals as goal

pub returns-then-not-fits : goal.returns-then-not-fits
returns-then-not-fits c =
    let a = c.args in
    let m = lent_by every_table a.caps.ids a.caps.slots a.id_marks.now a.locations.now a.slot_marks.now a.owners.now a.batch.now a.tallies.now a.carried.now in
    let o : Offer = record { ids = a.ids.now; stores = stores_of a.stores.now; lengths = a.lengths.now; carried = a.update_carried.now; placed = a.placed.now } in
    leaves_as m o c.of.result wrong_shape c.of.ensures (refused_shape m o (fits_failed m o c.fits.result (sym (length_stores_of a.stores.now)) c.fits.ensures (ap not c.if-not-fits.true)))

pub returns-then-get-ne0 : goal.returns-then-get-ne0
returns-then-get-ne0 c =
    let a = c.args in
    let m = lent_by every_table a.caps.ids a.caps.slots a.id_marks.now a.locations.now a.slot_marks.now a.owners.now a.batch.now a.tallies.now a.carried.now in
    let o : Offer = record { ids = a.ids.now; stores = stores_of a.stores.now; lengths = a.lengths.now; carried = a.update_carried.now; placed = a.placed.now } in
    let e = fits_told m o c.fits.result (sym (length_stores_of a.stores.now)) c.fits.ensures (ap not c.if-not-fits.false) in
    leaves_as m o c.of-then-get-ne0.result batch_open c.of-then-get-ne0.ensures (refused_open m o e (λ q. c.if-get-ne0.true (c.get.ensures ∙ q)))

pub returns-then-n-gt-MOST_UPDATES : goal.returns-then-n-gt-MOST_UPDATES
returns-then-n-gt-MOST_UPDATES c =
    let a = c.args in
    let m = lent_by every_table a.caps.ids a.caps.slots a.id_marks.now a.locations.now a.slot_marks.now a.owners.now a.batch.now a.tallies.now a.carried.now in
    let o : Offer = record { ids = a.ids.now; stores = stores_of a.stores.now; lengths = a.lengths.now; carried = a.update_carried.now; placed = a.placed.now } in
    let e = fits_told m o c.fits.result (sym (length_stores_of a.stores.now)) c.fits.ensures (ap not c.if-not-fits.false) in
    let z = c.if-get-ne0.false in
    leaves_as m o c.of-then-n-gt-MOST_UPDATES.result too_many c.of-then-n-gt-MOST_UPDATES.ensures (refused_many m o e (sym c.get.ensures ∙ z) c.if-n-gt-MOST_UPDATES.true)

pub slice_bounds-slabs-end : goal.slice_bounds-slabs-end
slice_bounds-slabs-end c =
    let a = c.args in
    let m = lent_by every_table a.caps.ids a.caps.slots a.id_marks.now a.locations.now a.slot_marks.now a.owners.now a.batch.now a.tallies.now a.carried.now in
    let o : Offer = record { ids = a.ids.now; stores = stores_of a.stores.now; lengths = a.lengths.now; carried = a.update_carried.now; placed = a.placed.now } in
    let e = fits_told m o c.fits.result (sym (length_stores_of a.stores.now)) c.fits.ensures (ap not c.if-not-fits.false) in
    let few = c.if-n-gt-MOST_UPDATES.false in
    sym (kinds_long m o e few c.kinds-all.result c.kinds-all.ensures)

pub returns-in_err-refused : goal.returns-in_err-refused
returns-in_err-refused c =
    let a = c.args in
    let m = lent_by every_table a.caps.ids a.caps.slots a.id_marks.now a.locations.now a.slot_marks.now a.owners.now a.batch.now a.tallies.now a.carried.now in
    let o : Offer = record { ids = a.ids.now; stores = stores_of a.stores.now; lengths = a.lengths.now; carried = a.update_carried.now; placed = a.placed.now } in
    let e = fits_told m o c.fits.result (sym (length_stores_of a.stores.now)) c.fits.ensures (ap not c.if-not-fits.false) in
    let z = c.if-get-ne0.false in
    let few = c.if-n-gt-MOST_UPDATES.false in
    let r = c.kinds-all.result in
    let p = err_from_is_err_and c.from_residual.result c.from_residual.ensures.1 in
    rw (p.1, p.2) (leaves_verdict m o c.refused.result _ c.in_err-refused.was
    (rest_told m o e (sym c.get.ensures ∙ z) few (take (length a.ids.now) r) (kinds_told m o e few r c.kinds-all.ensures) _ c.refused.ensures))

pub returns : goal.returns
returns c =
    let a = c.args in
    let m = lent_by every_table a.caps.ids a.caps.slots a.id_marks.now a.locations.now a.slot_marks.now a.owners.now a.batch.now a.tallies.now a.carried.now in
    let o : Offer = record { ids = a.ids.now; stores = stores_of a.stores.now; lengths = a.lengths.now; carried = a.update_carried.now; placed = a.placed.now } in
    let e = fits_told m o c.fits.result (sym (length_stores_of a.stores.now)) c.fits.ensures (ap not c.if-not-fits.false) in
    let z = c.if-get-ne0.false in
    let few = c.if-n-gt-MOST_UPDATES.false in
    let r = c.kinds-all.result in
    let ks = take (length a.ids.now) r in
    let κ = kinds_told m o e few r c.kinds-all.ensures in
    let g = rest_told m o e (sym c.get.ensures ∙ z) few ks κ _ c.refused.ensures ∙ ap judged_verdict c.in_ok-refused.was in
    leaves_done m o e (sym c.get.ensures ∙ z) few ks κ _ _ _ _ _ g c.place.ensures.0 c.place.ensures.1 c.keep.ensures (sym (length_stores_of a.stores.now)) c.keep-2.ensures
