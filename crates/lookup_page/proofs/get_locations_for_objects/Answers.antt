-- The refusals in their order; else the lists are those of the rows that are told, each written in turn. Assumes nothing.
use mathlib.Core.Path.{sym, ◌∙◌}
use Rattle.refusal.proofs.Tests.{and_true}
use Rattle.model.specs.Lending.{row_tables}
use Rattle.model.specs.Lent.{lent_by}
use Rattle.model.proofs.Sizes.{fits_range, fits_locations, fits_slot_marks, fits_owners}
use Rattle.lookup_page.specs.Page.{page}
use Rattle.lookup_page.proofs.Laws.{lists_long, leaves_shape, leaves_many, leaves_told}
use Rattle.lookup_page.proofs.get_locations_for_objects.Goals as goal

pub returns-then-not-fits : goal.returns-then-not-fits
returns-then-not-fits c =
    let a = c.args in
    let m = lent_by row_tables a.caps.ids a.caps.slots a.id_marks.now a.locations.now a.slot_marks.now a.owners.now a.tallies.now a.carried.now in
    let p = page a.asked.now a.numbers.now a.found.now a.rows.now in
    rw c.of.ensures (leaves_shape m p (sym c.fits.ensures ∙ c.if-not-fits.true))

pub returns-then-asked-gt-MOST_ASKED : goal.returns-then-asked-gt-MOST_ASKED
returns-then-asked-gt-MOST_ASKED c =
    let a = c.args in
    let m = lent_by row_tables a.caps.ids a.caps.slots a.id_marks.now a.locations.now a.slot_marks.now a.owners.now a.tallies.now a.carried.now in
    let p = page a.asked.now a.numbers.now a.found.now a.rows.now in
    let fit = sym c.fits.ensures ∙ c.if-not-fits.false in
    rw c.of-then-asked-gt-MOST_ASKED.ensures (leaves_many m p fit c.if-asked-gt-MOST_ASKED.true)

pub tell-requires : goal.tell-requires
tell-requires c =
    let a = c.args in
    let m = lent_by row_tables a.caps.ids a.caps.slots a.id_marks.now a.locations.now a.slot_marks.now a.owners.now a.tallies.now a.carried.now in
    let p = page a.asked.now a.numbers.now a.found.now a.rows.now in
    let fit = sym c.fits.ensures ∙ c.if-not-fits.false in
    let f = (and_true _ _ fit).0 in
    (c.if-asked-gt-MOST_ASKED.false, (lists_long m p fit).0, (lists_long m p fit).1, (fits_range row_tables m f).slots_good, fits_locations row_tables m f, fits_slot_marks row_tables m f, fits_owners row_tables m f)

pub returns : goal.returns
returns c =
    let a = c.args in
    let m = lent_by row_tables a.caps.ids a.caps.slots a.id_marks.now a.locations.now a.slot_marks.now a.owners.now a.tallies.now a.carried.now in
    let p = page a.asked.now a.numbers.now a.found.now a.rows.now in
    let fit = sym c.fits.ensures ∙ c.if-not-fits.false in
    let e = c.tell.ensures in
    leaves_told m p fit c.if-asked-gt-MOST_ASKED.false _ _ _ e.0 e.1 e.2
