-- A lookup: each return is a law of what its tests told. Where a location is told, the lent row is written whole. Assumes nothing.
use mathlib.Core.Path.{sym, ap, ◌∙◌}
use Rattle.std.proofs.lemmas.Result.{err_from_is_err_and}
use Rattle.refusal.proofs.Tests.{and_true}
use Rattle.model.specs.Lending.{row_tables}
use Rattle.model.specs.Lent.{lent_by}
use Rattle.model.proofs.Sizes.{fits_range, fits_locations, fits_slot_marks, fits_owners}
use Rattle.carried.specs.Carried.{width, put_row}
use Rattle.lookup.proofs.Laws.{answers_shape, answers_refused, answers_found}
use Rattle.lookup.proofs.get_location_for_object.Goals as goal

pub returns-then-not-fits : goal.returns-then-not-fits
returns-then-not-fits c =
    let a = c.args in
    let m = lent_by row_tables a.caps.ids a.caps.slots a.id_marks.now a.locations.now a.slot_marks.now a.owners.now a.tallies.now a.carried.now in
    rw c.of.ensures (let both = answers_shape m a.id a.row.now (sym c.fits.ensures ∙ c.if-not-fits.true) in
    record { answers = both.0; leaves = both.1 })

pub locate-requires : goal.locate-requires
locate-requires c =
    let a = c.args in
    let m = lent_by row_tables a.caps.ids a.caps.slots a.id_marks.now a.locations.now a.slot_marks.now a.owners.now a.tallies.now a.carried.now in
    let f = (and_true _ _ (sym c.fits.ensures ∙ c.if-not-fits.false)).0 in
    ((fits_range row_tables m f).slots_good, fits_locations row_tables m f, fits_slot_marks row_tables m f, fits_owners row_tables m f)

pub returns-in_err-location : goal.returns-in_err-location
returns-in_err-location c =
    let a = c.args in
    let m = lent_by row_tables a.caps.ids a.caps.slots a.id_marks.now a.locations.now a.slot_marks.now a.owners.now a.tallies.now a.carried.now in
    let both = answers_refused m a.id a.row.now (sym c.fits.ensures ∙ c.if-not-fits.false) c.locate.result c.locate.ensures _ c.in_err-location.was in
    let p = err_from_is_err_and c.from_residual.result c.from_residual.ensures.1 in
    rw (p.1, p.2) (record { answers = both.0; leaves = both.1 })

pub returns : goal.returns
returns c =
    let a = c.args in
    let m = lent_by row_tables a.caps.ids a.caps.slots a.id_marks.now a.locations.now a.slot_marks.now a.owners.now a.tallies.now a.carried.now in
    let both = answers_found m a.id a.row.now (sym c.fits.ensures ∙ c.if-not-fits.false) c.locate.result c.locate.ensures _ _ c.in_ok-location.was
    (c.put_row.ensures ∙ ap (put_row width a.row.now 0) c.row.ensures) in
    record { answers = both.0; leaves = both.1 }
