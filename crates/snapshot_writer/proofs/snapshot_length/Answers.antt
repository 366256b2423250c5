-- `snapshot_length` meets its contract: each return is a law of its answer, told by the tests on the way. Assumes nothing.
use mathlib.Core.Path.{sym, ◌∙◌}
use borrow.Author.Tests.{not-true, not-false}
use Rattle.model.specs.Lending.{stored_tables}
use Rattle.model.specs.Lent.{lent_by}
use Rattle.model.proofs.Sizes.{fits_range}
use Rattle.snapshot_writer.proofs.LawsRead.{few_ids, length_shape, length_open, length_done}
use Rattle.snapshot_writer.proofs.snapshot_length.Goals as goal

pub returns-then-not-stored_fits : goal.returns-then-not-stored_fits
returns-then-not-stored_fits c =
    let a = c.args in
    let m = lent_by stored_tables a.caps.ids a.caps.slots a.id_marks.now a.locations.now a.batch.now a.tallies.now in
    length_shape m c.of.result c.of.ensures (sym c.stored_fits.ensures ∙ not-true c.stored_fits.result c.if-not-stored_fits.true-raw)

pub returns-then-get-ne0 : goal.returns-then-get-ne0
returns-then-get-ne0 c =
    let a = c.args in
    let m = lent_by stored_tables a.caps.ids a.caps.slots a.id_marks.now a.locations.now a.batch.now a.tallies.now in
    let f = sym c.stored_fits.ensures ∙ not-false c.stored_fits.result c.if-not-stored_fits.false-raw in
    length_open m c.of-then-get-ne0.result c.of-then-get-ne0.ensures f (λ q. c.if-get-ne0.true (c.get.ensures ∙ q))

pub count-rows-requires : goal.count-rows-requires
count-rows-requires c =
    let a = c.args in
    let m = lent_by stored_tables a.caps.ids a.caps.slots a.id_marks.now a.locations.now a.batch.now a.tallies.now in
    (fits_range stored_tables m (sym c.stored_fits.ensures ∙ not-false c.stored_fits.result c.if-not-stored_fits.false-raw)).ids_to

pub file_length-requires : goal.file_length-requires
file_length-requires c =
    let a = c.args in
    let m = lent_by stored_tables a.caps.ids a.caps.slots a.id_marks.now a.locations.now a.batch.now a.tallies.now in
    few_ids m stored_tables c.count-rows.result (sym c.stored_fits.ensures ∙ not-false c.stored_fits.result c.if-not-stored_fits.false-raw) c.count-rows.ensures

pub returns : goal.returns
returns c =
    let a = c.args in
    let m = lent_by stored_tables a.caps.ids a.caps.slots a.id_marks.now a.locations.now a.batch.now a.tallies.now in
    let f = sym c.stored_fits.ensures ∙ not-false c.stored_fits.result c.if-not-stored_fits.false-raw in
    length_done m c.file_length.result c.count-rows.result c.file_length.ensures c.count-rows.ensures f (sym c.get.ensures ∙ c.if-get-ne0.false)
