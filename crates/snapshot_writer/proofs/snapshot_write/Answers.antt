-- `snapshot_write` meets its contract: each refusal is told by the tests on the way, and what is granted leaves the file of the rows (LawsRead).
-- Assumes nothing.
use mathlib.Core.List.{List}
use mathlib.Core.Path.{◌≡◌, sym, ap, ◌∙◌}
use Prim.Native.Nat.{ℕ}
use lib.ListN.{length}
use borrow.Author.Tests.{not-true, not-false}
use Rattle.snapshot_blocks.specs.Formats.{version2}
use Rattle.snapshot_blocks.specs.Files.{file_length}
use Rattle.model.specs.Lending.{every_table}
use Rattle.model.specs.Lent.{lent_by}
use Rattle.model.proofs.Sizes.{fits_range, fits_locations}
use Rattle.snapshot_writer.proofs.LawsRead.{few_ids, long_enough, refused_shape, refused_length, refused_open, rows_refusal, leaves_as, leaves_verdict, leaves_done}
use Rattle.refusal.specs.Refusals.{wrong_shape, batch_open}
use Rattle.std.proofs.lemmas.Result.{err_from_is_err_and}
use Rattle.snapshot_writer.proofs.snapshot_write.Goals as goal

pub returns-then-not-all_fit : goal.returns-then-not-all_fit
returns-then-not-all_fit c =
    let a = c.args in
    let m = lent_by every_table a.caps.ids a.caps.slots a.id_marks.now a.locations.now a.slot_marks.now a.owners.now a.batch.now a.tallies.now a.carried.now in
    leaves_as m a.file.now c.of.result wrong_shape c.of.ensures (refused_shape m a.file.now (sym c.all_fit.ensures ∙ not-true c.all_fit.result c.if-not-all_fit.true-raw))

pub count-rows-requires : goal.count-rows-requires
count-rows-requires c =
    let a = c.args in
    let m = lent_by every_table a.caps.ids a.caps.slots a.id_marks.now a.locations.now a.slot_marks.now a.owners.now a.batch.now a.tallies.now a.carried.now in
    (fits_range every_table m (sym c.all_fit.ensures ∙ not-false c.all_fit.result c.if-not-all_fit.false-raw)).ids_to

pub file_length-requires : goal.file_length-requires
file_length-requires c =
    let a = c.args in
    let m = lent_by every_table a.caps.ids a.caps.slots a.id_marks.now a.locations.now a.slot_marks.now a.owners.now a.batch.now a.tallies.now a.carried.now in
    few_ids m every_table c.count-rows.result (sym c.all_fit.ensures ∙ not-false c.all_fit.result c.if-not-all_fit.false-raw) c.count-rows.ensures

pub returns-then-file-file_length : goal.returns-then-file-file_length
returns-then-file-file_length c =
    let a = c.args in
    let m = lent_by every_table a.caps.ids a.caps.slots a.id_marks.now a.locations.now a.slot_marks.now a.owners.now a.batch.now a.tallies.now a.carried.now in
    let f = sym c.all_fit.ensures ∙ not-false c.all_fit.result c.if-not-all_fit.false-raw in
    let n = c.file_length.ensures ∙ ap (file_length version2) c.count-rows.ensures in
    leaves_as m a.file.now c.of-then-file-file_length.result wrong_shape c.of-then-file-file_length.ensures (refused_length m a.file.now c.file_length.result f n c.if-file-file_length.true)

pub returns-then-get-ne0 : goal.returns-then-get-ne0
returns-then-get-ne0 c =
    let a = c.args in
    let m = lent_by every_table a.caps.ids a.caps.slots a.id_marks.now a.locations.now a.slot_marks.now a.owners.now a.batch.now a.tallies.now a.carried.now in
    let f = sym c.all_fit.ensures ∙ not-false c.all_fit.result c.if-not-all_fit.false-raw in
    let n = c.file_length.ensures ∙ ap (file_length version2) c.count-rows.ensures in
    leaves_as m a.file.now c.of-then-get-ne0.result batch_open c.of-then-get-ne0.ensures (refused_open m a.file.now c.file_length.result f n c.if-file-file_length.false (λ q. c.if-get-ne0.true (c.get.ensures ∙ q)))

pub first_bad-requires : goal.first_bad-requires
first_bad-requires c =
    let a = c.args in
    let m = lent_by every_table a.caps.ids a.caps.slots a.id_marks.now a.locations.now a.slot_marks.now a.owners.now a.batch.now a.tallies.now a.carried.now in
    (fits_range every_table m (sym c.all_fit.ensures ∙ not-false c.all_fit.result c.if-not-all_fit.false-raw)).ids_to

pub returns-in_err-first_bad : goal.returns-in_err-first_bad
returns-in_err-first_bad c =
    let a = c.args in
    let m = lent_by every_table a.caps.ids a.caps.slots a.id_marks.now a.locations.now a.slot_marks.now a.owners.now a.batch.now a.tallies.now a.carried.now in
    let f = sym c.all_fit.ensures ∙ not-false c.all_fit.result c.if-not-all_fit.false-raw in
    let n = c.file_length.ensures ∙ ap (file_length version2) c.count-rows.ensures in
    let p = err_from_is_err_and c.from_residual.result c.from_residual.ensures.1 in
    rw (p.1, p.2)
    (leaves_verdict m a.file.now c.first_bad.result _ c.in_err-first_bad.was
    (rows_refusal m a.file.now c.file_length.result f n c.if-file-file_length.false (sym c.get.ensures ∙ c.if-get-ne0.false) ∙ sym c.first_bad.ensures))

pub put_blocks-requires : goal.put_blocks-requires
put_blocks-requires c =
    let a = c.args in
    let m = lent_by every_table a.caps.ids a.caps.slots a.id_marks.now a.locations.now a.slot_marks.now a.owners.now a.batch.now a.tallies.now a.carried.now in
    let f = sym c.all_fit.ensures ∙ not-false c.all_fit.result c.if-not-all_fit.false-raw in
    (((fits_range every_table m f).ids_to, c.count-rows.ensures), ((fits_locations every_table m f, long_enough m f), c.if-file-file_length.false ∙ c.file_length.ensures))

pub returns : goal.returns
returns c =
    let a = c.args in
    let m = lent_by every_table a.caps.ids a.caps.slots a.id_marks.now a.locations.now a.slot_marks.now a.owners.now a.batch.now a.tallies.now a.carried.now in
    let f = sym c.all_fit.ensures ∙ not-false c.all_fit.result c.if-not-all_fit.false-raw in
    let n = c.file_length.ensures ∙ ap (file_length version2) c.count-rows.ensures in
    let w = c.put_blocks in
    let after : List ℕ = w.new.file in
    let l : length after ≡ length a.file.now = search in
    leaves_done m a.file.now after c.first_bad.result c.in_ok-first_bad.was
    (rows_refusal m a.file.now c.file_length.result f n c.if-file-file_length.false (sym c.get.ensures ∙ c.if-get-ne0.false) ∙ sym c.first_bad.ensures) l w.ensures
