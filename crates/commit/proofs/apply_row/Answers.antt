-- One row: what each callee leaves makes up the model's row of a Store (`row_store`) or of a Free (`row_free`), as it
-- stands in the batch. Assumes nothing.
use Rattle.model.specs.Memory.{memory_of}
use Rattle.commit.proofs.LawsApply.{row_store, row_free}
use Rattle.commit.proofs.apply_row.Goals as goal

pub returns-then-new-ne0 : goal.returns-then-new-ne0
returns-then-new-ne0 c =
    let a = c.args in
    let m = memory_of a.caps.ids a.caps.slots a.id_marks.now a.locations.now a.slot_marks.now a.owners.now a.batch.now a.tallies.now in
    row_store m a.batch.now a.index c.get-id.result c.get-new.result c.get-old.result c.get-id.ensures c.get-new.ensures c.get-old.ensures
    _ _ _ _ c.if-new-ne0.true c.put.ensures c.pend_slot.ensures c.put_owner.ensures

pub put_owner-requires-2 : goal.put_owner-requires-2
put_owner-requires-2 c = c.requires.0

pub returns : goal.returns
returns c =
    let a = c.args in
    let m = memory_of a.caps.ids a.caps.slots a.id_marks.now a.locations.now a.slot_marks.now a.owners.now a.batch.now a.tallies.now in
    row_free m a.batch.now a.index c.get-id.result c.get-new.result c.get-old.result c.get-id.ensures c.get-new.ensures c.get-old.ensures
    _ _ _ _ _ _ _ c.if-new-ne0.false c.put.ensures
    c.put-2.ensures c.ready.ensures.0 c.ready.ensures.1 c.pend_slot-2.ensures c.put_owner-2.ensures
