-- `object_ids::hold_id` meets its contract: what its callees write, one after the other. Assumes nothing.
use Rattle.std.proofs.Common.{get_or}
use Rattle.object_ids.proofs.LawsNewId.{held_marks, held_words}
use Rattle.object_ids.proofs.new_id.hold_id.Goals as goal

pub returns : goal.returns
returns c =
    let a = c.args in
    let first = get_or a.id_marks.now 0 0 in (
      held_marks a.id_marks.now _ _ a.id first _ c.put.ensures c.held.ensures c.put-2.ensures,
      held_words a.tallies.now _ _ _ a.id first _ _ c.get-hint.ensures c.numbers_taken.ensures c.add.ensures c.put-3.ensures c.put-4.ensures,
    )
