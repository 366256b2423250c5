-- The slab's marks are a part of the table, of which the slot is in range. Assumes nothing.
use Rattle.lookup.proofs.Laws.{owns_free, owns_held}
use Rattle.lookup.proofs.owns.Goals as goal

pub returns-then-not-is_held : goal.returns-then-not-is_held
returns-then-not-is_held c =
    let a = c.args in
    let pre = c.requires in
    owns_free a.slots a.slot_marks.now a.owners.now a.tallies.now a.id a.address pre.0 pre.2 _ _ _ c.get-hint.ensures c.get-waiting.ensures c.is_held.ensures (c.if-not-is_held.true)

pub returns : goal.returns
returns c =
    let a = c.args in
    let pre = c.requires in
    owns_held a.slots a.slot_marks.now a.owners.now a.tallies.now a.id a.address pre.0 pre.2 _ _ _ c.get-hint.ensures c.get-waiting.ensures c.is_held.ensures (c.if-not-is_held.false)
