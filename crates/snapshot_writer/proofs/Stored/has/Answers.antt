-- `has` meets its contract: an id without a location has no row, and one with a location has one where it is held. Assumes nothing.
use borrow.Author.Tests.{eq-eqb}
use Rattle.snapshot_writer.proofs.LawsRows.{stored_not, stored_held}
use Rattle.snapshot_writer.proofs.Stored.has.Goals as goal

pub returns-then-get-ne0 : goal.returns-then-get-ne0
returns-then-get-ne0 c = stored_held _ _ _ _ _ c.get.result c.held_id.result c.get.ensures c.if-get-ne0.true c.held_id.ensures

pub returns-else-get-ne0 : goal.returns-else-get-ne0
returns-else-get-ne0 c = rw (eq-eqb _ _ c.if-get-ne0.false) (stored_not _ _ _ _ _ c.get.result c.get.ensures c.if-get-ne0.false)
