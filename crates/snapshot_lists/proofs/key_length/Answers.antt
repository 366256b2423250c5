-- One test, as the definition has it. Assumes nothing.
use borrow.Author.Tests.{le-ltb, lt-ltb}
use Rattle.snapshot_lists.proofs.key_length.Goals as goal

pub returns-then-wide-le-COLLECTION_AT : goal.returns-then-wide-le-COLLECTION_AT
returns-then-wide-le-COLLECTION_AT c = simp (le-ltb _ _ c.if-wide-le-COLLECTION_AT.true)

pub returns : goal.returns
returns c = simp (lt-ltb _ _ c.if-wide-le-COLLECTION_AT.false, c.get_at.ensures)
