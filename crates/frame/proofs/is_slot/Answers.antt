use mathlib.Core.Path.{◌∙◌}
use borrow.Author.Tests.{lt-leb}
use Rattle.sizes.proofs.Laws.{is_slab_size_below}
use Rattle.frame.proofs.is_slot.Goals as goal

pub returns-else-len-ge-SMALLEST : goal.returns-else-len-ge-SMALLEST
returns-else-len-ge-SMALLEST c = lt-leb _ _ c.if-len-ge-SMALLEST.false ∙ is_slab_size_below _ c.if-len-ge-SMALLEST.false
