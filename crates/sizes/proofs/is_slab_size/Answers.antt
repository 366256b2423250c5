use mathlib.Core.Path.{sym, ◌∙◌}
use Rattle.sizes.proofs.Laws.{is_slab_size_goes, is_slab_size_far}
use borrow.Author.Rules.{rules}
use Rattle.sizes.proofs.is_slab_size.Goals as goal

pub returns-then-power-gt34 : goal.returns-then-power-gt34
returns-then-power-gt34 c = sym (is_slab_size_far c.args.s (search rules))

pub returns : goal.returns
returns c = c.goes_with.ensures ∙ sym (is_slab_size_goes c.args.s (search rules))
