-- A list of another length is refused first; one of as many entries is the table then. Assumes nothing.
use mathlib.Core.Bool.{cond}
use mathlib.Core.Path.{refl, sym, ap, ◌∙◌}
use lib.ListN.{length}
use borrow.Author.Tests.{eq-eqb}
use Rattle.sizes.specs.Sizes.{slabs, slab_sizes}
use Rattle.exports.proofs.Laws.{exported_short, exported_is}
use Rattle.exports.proofs.leaves.wentuhoro_slab_sizes.Goals as goal

pub returns-then-sizes-ne-SLABS : goal.returns-then-sizes-ne-SLABS
returns-then-sizes-ne-SLABS c = exported_short slabs c.args.sizes.now _ c.if-sizes-ne-SLABS.true

pub returns : goal.returns
returns c =
    let lent = c.args.sizes.now in
    let h = c.if-sizes-ne-SLABS.false in
    exported_is slabs lent _ _ _ h refl (sym (c.put_slab_sizes.ensures ∙ ap (λ t. cond t slab_sizes lent) (eq-eqb (length lent) slabs h)))
