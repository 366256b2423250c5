-- The array is the table of the definitions, entry by entry; its order and the class rule are that table's. Assumes nothing.
use mathlib.Core.Path.{refl}
use Rattle.sizes.specs.Sizes.{slab_sizes}
use Rattle.sizes.proofs.Table.{slab_sizes_ascend, slab_sizes_class}
use Rattle.sizes.proofs.slab_sizes.Goals as goal

pub returns : goal.returns
unfolding slab_sizes
returns c = record { table = refl; order = slab_sizes_ascend; classes = slab_sizes_class }
