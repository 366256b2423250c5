use mathlib.Core.Path.{sym}
use borrow.Author.Tests.{lt-ltb, le-ltb, eq-eqb, ne_eqb}
use Rattle.sizes.proofs.Laws.{size_of_worked, size_of_past}
use borrow.Author.Rules.{rules}
use Rattle.sizes.proofs.slab_size.Goals as goal

pub returns-then-slab-lt41 : goal.returns-then-slab-lt41
returns-then-slab-lt41 c = simp (lt-ltb _ _ c.if-slab-lt41.true) at (size_of_worked c.args.slab (search rules))

pub returns-then-slab-eq-EXTRA_SLAB : goal.returns-then-slab-eq-EXTRA_SLAB
returns-then-slab-eq-EXTRA_SLAB c = simp (le-ltb _ _ c.if-slab-lt41.false, eq-eqb _ _ c.if-slab-eq-EXTRA_SLAB.true) at (size_of_worked c.args.slab (search rules))

pub returns-then-slab-lt-EXTRA_SLAB : goal.returns-then-slab-lt-EXTRA_SLAB
returns-then-slab-lt-EXTRA_SLAB c = simp (le-ltb _ _ c.if-slab-lt41.false, ne_eqb _ _ c.if-slab-eq-EXTRA_SLAB.false, lt-ltb _ _ c.if-slab-lt-EXTRA_SLAB.true) at (size_of_worked c.args.slab (search rules))

pub returns-then-slab-lt-SLABS : goal.returns-then-slab-lt-SLABS
returns-then-slab-lt-SLABS c =
    simp (le-ltb _ _ c.if-slab-lt41.false, ne_eqb _ _ c.if-slab-eq-EXTRA_SLAB.false, le-ltb _ _ c.if-slab-lt-EXTRA_SLAB.false) at (size_of_worked c.args.slab (search rules))

pub returns : goal.returns
returns c = sym (size_of_past c.args.slab c.if-slab-lt-SLABS.false)
