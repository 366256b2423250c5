-- `address::SlabAddress::from_slab_slot` meets its contract: the tests, in the definition's order. Assumes nothing.
use borrow.Author.Tests.{lt-leb, le-ltb}
use Rattle.address.specs.Address.{made_of}
use Rattle.std.proofs.lemmas.Grind.{common_steps}
use native.Mathlib.Omega.{arith}
use borrow.Author.Rules.{rules}
use Rattle.address.proofs.SlabAddress.from_slab_slot.Goals as goal

pub returns-then-slab-ge-SLABS : goal.returns-then-slab-ge-SLABS
unfolding made_of
returns-then-slab-ge-SLABS c = first_of (search rules, grind (arith, common_steps))

pub returns : goal.returns
unfolding made_of
returns c = simp (lt-leb _ _ c.if-slab-ge-SLABS.false, le-ltb _ _ c.if-slot-gt-LARGEST_SLOT.false)
