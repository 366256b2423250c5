use mathlib.Core.Path.{sym, ◌∙◌}
use native.Mathlib.Omega.{arith}
use borrow.Author.Tests.{le-leb, lt-leb, leb-false}
use Rattle.address.specs.Address.{packed}
use Rattle.address.proofs.Laws.{slots_range}
use Rattle.address.proofs.SlabAddress.pack.Goals as goal
use Rattle.address.proofs.SlabAddress.pack.Goals.{then-slab-ge-SLABS-via-then-slab-ge-SLABS, then-slab-ge-SLABS-via-else-slab-ge-SLABS+then-slot-slots}

pub returns-then-bad_slots : goal.returns-then-bad_slots
unfolding packed
returns-then-bad_slots c = simp (sym c.bad_slots.ensures ∙ c.if-bad_slots.true)

pub returns-then-slab-ge-SLABS : goal.returns-then-slab-ge-SLABS
unfolding packed
returns-then-slab-ge-SLABS c =
    let s = sym c.bad_slots.ensures ∙ c.if-bad_slots.false in
    elim c.then-slab-ge-SLABS.branch [
      | then-slab-ge-SLABS-via-then-slab-ge-SLABS w ↦ simp (s, le-leb _ _ w.if-slab-ge-SLABS.true)
      | then-slab-ge-SLABS-via-else-slab-ge-SLABS+then-slot-slots w ↦ simp (s, lt-leb _ _ w.if-slab-ge-SLABS.false, le-leb _ _ w.if-slot-slots.true)
    ]

pub overflow_add-result-2 : goal.overflow_add-result-2
overflow_add-result-2 c =
    let r = slots_range _ (sym c.bad_slots.ensures ∙ c.if-bad_slots.false) in
    omega (arith, leb-false)

pub returns : goal.returns
unfolding packed
returns c =
    simp (sym c.bad_slots.ensures ∙ c.if-bad_slots.false, lt-leb _ _ c.if-slab-ge-SLABS.false, lt-leb _ _ c.if-slot-slots.false)
