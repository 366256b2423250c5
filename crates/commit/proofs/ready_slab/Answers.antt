-- A slab made ready: its part of the marks, by its waiting word (`slab_ready`). Assumes nothing.
use native.Mathlib.Omega.{arith}
use Rattle.list_parts.proofs.Parts.{part_end}
use Rattle.address.specs.Address.{slabs}
use Rattle.address.proofs.Laws.{slots_range}
use Rattle.tables.proofs.LawsEntries.{start_lt}
use Rattle.commit.proofs.LawsApply.{slab_ready}
use Rattle.commit.proofs.ready_slab.Goals as goal

pub overflow_mul-start : goal.overflow_mul-start
overflow_mul-start c = omega (arith, start_lt _ _ c.requires.0 c.requires.1)

pub overflow_add-end : goal.overflow_add-end
overflow_add-end c = omega (arith, start_lt _ _ c.requires.0 c.requires.1, (slots_range _ c.requires.1).1)

pub slice_bounds-ready-end : goal.slice_bounds-ready-end
slice_bounds-ready-end c = omega (arith, part_end c.args.slots slabs c.args.slab c.requires.0, c.requires.2)

pub returns : goal.returns
returns c =
    let a = c.args in
    slab_ready a.slots a.slab (record { marks = a.slot_marks.now; words = a.tallies.now }) _ _ c.ready.ensures.0 c.ready.ensures.1
