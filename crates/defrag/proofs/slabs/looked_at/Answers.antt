-- `defrag::slabs::looked_at` meets its contract: live and tip by the slab's hint and used words; the cutoff is not refused. Assumes nothing.
use native.Mathlib.Omega.{arith}
use mathlib.Core.Path.{ap, ◌∙◌}
use Rattle.list_parts.proofs.Parts.{part_end}
use Rattle.address.specs.Address.{slabs}
use Rattle.marks.specs.Marks.{is_taken, count_if, tip}
use Rattle.defrag.specs.Listed.{start_of}
use Rattle.defrag.proofs.Spans.{below, marks_are, used_is, span_is}
use borrow.Author.Rules.{rules}
use Rattle.defrag.proofs.slabs.looked_at.Goals as goal

pub overflow_mul-base : goal.overflow_mul-base
overflow_mul-base c = let a = c.args in omega (arith, below a.slots a.slab c.requires.2)

pub overflow_add-end : goal.overflow_add-end
overflow_add-end c = let a = c.args in omega (arith, below a.slots a.slab c.requires.2)

pub slice_bounds-live-end : goal.slice_bounds-live-end
slice_bounds-live-end c = let a = c.args in let h = part_end a.slots slabs a.slab c.requires.0 in search rules

pub slice_bounds-tip-end : goal.slice_bounds-tip-end
slice_bounds-tip-end c = let a = c.args in let h = part_end a.slots slabs a.slab c.requires.0 in search rules

pub returns : goal.returns
returns c =
    let a = c.args in
    let p = c.requires in
    let ms = a.slot_marks.now in
    let g = a.tallies.now in
    let m = marks_are a.slots ms g a.slab _ c.get-hint.ensures in
    span_is a.slots ms g a.slab p.1 p.0 p.3 a.r _ _ _ p.2 p.4
    (c.live-live.ensures ∙ ap (count_if is_taken) m)
    (c.tip-tip.ensures ∙ (λ i. tip (m i) (used_is g a.slab _ c.get-used.ensures i)))
    (c.start-from.ensures ∙ ap (λ x. start_of x c.tip-tip.result) c.fragmentation_cutoff.ensures)
