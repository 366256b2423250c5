-- `truncation::slab_tip` meets its contract: the slab's marks are a part of the slot marks, which lies within them (part_end). Assumes
-- nothing.
use mathlib.Core.Path.{ap, ◌∙◌}
use native.Mathlib.Numerals.{add-one}
use native.Mathlib.Omega.{arith}
use Rattle.list_parts.proofs.Parts.{part_end, part_range}
use Rattle.address.specs.Address.{slabs}
use Rattle.marks.specs.Marks.{tip}
use Rattle.id_allocator.specs.Counted.{hinted}
use Rattle.model.specs.Memory.{get_word, used_words, hint_words}
use Rattle.truncation.proofs.slab_tip.Goals as goal

pub overflow_mul-start : goal.overflow_mul-start
overflow_mul-start c = let w = part_end c.args.slots slabs c.args.slab c.requires.0 in omega arith

pub overflow_add-end : goal.overflow_add-end
overflow_add-end c = let w = part_end c.args.slots slabs c.args.slab c.requires.0 in omega arith

pub slice_bounds-tip-end : goal.slice_bounds-tip-end
slice_bounds-tip-end c = let w = part_end c.args.slots slabs c.args.slab c.requires.0 in omega arith

pub returns : goal.returns
returns c =
    let a = c.args in
    let g = a.tallies.now in
    c.tip.ensures ∙ λ i. tip (hinted ((c.get-hint.ensures ∙ ap (get_word g hint_words) (add-one a.slab)) i) (part_range a.slots a.slot_marks.now a.slab i)) ((c.get-used.ensures ∙ ap (get_word g used_words) (add-one a.slab)) i)
