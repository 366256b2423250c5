use mathlib.Core.Bool.{true, false}
use lib.Dec.{ltb}
use lib.ListN.{length}
use Rattle.sizes.specs.Sizes.{longest_object}
use borrow.Author.Tests.{lt-ltb, le-ltb, not-true, not-false}
use mathlib.Core.Path.{◌≡◌, sym, ap, ◌∙◌}
use native.Mathlib.Omega.{arith}
use Rattle.sizes.proofs.Laws.{is_slab_size_least, longest_object_frame}
use Rattle.zeros.specs.Zeros.{all_zero}
use Rattle.frame.specs.Frame.{stored_length, gap_of, verdict_of}
use Rattle.frame.proofs.Laws.{stored_read, gap_read}
use Rattle.frame.proofs.Slab.verdict.Goals as goal

pub returns-then-not-is_slot : goal.returns-then-not-is_slot
unfolding verdict_of
returns-then-not-is_slot c = simp (sym c.is_slot.ensures ∙ not-true _ c.if-not-is_slot.true-raw, c.of.ensures)

pub returns-then-not-agrees : goal.returns-then-not-agrees
unfolding verdict_of
returns-then-not-agrees c =
    simp (sym c.is_slot.ensures ∙ not-false _ c.if-not-is_slot.false-raw, sym c.agrees.ensures ∙ not-true _ c.if-not-agrees.true-raw, c.of-then-not-agrees.ensures)

pub overflow_sub-end : goal.overflow_sub-end
overflow_sub-end c = omega (arith, is_slab_size_least _ (sym c.is_slot.ensures ∙ not-false _ c.if-not-is_slot.false-raw))

pub returns-then-start-n : goal.returns-then-start-n
unfolding verdict_of
returns-then-start-n c =
    let slot = c.args.slot.now in
    let slab = sym c.is_slot.ensures ∙ not-false _ c.if-not-is_slot.false-raw in
    let stored = stored_read slot _ c.get_at-n.result slab c.longest_in-start.ensures c.get_at-n.ensures in
    let long : ltb (longest_object (length slot)) (stored_length slot) ≡ true = rw (← stored, ← c.longest_in-start.ensures) (lt-ltb _ _ c.if-start-n.true) in
    simp (slab, sym c.agrees.ensures ∙ not-false _ c.if-not-agrees.false-raw, long, c.of-then-start-n.ensures)

pub slice_bounds-all_zero-end : goal.slice_bounds-all_zero-end
slice_bounds-all_zero-end c =
    let slab = sym c.is_slot.ensures ∙ not-false _ c.if-not-is_slot.false-raw in
    omega (arith, longest_object_frame _ slab, c.longest_in-start.ensures)

pub returns-then-not-all_zero : goal.returns-then-not-all_zero
unfolding verdict_of
returns-then-not-all_zero c =
    let slot = c.args.slot.now in
    let slab = sym c.is_slot.ensures ∙ not-false _ c.if-not-is_slot.false-raw in
    let start = c.longest_in-start.ensures in
    let stored = stored_read slot _ c.get_at-n.result slab start c.get_at-n.ensures in
    let short : ltb (longest_object (length slot)) (stored_length slot) ≡ false = rw (← stored, ← start) (le-ltb _ _ c.if-start-n.false) in
    let blank : c.all_zero.result ≡ all_zero (gap_of slot) = c.all_zero.ensures ∙ ap all_zero (gap_read slot _ _ start stored) in
    simp (slab, sym c.agrees.ensures ∙ not-false _ c.if-not-agrees.false-raw, short, sym blank ∙ not-true _ c.if-not-all_zero.true-raw, c.of-then-not-all_zero.ensures)

pub returns : goal.returns
unfolding verdict_of
returns c =
    let slot = c.args.slot.now in
    let slab = sym c.is_slot.ensures ∙ not-false _ c.if-not-is_slot.false-raw in
    let start = c.longest_in-start.ensures in
    let stored = stored_read slot _ c.get_at-n.result slab start c.get_at-n.ensures in
    let short : ltb (longest_object (length slot)) (stored_length slot) ≡ false = rw (← stored, ← start) (le-ltb _ _ c.if-start-n.false) in
    let blank : c.all_zero.result ≡ all_zero (gap_of slot) = c.all_zero.ensures ∙ ap all_zero (gap_read slot _ _ start stored) in
    simp (slab, sym c.agrees.ensures ∙ not-false _ c.if-not-agrees.false-raw, short, sym blank ∙ not-false _ c.if-not-all_zero.false-raw, stored)
