use mathlib.Core.Path.{◌≡◌, sym, ◌∙◌}
use mathlib.Core.Bool.{true, false}
use lib.ListN.{length}
use lib.Dec.{ltb}
use borrow.Author.Tests.{lt-ltb, le-ltb, not-true, not-false}
use Rattle.sizes.specs.Sizes.{longest_object}
use Rattle.frame.specs.Frame.{writing}
use Rattle.frame.proofs.Slab.write.Goals as goal

pub returns-then-not-is_slot : goal.returns-then-not-is_slot
unfolding writing
returns-then-not-is_slot c = simp (sym c.is_slot.ensures ∙ not-true _ c.if-not-is_slot.true-raw, c.of.ensures)

pub returns-then-longest_in-object : goal.returns-then-longest_in-object
unfolding writing
returns-then-longest_in-object c =
    let long : ltb (longest_object (length c.args.slot.now)) (length c.args.object.now) ≡ true = rw (← c.longest_in.ensures) (lt-ltb _ _ c.if-longest_in-object.true) in
    simp (sym c.is_slot.ensures ∙ not-false _ c.if-not-is_slot.false-raw, long, c.of-then-longest_in-object.ensures)

pub lay-requires : goal.lay-requires
lay-requires c = (sym c.is_slot.ensures ∙ not-false _ c.if-not-is_slot.false-raw, rw (← c.longest_in.ensures) c.if-longest_in-object.false)

pub returns : goal.returns
unfolding writing
returns c =
    let short : ltb (longest_object (length c.args.slot.now)) (length c.args.object.now) ≡ false = rw (← c.longest_in.ensures) (le-ltb _ _ c.if-longest_in-object.false) in
    simp (sym c.is_slot.ensures ∙ not-false _ c.if-not-is_slot.false-raw, short, c.lay.ensures)
