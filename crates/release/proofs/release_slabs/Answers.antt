-- The loop's invariant: to release the slabs that are left, from the tables as they are now, is to release all from the tables as they were.
-- One turn is the law release_turn. Assumes nothing.
use mathlib.Core.Path.{refl, ◌∙◌}
use Prim.Native.Nat.{◌-◌}
use native.Mathlib.Omega.{arith}
use Rattle.address.specs.Address.{slabs}
use Rattle.release.proofs.Laws.{start_within, release_turn, release_end}
use borrow.Author.Rules.{rules}
use Rattle.release.proofs.release_slabs.Goals as goal

pub slice_bounds-release_allocator-end : goal.slice_bounds-release_allocator-end
slice_bounds-release_allocator-end c = let w = start_within c.args.slots c.loop-slab.slab _ refl (omega arith) in omega arith

pub loop-slab-preserved : goal.loop-slab-preserved
loop-slab-preserved c =
    let a = c.args in
    let l = c.loop-slab in
    let turn = release_turn a.slots l.slab _ l.slot_marks l.tallies _ _ (omega arith) refl c.release_allocator.ensures.0 c.release_allocator.ensures.1 in
    (search rules, search rules, turn ∙ l.invariant.2)

pub returns : goal.returns
returns c = release_end _ (slabs - c.loop-slab.slab) c.loop-slab.slab _ (omega arith) ∙ c.loop-slab.invariant.2
