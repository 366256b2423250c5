-- `room::slab_lacks` meets its contract: the slab's marks and hint are those of its definition. Assumes nothing.
use mathlib.Core.Path.{sym, ◌∙◌}
use native.Mathlib.Omega.{arith}
use lib.Dec.{ltb}
use borrow.Author.Tests.{le-ltb}
use Rattle.marks.specs.Marks.{is_free, count_if}
use Rattle.id_allocator.specs.Counted.{hinted}
use Rattle.offer_room.specs.Room.{free_in}
use Rattle.offer_room.proofs.slab_lacks.Goals as goal

pub returns-then-asked-eq0 : goal.returns-then-asked-eq0
returns-then-asked-eq0 c =
    let a = c.args in
    sym (le-ltb (free_in a.slots a.slot_marks.now a.tallies.now a.slab) a.asked (omega arith))

pub returns : goal.returns
unfolding free_in
returns c = c.lacks.ensures ∙ λ i. ltb (count_if is_free (hinted (c.get-hint.ensures i) (c.slab_marks.ensures i))) c.args.asked
