-- `room::tally` meets its contract. The loop's invariant: the tally of the rows left, on the present counts, is the tally of all. Assumes nothing.
use Rattle.std.proofs.Common.{refl, sym, ◌∙◌, rules}
use Rattle.offer_room.specs.Room.{none_asked}
use Rattle.offer_room.proofs.Laws.{tallied_turn, tallied_end}
use Rattle.offer_room.proofs.tally.Goals as goal

pub loop-slab-init : goal.loop-slab-init
unfolding none_asked
loop-slab-init c = (search rules, refl)

pub loop-slab-preserved : goal.loop-slab-preserved
loop-slab-preserved c =
    let l = c.loop-slab in
    (search rules, tallied_turn l.asked _ c.args.slabs.now l.slab-index (search rules) c.add.ensures ∙ l.invariant.1)

pub returns : goal.returns
returns c =
    let l = c.loop-slab in
    sym (tallied_end l.asked c.args.slabs.now l.slab-index (search rules)) ∙ l.invariant.1
