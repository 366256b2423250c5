-- `room::room` meets its contract. The loop's invariant: the test of the slabs that are left is the test of all, since none so far lacks
-- slots. Assumes nothing.
use mathlib.Core.Path.{refl, ap, ◌∙◌}
use Rattle.refusal.specs.declared.Refusal.{Refusal}
use Rattle.model.specs.Verdict.{refuse}
use Rattle.offer_room.proofs.Laws.{room_stop, room_on, room_end}
use borrow.Author.Rules.{rules}
use Rattle.offer_room.proofs.room.Goals as goal

pub loop-slab-init : goal.loop-slab-init
loop-slab-init c = refl

pub returns-then-slab_lacks : goal.returns-then-slab_lacks
returns-then-slab_lacks c =
    let a = c.args in
    let l = c.loop-slab in
    ap (λ (r : Refusal). refuse r.kind r.index) c.at.ensures
    ∙ room_stop a.slots a.slot_marks.now a.tallies.now a.asked.now l.slab c.get.result c.slab_lacks.result (search rules) c.get.ensures c.slab_lacks.ensures c.if-slab_lacks.true ∙ l.invariant

pub loop-slab-preserved : goal.loop-slab-preserved
loop-slab-preserved c =
    let a = c.args in
    let l = c.loop-slab in
    room_on a.slots a.slot_marks.now a.tallies.now a.asked.now l.slab c.get.result c.slab_lacks.result (search rules) c.get.ensures c.slab_lacks.ensures c.if-slab_lacks.false ∙ l.invariant

pub returns : goal.returns
returns c =
    let a = c.args in
    let l = c.loop-slab in
    room_end a.slots a.slot_marks.now a.tallies.now a.asked.now l.slab (search rules) ∙ l.invariant
