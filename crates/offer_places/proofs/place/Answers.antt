-- `places::place` meets its contract. The loop's invariant: the places of the rows left, found in the present tables, complete the list and the
-- tables as the places of all rows do from those at entry. Assumes nothing.
use mathlib.Core.Path.{refl, sym, ap, ◌∙◌}
use lib.ListN.{get_or}
use Rattle.address.specs.Address.{is_location}
use Rattle.offer_places.specs.Places.{slots_in}
use Rattle.offer_places.proofs.Laws.{spot_in_good, place_turn, take_turn, placed_end, taken_end}
use borrow.Author.Rules.{rules}
use Rattle.offer_places.proofs.place.Goals as goal

pub loop-i-init : goal.loop-i-init
loop-i-init c = (refl, refl, refl, refl, refl)

pub take_slot-requires : goal.take_slot-requires
take_slot-requires c =
    let l = c.loop-i in
    let a = c.args in
    λ h. spot_in_good a.slots (slots_in l.slot_marks l.tallies) (get_or a.slabs.now l.i 0) (ap (is_location a.slots) (sym c.spot-location.ensures) ∙ h)

pub loop-i-preserved : goal.loop-i-preserved
loop-i-preserved c =
    let l = c.loop-i in
    let a = c.args in
    let s = slots_in l.slot_marks l.tallies in (
      search rules,
      search rules,
      search rules,
      place_turn a.slots s _ a.slabs.now l.i c.spot-location.result (search rules) c.spot-location.ensures c.take_slot.ensures l.placed _ c.put.ensures ∙ l.invariant.3,
      take_turn a.slots s _ a.slabs.now l.i c.spot-location.result (search rules) c.spot-location.ensures c.take_slot.ensures ∙ l.invariant.4,
    )

pub returns : goal.returns
returns c =
    let l = c.loop-i in
    let a = c.args in
    let s = slots_in l.slot_marks l.tallies in (
      sym (placed_end a.slots s a.slabs.now l.placed l.i (search rules)) ∙ l.invariant.3,
      sym (taken_end a.slots s a.slabs.now l.i (search rules)) ∙ l.invariant.4,
    )
