use Rattle.std.proofs.Common.{◌≡◌, ◌-◌}
use Rattle.address.specs.Address.{slabs}
use Rattle.offer_room.specs.Room.{room_in}
use Rattle.offer_room.proofs.room.Given as goal

abbrev pub invariant-loop-slab : goal.invariant-loop-slab
invariant-loop-slab l = room_in l.slots l.slot_marks l.tallies l.asked (slabs - l.slab) l.slab ≡ room_in l.slots l.slot_marks l.tallies l.asked slabs 0
