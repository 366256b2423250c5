use Rattle.std.proofs.Common.{◌≡◌, length, drop}
use Rattle.address.specs.Address.{slabs}
use Rattle.offer_room.specs.Room.{none_asked, tallied}
use Rattle.offer_room.proofs.tally.Given as goal

abbrev pub invariant-loop-slab : goal.invariant-loop-slab
invariant-loop-slab l = (length l.asked ≡ slabs) × (tallied l.asked (drop l.slab-index l.slabs) ≡ tallied none_asked l.slabs)
