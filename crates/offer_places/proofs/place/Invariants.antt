use Rattle.std.proofs.Common.{◌≡◌, length, drop}
use lib.Seq.{sets}
use Rattle.model.specs.MemoryAfter.{take_slots}
use Rattle.offer_places.specs.Places.{slots_in, place_in}
use Rattle.offer_places.proofs.place.Given as goal

abbrev pub invariant-loop-i : goal.invariant-loop-i
invariant-loop-i l =
    (length l.placed ≡ length l.initial.placed) × (length l.slot_marks ≡ length l.initial.slot_marks) × (length l.tallies ≡ length l.initial.tallies)
    × (sets l.placed l.i (place_in l.slots (slots_in l.slot_marks l.tallies) (drop l.i l.slabs)) ≡ sets l.initial.placed 0 (place_in l.slots (slots_in l.initial.slot_marks l.initial.tallies) l.slabs))
    × (take_slots l.slots (slots_in l.slot_marks l.tallies) (place_in l.slots (slots_in l.slot_marks l.tallies) (drop l.i l.slabs)) ≡ take_slots l.slots (slots_in l.initial.slot_marks l.initial.tallies) (place_in l.slots (slots_in l.initial.slot_marks l.initial.tallies) l.slabs))
