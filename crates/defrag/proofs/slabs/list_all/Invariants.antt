use Prim.Native.Nat.{◌+◌, ◌*◌, ◌≤◌, ◌-◌}
use mathlib.Core.Path.{◌≡◌}
use lib.ListN.{length}
use lib.Seq.{sets}
use Rattle.address.specs.Address.{slabs, most_slots}
use Rattle.model.specs.Tables.{ids_of, locations_of}
use Rattle.defrag.specs.Listed.{listed_from}
use Rattle.defrag.proofs.slabs.list_all.Given as goal

abbrev pub invariant-loop-slab : goal.invariant-loop-slab
invariant-loop-slab l =
    (l.n ≤ l.slab * most_slots)
    × (length l.moved_ids ≡ length l.initial.moved_ids) × (length l.moved_locations ≡ length l.initial.moved_locations)
    × (l.n + length (listed_from l.slots l.locations l.slot_marks l.owners l.tallies l.r (slabs - l.slab) l.slab) ≡ length (listed_from l.slots l.locations l.slot_marks l.owners l.tallies l.r slabs 0))
    × (sets l.moved_ids l.n (ids_of (listed_from l.slots l.locations l.slot_marks l.owners l.tallies l.r (slabs - l.slab) l.slab)) ≡ sets l.initial.moved_ids 0 (ids_of (listed_from l.slots l.locations l.slot_marks l.owners l.tallies l.r slabs 0)))
    × (sets l.moved_locations l.n (locations_of (listed_from l.slots l.locations l.slot_marks l.owners l.tallies l.r (slabs - l.slab) l.slab)) ≡ sets l.initial.moved_locations 0 (locations_of (listed_from l.slots l.locations l.slot_marks l.owners l.tallies l.r slabs 0)))
