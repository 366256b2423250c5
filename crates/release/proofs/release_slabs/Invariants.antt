use mathlib.Core.Path.{◌≡◌}
use Prim.Native.Nat.{◌-◌}
use lib.ListN.{length}
use Rattle.address.specs.Address.{slabs}
use Rattle.model.specs.MemoryAfter.{release_slabs}
use Rattle.release.proofs.release_slabs.Given as goal

abbrev pub invariant-loop-slab : goal.invariant-loop-slab
invariant-loop-slab l =
    (length l.slot_marks ≡ length l.initial.slot_marks) × (length l.tallies ≡ length l.initial.tallies)
    × (release_slabs l.slots (slabs - l.slab) l.slab (record { marks = l.slot_marks; words = l.tallies }) ≡ release_slabs l.slots slabs 0 (record { marks = l.initial.slot_marks; words = l.initial.tallies }))
