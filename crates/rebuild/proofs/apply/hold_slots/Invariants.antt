use mathlib.Core.Path.{◌≡◌}
use Rattle.model.specs.Tables.{write_all, locations_of}
use Rattle.model.specs.Rebuild.{rows_of, owned_by}
use Rattle.model.specs.MemoryAfter.{use_slots}
use Rattle.rebuild.proofs.apply.hold_slots.Given as goal

abbrev pub invariant-loop-id : goal.invariant-loop-id
invariant-loop-id l =
    (write_all l.slots (locations_of (rows_of l.id-iterator.a.rest.now l.id-iterator.b.rest.now)) 1 l.slot_marks ≡ write_all l.slots (locations_of (rows_of l.ids l.row_locations)) 1 l.initial.slot_marks)
    × (owned_by l.slots (rows_of l.id-iterator.a.rest.now l.id-iterator.b.rest.now) l.owners ≡ owned_by l.slots (rows_of l.ids l.row_locations) l.initial.owners)
    × (use_slots l.slots l.tallies (locations_of (rows_of l.id-iterator.a.rest.now l.id-iterator.b.rest.now)) ≡ use_slots l.slots l.initial.tallies (locations_of (rows_of l.ids l.row_locations)))
