use mathlib.Core.Path.{◌≡◌}
use Rattle.model.specs.Rebuild.{rows_of, held_by, located_by}
use Rattle.rebuild.proofs.apply.hold_ids.Given as goal

abbrev pub invariant-loop-id : goal.invariant-loop-id
invariant-loop-id l =
    (held_by (rows_of l.id-iterator.a.rest.now l.id-iterator.b.rest.now) l.id_marks ≡ held_by (rows_of l.ids l.row_locations) l.initial.id_marks)
    × (located_by (rows_of l.id-iterator.a.rest.now l.id-iterator.b.rest.now) l.locations ≡ located_by (rows_of l.ids l.row_locations) l.initial.locations)
