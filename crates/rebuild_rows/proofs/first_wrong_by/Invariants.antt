use mathlib.Core.Path.{◌≡◌}
use Rattle.model.specs.Rebuild.{rows_of}
use Rattle.rebuild_rows.specs.Checks.{first_wrong}
use Rattle.rebuild_rows.proofs.first_wrong_by.Given as goal

abbrev pub invariant-loop-i : goal.invariant-loop-i
invariant-loop-i l =
    first_wrong l.caps.ids l.caps.slots l.seen l.i-iterator.count (rows_of l.i-iterator.iter.a.rest.now l.i-iterator.iter.b.rest.now)
    ≡ first_wrong l.caps.ids l.caps.slots l.initial.seen 0 (rows_of l.ids l.row_locations)
