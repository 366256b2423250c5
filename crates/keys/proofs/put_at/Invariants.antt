use mathlib.Core.Path.{◌≡◌}
use Prim.Native.Nat.{◌*◌}
use lib.ListN.{length, drop}
use Rattle.carried.specs.Carried.{width, put_rows}
use Rattle.keys.specs.Keys.{normal_rows, all_stored}
use Rattle.keys.proofs.put_at.Given as goal

abbrev pub invariant-loop-row : goal.invariant-loop-row
invariant-loop-row l =
    let i = length l.yielded in
    put_rows width (drop i l.ids) (normal_rows (drop i (all_stored l.ids)) (drop (i * width) l.fn.rows)) l.column
    ≡ put_rows width l.ids (normal_rows (all_stored l.ids) l.fn.rows) l.initial.column
