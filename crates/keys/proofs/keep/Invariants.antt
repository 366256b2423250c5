use mathlib.Core.Path.{◌≡◌}
use Prim.Native.Nat.{◌+◌, ◌-◌, ◌*◌}
use lib.ListN.{length, drop}
use Rattle.carried.specs.Carried.{width, put_rows, up_from}
use Rattle.keys.specs.Keys.{normal_rows, stores_of}
use Rattle.keys.proofs.keep.Given as goal

abbrev pub invariant-loop-i : goal.invariant-loop-i
invariant-loop-i l =
    put_rows width (up_from (l.first + l.i) (length l.stores - l.i)) (normal_rows (drop l.i (stores_of l.stores)) (drop (l.i * width) l.fn.rows)) l.column
    ≡ put_rows width (up_from l.first (length l.stores)) (normal_rows (stores_of l.stores) l.fn.rows) l.initial.column
