use mathlib.Core.Path.{◌≡◌}
use Prim.Native.Nat.{◌+◌, ◌*◌}
use lib.ListN.{drop}
use Rattle.carried.specs.Carried.{width}
use Rattle.keys.specs.Keys.{long_in, stores_of, first_met}
use Rattle.keys.proofs.first_long.Given as goal

abbrev pub invariant-loop-i : goal.invariant-loop-i
invariant-loop-i l =
    first_met (long_in (stores_of l.stores) l.fn.rows) ≡ l.i + first_met (long_in (drop l.i (stores_of l.stores)) (drop (l.i * width) l.fn.rows))
