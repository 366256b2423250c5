use mathlib.Core.Path.{◌≡◌}
use Prim.Native.Nat.{ℕ, ◌+◌, ◌<◌}
use lib.ListN.{length, get_or}
use Rattle.model.specs.Tables.{most_updates}
use Rattle.offer_updates.proofs.locations_of.Given as goal

abbrev pub invariant-loop-i : goal.invariant-loop-i
invariant-loop-i l = (length l.found ≡ most_updates) × ((k : ℕ) → k < l.i → k < most_updates → get_or l.found k 0 ≡ get_or l.locations (0 + get_or l.ids k 0) 0)
