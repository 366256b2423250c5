use mathlib.Core.Path.{◌≡◌}
use lib.ListN.{length}
use lib.Seq.{sets}
use Rattle.keys.specs.Keys.{stores_of}
use Rattle.model.specs.Tables.{most_updates}
use Rattle.offer_updates.specs.Kinds.{no_kinds, kinds_of}
use Rattle.offer_updates.proofs.kinds.Given as goal

abbrev pub invariant-loop-i : goal.invariant-loop-i
invariant-loop-i l =
    (length l.slabs ≡ most_updates)
    × (sets l.slabs l.i-iterator.count (kinds_of (stores_of l.i-iterator.iter.a.rest.now) l.i-iterator.iter.b.rest.now) ≡ sets no_kinds 0 (kinds_of (stores_of l.stores) l.lengths))
