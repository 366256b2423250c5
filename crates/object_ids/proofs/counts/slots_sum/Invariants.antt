use Rattle.std.proofs.Common.{◌≡◌, ◌≤◌, drop}
use Rattle.model.specs.Ids.{sum}
use Rattle.object_ids.proofs.LawsCounts.{words}
use Rattle.object_ids.proofs.counts.slots_sum.Given as goal

abbrev pub invariant-loop-slab : goal.invariant-loop-slab
invariant-loop-slab l = (1 ≤ l.slab) × (l.total ≡ sum (drop l.slab (words l.tallies l.base)))
