-- `object_ids::slots_sum` meets its contract. The loop's invariant: the total is the sum of the words from `slab` on, and a turn puts one more
-- in front (sum_turn). Assumes nothing.
use Rattle.std.proofs.Common.{◌+◌, ◌%◌, ◌^◌, ap, ◌∙◌, arith}
use Rattle.object_ids.proofs.LawsCounts.{sum_end, sum_turn}
use Rattle.object_ids.proofs.counts.slots_sum.Goals as goal

pub loop-slab-init : goal.loop-slab-init
loop-slab-init c = (omega arith, sum_end c.args.tallies.now c.args.base c.requires)

pub loop-slab-preserved : goal.loop-slab-preserved
loop-slab-preserved c =
    let a = c.args in
    let l = c.loop-slab in (
      omega arith,
      ap (λ x. (x + l.total) % 2 ^ 64) c.get-total.ensures ∙ sum_turn a.tallies.now a.base l.slab l.total c.requires (omega arith) (omega arith) l.invariant.1,
    )
