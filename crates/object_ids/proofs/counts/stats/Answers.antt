-- `object_ids::stats` meets its contract: the one test on lengths, then each sum by its callee (counters_answer). Assumes nothing.
use Rattle.std.proofs.Common.{sym, ◌∙◌, arith}
use Rattle.model.specs.Verdict.{test}
use Rattle.object_ids.proofs.LawsCounts.{counters_answer, tallies_long}
use Rattle.object_ids.proofs.counts.stats.Goals as goal

pub returns-then-not-tallies_fit : goal.returns-then-not-tallies_fit
unfolding test
returns-then-not-tallies_fit c = rw counters_answer (simp (c.of.ensures, sym c.tallies_fit.ensures ∙ c.if-not-tallies_fit.true))

pub slots_sum-requires : goal.slots_sum-requires
slots_sum-requires c = let l = tallies_long _ _ _ (sym c.tallies_fit.ensures ∙ c.if-not-tallies_fit.false) in omega arith

pub slots_sum-requires-2 : goal.slots_sum-requires-2
slots_sum-requires-2 c = let l = tallies_long _ _ _ (sym c.tallies_fit.ensures ∙ c.if-not-tallies_fit.false) in omega arith

pub returns : goal.returns
unfolding test
returns c =
    rw counters_answer (simp (c.get.ensures, c.get-2.ensures, c.slots_sum.ensures, c.slots_sum-2.ensures, sym c.tallies_fit.ensures ∙ c.if-not-tallies_fit.false))
