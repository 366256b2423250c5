use Rattle.std.proofs.Common.{sym, ◌∙◌, arith}
use borrow.Author.Tests.{not-true, not-false}
use Rattle.model.proofs.Sizes.{capacities_range}
use Rattle.tables.proofs.capacities.Capacities.slots_fit.Goals as goal

pub returns-then-not-good : goal.returns-then-not-good
returns-then-not-good c = simp (sym c.good.ensures ∙ not-true _ c.if-not-good.true-raw)

pub overflow_mul-result : goal.overflow_mul-result
overflow_mul-result c = let r = capacities_range _ _ (sym c.good.ensures ∙ not-false _ c.if-not-good.false-raw) in omega arith

pub returns : goal.returns
returns c = simp (sym c.good.ensures ∙ not-false _ c.if-not-good.false-raw)
