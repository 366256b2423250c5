-- `truncation::new_length` meets its contract: the target, which is at most 2^51, and a slot fit a word, and so do whole slots of them
-- (whole_lt). Assumes nothing.
use mathlib.Core.Path.{ap}
use native.Mathlib.Omega.{arith}
use Rattle.model.specs.Truncation.{whole_slots}
use Rattle.truncation.proofs.Laws.{whole_lt}
use Rattle.truncation.proofs.new_length.Goals as goal

pub overflow_mul-result : goal.overflow_mul-result
overflow_mul-result c = record { fits = whole_lt _ _ _ (omega (arith, c.target_length.ensures.1)) }

pub returns : goal.returns
returns c = ap (whole_slots c.args.size) c.target_length.ensures.0
