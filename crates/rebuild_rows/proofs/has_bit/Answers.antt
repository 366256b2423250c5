-- `rows::has_bit` meets its contract: a shift is a division by the bit's weight. Assumes nothing.
use Rattle.rebuild_rows.specs.Checks.{has_bit}
use borrow.Author.Rules.{rules}
use Rattle.rebuild_rows.proofs.has_bit.Goals as goal

pub returns : goal.returns
unfolding has_bit
returns c = search rules
