-- `id_allocator::put` meets its contract: past the end `set` changes nothing. Assumes nothing.
use mathlib.Core.Path.{sym}
use lib.Seq.{set_out}
use borrow.Author.Rules.{rules}
use Rattle.id_allocator.proofs.put.Goals as goal

pub returns-else-number-marks : goal.returns-else-number-marks
returns-else-number-marks c = sym (set_out _ _ _ (search rules))
