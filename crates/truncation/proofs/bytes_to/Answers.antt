-- `truncation::bytes_to` meets its contract: the bytes up to a slot are at most 2^50 (bytes_le). Assumes nothing.
use native.Mathlib.Numerals.{add-one}
use native.Mathlib.Omega.{arith}
use Rattle.truncation.proofs.Laws.{bytes_le}
use Rattle.truncation.proofs.bytes_to.Goals as goal

pub overflow_mul-result : goal.overflow_mul-result
overflow_mul-result c = let b = bytes_le c.args.slot c.args.size c.requires.1 c.requires.0 in omega arith

pub returns : goal.returns
returns c = (simp add-one, bytes_le c.args.slot c.args.size c.requires.1 c.requires.0)
