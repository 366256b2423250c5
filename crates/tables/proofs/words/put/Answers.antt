use Rattle.std.proofs.Common.{sym, arith}
use lib.Seq.{set_out}
use Rattle.tables.proofs.words.put.Goals as goal

pub returns-then-words-base : goal.returns-then-words-base
returns-then-words-base c = sym (set_out c.args.words.now _ c.args.value (omega arith))

pub returns-then-words-base-2 : goal.returns-then-words-base-2
returns-then-words-base-2 c = sym (set_out c.args.words.now _ c.args.value (omega arith))
