use Rattle.std.proofs.Common.{◌+◌, ◌≤◌, length, sym, arith}
use lib.ListN.{get_or-eq_default}
use Rattle.tables.proofs.words.get.Goals as goal

pub returns-then-words-base : goal.returns-then-words-base
returns-then-words-base c = let past : length c.args.words.now ≤ c.args.base + c.args.at = omega arith in sym (get_or-eq_default c.args.words.now 0 past)

pub returns-then-words-base-2 : goal.returns-then-words-base-2
returns-then-words-base-2 c = let past : length c.args.words.now ≤ c.args.base + c.args.at = omega arith in sym (get_or-eq_default c.args.words.now 0 past)
