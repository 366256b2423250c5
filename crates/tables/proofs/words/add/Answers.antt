use Rattle.tables.proofs.Laws.{bump_nonzero}
use Rattle.tables.proofs.words.add.Goals as goal

pub returns : goal.returns
returns c = cc (bump_nonzero c.args.words.now c.args.base c.args.at c.args.more c.if-more-eq0.false)
