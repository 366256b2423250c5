-- `tables::all_hold` meets its contract: the tests, joined one after the other. Assumes nothing.
use Rattle.std.proofs.Common.{◌∙◌}
use Rattle.tables.proofs.shapes.all_hold.Goals as goal

pub returns : goal.returns
returns c = c.both-7.ensures ∙ simp (c.both-6.ensures, c.both-5.ensures, c.both-4.ensures, c.both-3.ensures, c.both-2.ensures, c.both.ensures, c.good.ensures)
