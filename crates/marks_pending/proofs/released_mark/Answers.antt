-- `pending::released_mark` meets its contract: a mark is turned twice. Assumes nothing.
use mathlib.Core.Path.{ap, ◌∙◌}
use Rattle.marks.specs.Marks.{let_go}
use Rattle.marks_pending.proofs.released_mark.Goals as goal

pub returns : goal.returns
returns c = c.turned_mark-2.ensures ∙ ap let_go c.turned_mark.ensures
