use borrow.Author.Tests.{eq-eqb, ne_eqb}
use Rattle.marks.proofs.turned_mark.Goals as goal

pub returns-then-mark-old : goal.returns-then-mark-old
returns-then-mark-old c = simp (eq-eqb _ _ c.if-mark-old.true)

pub returns-else-mark-old : goal.returns-else-mark-old
returns-else-mark-old c = simp (ne_eqb _ _ c.if-mark-old.false)
