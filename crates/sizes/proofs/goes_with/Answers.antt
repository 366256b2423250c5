use mathlib.Core.Path.{sym, ◌∙◌}
use borrow.Author.Tests.{eq-eqb, ne_eqb}
use Rattle.sizes.specs.OddPart.{goes}
use Rattle.sizes.proofs.goes_with.Goals as goal

pub returns-then-odd-eq1 : goal.returns-then-odd-eq1
unfolding goes
returns-then-odd-eq1 c = c.within.ensures ∙ simp (eq-eqb _ _ c.if-odd-eq1.true)

pub returns-then-odd-eq3 : goal.returns-then-odd-eq3
unfolding goes
returns-then-odd-eq3 c = c.within-then-odd-eq3.ensures ∙ simp (ne_eqb _ _ c.if-odd-eq1.false, eq-eqb _ _ c.if-odd-eq3.true)

pub returns-then-within : goal.returns-then-within
unfolding goes
returns-then-within c =
    simp (ne_eqb _ _ c.if-odd-eq1.false, ne_eqb _ _ c.if-odd-eq3.false, eq-eqb _ _ c.if-odd-eq5.true, sym c.within-then-odd-eq5.ensures, c.if-within.true)

pub returns-else-within : goal.returns-else-within
unfolding goes
returns-else-within c =
    simp (ne_eqb _ _ c.if-odd-eq1.false, ne_eqb _ _ c.if-odd-eq3.false, eq-eqb _ _ c.if-odd-eq5.true, sym c.within-then-odd-eq5.ensures, c.if-within.false)

pub returns-then-odd-eq7 : goal.returns-then-odd-eq7
unfolding goes
returns-then-odd-eq7 c =
    c.within-then-odd-eq7.ensures ∙ simp (ne_eqb _ _ c.if-odd-eq1.false, ne_eqb _ _ c.if-odd-eq3.false, ne_eqb _ _ c.if-odd-eq5.false, eq-eqb _ _ c.if-odd-eq7.true)

pub returns : goal.returns
unfolding goes
returns c =
    simp (ne_eqb _ _ c.if-odd-eq1.false, ne_eqb _ _ c.if-odd-eq3.false, ne_eqb _ _ c.if-odd-eq5.false, ne_eqb _ _ c.if-odd-eq7.false)
