-- `id_allocator::is_held` meets its contract: by what the mark is, its number past the end, 0, 2 or any other. Assumes nothing.
use mathlib.Core.Path.{sym, ◌∙◌, ap}
use mathlib.Core.Bool.{not}
use borrow.Author.Tests.{ne_eqb}
use Rattle.id_allocator.proofs.LawsCounted.{is_held_past, is_held_free, is_held_pending, is_held_held}
use borrow.Author.Rules.{rules}
use Rattle.id_allocator.proofs.is_held.Goals as goal

pub returns-then-marks-number : goal.returns-then-marks-number
returns-then-marks-number c = sym (is_held_past _ _ _ _ c.if-marks-number.true)

pub returns-then-mark-eq-FREE : goal.returns-then-mark-eq-FREE
returns-then-mark-eq-FREE c = let a = c.args in sym (is_held_free a.hint a.waiting a.marks.now a.number (search rules) c.if-mark-eq-FREE.true)

pub returns-then-mark-ne-PENDING : goal.returns-then-mark-ne-PENDING
returns-then-mark-ne-PENDING c = ap not (ne_eqb _ _ c.if-mark-ne-PENDING.true) ∙ sym (is_held_held _ _ _ _ c.if-mark-eq-FREE.false c.if-mark-ne-PENDING.true)

pub returns-else-mark-ne-PENDING : goal.returns-else-mark-ne-PENDING
returns-else-mark-ne-PENDING c = sym (is_held_pending _ _ _ _ c.if-mark-ne-PENDING.false)
