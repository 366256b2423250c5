-- `id_allocator::hold` meets its contract: a 0 is turned to 1, and past the end `set` changes nothing. Assumes nothing.
use mathlib.Core.Path.{sym, ap, ◌∙◌}
use lib.ListN.{get_or, set}
use lib.Seq.{set_out}
use Rattle.id_allocator.proofs.LawsHinted.{turned_hold}
use borrow.Author.Rules.{rules}
use Rattle.id_allocator.proofs.hold.Goals as goal

pub returns-then-marks-number : goal.returns-then-marks-number
returns-then-marks-number c =
    let a = c.args in
    let ms = a.marks.now in
    ap (set ms a.number) (c.turned_mark.ensures ∙ turned_hold (get_or ms a.number 0))

pub returns-else-marks-number : goal.returns-else-marks-number
returns-else-marks-number c = sym (set_out _ _ _ (search rules))
