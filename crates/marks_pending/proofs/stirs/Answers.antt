-- `pending::stirs` meets its contract: where none is pending and a 0 stays, or all are held, a release changes nothing. Assumes nothing.
use mathlib.Core.Path.{sym, ◌∙◌}
use Rattle.marks.proofs.LawsCalm.{has_none, has_other_none, calm, all_held}
use Rattle.marks_pending.proofs.stirs.Goals as goal

pub returns-then-zero-eq-FREE : goal.returns-then-zero-eq-FREE
returns-then-zero-eq-FREE c =
    let ms = c.args.marks.now in
    λ h. let none = has_none 2 ms (sym c.has.ensures ∙ h) in (none, rw c.if-zero-eq-FREE.true (calm ms none))

pub returns : goal.returns
returns c = λ h. all_held c.args.zero c.args.marks.now (has_other_none 1 c.args.marks.now (sym c.has_other.ensures ∙ h))
