-- `id_allocator::give_back` meets its contract: the part that is turned makes the marks from the number up to the hint count as they stand. Assumes
-- nothing.
use mathlib.Core.Path.{ap, ◌∙◌}
use Prim.Native.Nat.{max}
use lib.ListN.{set}
use borrow.Author.Tests.{lt-ltb, le-ltb}
use Rattle.id_allocator.specs.Written.{given_back, hint_back}
use Rattle.id_allocator.proofs.LawsHinted.{opened_part}
use borrow.Author.Rules.{rules}
use Rattle.id_allocator.proofs.give_back.Goals as goal

pub returns-then-marks-number : goal.returns-then-marks-number
unfolding given_back hint_back
returns-then-marks-number c = let out = le-ltb _ _ c.if-marks-number.true in (simp out, simp out)

pub returns : goal.returns
unfolding given_back hint_back
returns c =
    let a = c.args in
    let inside = lt-ltb _ _ c.if-marks-number.false in
    let end = c.max-end.ensures ∙ ap (max a.number) c.min.ensures in
    let opened-now = opened_part a.hint a.number _ a.marks.now _ (search rules) end c.turn.ensures in
    (simp inside c.min-2.ensures, simp inside (ap (λ l. set l a.number 0) opened-now))
