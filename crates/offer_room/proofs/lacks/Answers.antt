-- `room::lacks` meets its contract: what is free is free from the hint on. Assumes nothing.
use mathlib.Core.Path.{sym, ap, ◌∙◌}
use Prim.Native.Nat.{ℕ}
use native.Mathlib.Omega.{arith}
use lib.Dec.{ltb}
use lib.ListN.{drop, length-drop}
use borrow.Author.Tests.{lt-ltb}
use Rattle.marks.specs.Marks.{is_free, count_if}
use Rattle.id_allocator.specs.Counted.{hinted}
use Rattle.marks.proofs.LawsCount.{count_if_rest, count_if_taken_free}
use Rattle.id_allocator.proofs.LawsHinted.{hinted_free}
use Rattle.offer_room.proofs.lacks.Goals as goal

pub returns-then-marks-hint : goal.returns-then-marks-hint
returns-then-marks-hint c =
    let a = c.args in
    let ms = a.marks.now in
    sym (lt-ltb (count_if is_free (hinted a.hint ms)) a.asked
    (omega (arith, hinted_free a.hint ms, count_if_taken_free (drop a.hint ms), length-drop a.hint ms, c.if-marks-hint.true, c.if-asked-lt-MANY.false)))

pub returns : goal.returns
returns c =
    let a = c.args in
    let ms = a.marks.now in
    c.lacks_many.ensures ∙ ap (λ (n : ℕ). ltb n a.asked) (count_if_rest is_free ms a.hint ∙ sym (hinted_free a.hint ms))
