-- `release_part` meets its contract. The loop's invariant: the marks passed are released, the others as they were, and the count with the
-- count of the rest is the count of all. Assumes nothing.
use Rattle.std.proofs.Common.{◌≡◌, ◌≤◌, refl, arith, get_or, Bool, true, false}
use lib.Dec.{eqb}
use mir.Val.{bool_byte}
use Rattle.marks.specs.Marks.{is_pending}
use Rattle.marks.specs.Turned.{released}
use Rattle.marks.proofs.LawsCount.{weight, count_if_turn}
use Rattle.marks.proofs.LawsMapped.{mapped_next, mapped_turn}
use Rattle.marks_pending.proofs.release_part.Goals as goal

byte : (b : Bool) → (bool_byte b ≡ weight b) × (weight b ≤ 1)
byte true = (refl, omega arith)
byte false = (refl, omega arith)

pub loop-mark-preserved : goal.loop-mark-preserved
loop-mark-preserved c =
    let ms = c.args.marks.now in
    let i = c.loop-mark.mark-index in
    let f = released c.args.zero in
    let same = mapped_next f ms c.loop-mark.mark-items i (omega arith) c.loop-mark.invariant.1 in
    let next = mapped_turn f ms c.loop-mark.mark-items i (omega arith) c.loop-mark.invariant.1 _ c.released_mark.ensures in
    let more = rw (← same) at (count_if_turn is_pending ms i (omega arith)) in
    let one = byte (eqb (get_or c.loop-mark.mark-items i 0) 2) in
    (omega (arith, one), next, omega (arith, one, more))
