-- `room::lacks_few` meets its contract. The loop's invariant: what is free in all is what is free from here on and the searches so far, since
-- each search that succeeds passes one free number (smallest_free_count). Assumes nothing.
use Rattle.std.proofs.Common.{sym, arith}
use borrow.Author.Tests.{lt-ltb, le-ltb}
use Rattle.marks.specs.Marks.{is_free, count_if}
use Rattle.id_allocator.specs.Counted.{hinted}
use Rattle.marks.proofs.LawsFree.{smallest_free_count}
use Rattle.id_allocator.proofs.LawsHinted.{hinted_length}
use Rattle.offer_room.proofs.Laws.{none_left}
use Rattle.offer_room.proofs.lacks_few.Goals as goal

pub returns-then-marks-at : goal.returns-then-marks-at
returns-then-marks-at c =
    let a = c.args in
    let ms = hinted a.hint a.marks.now in
    let n = none_left c.loop.from ms (omega (arith, hinted_length a.hint a.marks.now)) in
    sym (lt-ltb (count_if is_free ms) a.asked (omega (arith, n)))

pub loop-preserved : goal.loop-preserved
loop-preserved c =
    let a = c.args in
    let ms = hinted a.hint a.marks.now in
    let n = smallest_free_count c.loop.from c.smallest_free-at.result ms c.smallest_free-at.ensures (omega (arith, hinted_length a.hint a.marks.now)) in
    (omega arith, omega (arith, n))

pub returns : goal.returns
returns c =
    let a = c.args in
    sym (le-ltb (count_if is_free (hinted a.hint a.marks.now)) a.asked (omega arith))
