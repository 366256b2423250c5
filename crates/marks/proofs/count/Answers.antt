-- `count` meets its contract. The loop's invariant: what is counted and what is left to count make the count of all. Assumes nothing.
use Rattle.std.proofs.Common.{◌≡◌, take, arith}
use Rattle.marks.specs.Marks.{count_if}
use Rattle.marks.specs.Turned.{is_mark}
use Rattle.marks.proofs.LawsCount.{count_if_split, count_if_le}
use Rattle.marks.proofs.count.Goals as goal

pub loop-part-preserved : goal.loop-part-preserved
loop-part-preserved c =
    let p = is_mark c.args.mark in
    let counted : c.count_part.result ≡ count_if p (take 192 c.loop-part.left.now) = rw (← c.in-Some.ensures.cases.0) c.count_part.ensures in
    rw (c.in-Some.ensures.cases.1) (omega (arith, counted, c.loop-part.invariant, count_if_split p c.loop-part.left.now 192))

pub overflow_add-n : goal.overflow_add-n
overflow_add-n c = omega (arith, loop-part-preserved c, count_if_le (is_mark c.args.mark) c.args.marks.now)

pub overflow_add-result : goal.overflow_add-result
overflow_add-result c =
    let p = is_mark c.args.mark in
    omega (arith, c.count_part-2.ensures, c.loop-part.invariant, count_if_le p c.args.marks.now)
