-- `id_allocator::live` meets its contract: below the hint every number is taken, and from it on those that are not 0. Assumes nothing.
use mathlib.Core.Path.{ap}
use native.Mathlib.Omega.{arith}
use lib.ListN.{drop, length-drop}
use Rattle.marks.specs.Marks.{is_free, is_taken, count_if}
use Rattle.marks.proofs.LawsCount.{count_if_rest, count_if_taken_free}
use Rattle.id_allocator.proofs.LawsHinted.{hinted_at, hinted_live}
use Rattle.id_allocator.proofs.live.Goals as goal

pub overflow_sub-result : goal.overflow_sub-result
overflow_sub-result c =
    let ms = c.args.marks.now in
    let h = c.min-start.result in
    omega (arith, c.count.ensures, count_if_rest is_free ms h, count_if_taken_free (drop h ms), length-drop h ms)

pub returns : goal.returns
returns c =
    let a = c.args in
    let ms = a.marks.now in
    let h = c.min-start.result in
    omega (arith, c.count.ensures, count_if_rest is_free ms h, count_if_taken_free (drop h ms), length-drop h ms, hinted_live h ms, ap (count_if is_taken) (hinted_at a.hint h ms c.min-start.ensures))
