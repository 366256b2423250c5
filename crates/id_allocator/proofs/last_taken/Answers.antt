-- `id_allocator::last_taken` meets its contract: below the hint every number is taken, so the last is the hint's where none from it on is. Assumes nothing.
use mathlib.Core.Path.{ap}
use native.Mathlib.Omega.{arith}
use lib.ListN.{drop, length-drop}
use Rattle.marks.specs.Marks.{last_taken}
use Rattle.marks.proofs.LawsCount.{last_taken_rest, last_taken_le}
use Rattle.id_allocator.proofs.LawsHinted.{hinted_at, hinted_last_taken}
use Rattle.id_allocator.proofs.last_taken.Goals as goal

pub overflow_add-result : goal.overflow_add-result
overflow_add-result c =
    let ms = c.args.marks.now in
    let h = c.min-below.result in
    omega (arith, c.last_taken.ensures, last_taken_rest ms h, last_taken_le (drop h ms), length-drop h ms)

pub returns : goal.returns
returns c =
    let a = c.args in
    let ms = a.marks.now in
    let h = c.min-below.result in
    omega (arith, c.last_taken.ensures, last_taken_rest ms h, hinted_last_taken h ms, ap last_taken (hinted_at a.hint h ms c.min-below.ensures))
