-- `id_allocator::release` meets its contract: the part below the hint, where a 0 counts as held, and the rest. Assumes nothing.
use native.Mathlib.Omega.{arith}
use Rattle.marks.specs.Marks.{is_pending}
use Rattle.id_allocator.specs.Counted.{hinted}
use Rattle.marks.proofs.LawsCount.{count_if_le}
use Rattle.id_allocator.proofs.LawsHinted.{hinted_length}
use Rattle.id_allocator.proofs.LawsReleased.{released_below, released_count, released_marks}
use Rattle.id_allocator.proofs.release.Goals as goal

pub overflow_add-result : goal.overflow_add-result
overflow_add-result c =
    let a = c.args in
    let ms = a.marks.now in
    let below = released_below ms _ c.min-end.result c.release-below.ensures.1 in
    omega (arith, released_count a.hint c.min-end.result ms _ c.min-end.ensures below _ _ c.release-below.ensures.0 c.release.ensures.0, count_if_le is_pending (hinted a.hint ms), hinted_length a.hint ms)

pub returns : goal.returns
returns c =
    let a = c.args in
    let ms = a.marks.now in
    let end = c.min-end.ensures in
    let below = released_below ms _ c.min-end.result c.release-below.ensures.1 in
    (released_count a.hint _ ms _ end below _ _ c.release-below.ensures.0 c.release.ensures.0, released_marks a.hint _ ms _ end below _ c.release.ensures.1)
