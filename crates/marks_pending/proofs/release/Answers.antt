-- `release` meets its contract. The loop's invariant: the parts passed are released, the rest as it was, and the count with the count of
-- the rest is the count of all. Assumes nothing.
use Rattle.std.proofs.Common.{◌≡◌, ap, ◌∙◌, ◌+◌, ◌-◌, ◌*◌, ◌/◌, arith, length}
use Rattle.marks.specs.Marks.{is_pending}
use Rattle.marks.specs.Turned.{released}
use Rattle.marks.proofs.LawsCount.{count_if_block, count_if_rest, count_if_le}
use Rattle.marks.proofs.LawsMapped.{mapped, mapped_length, mapped_left, mapped_part, mapped_last}
use Rattle.marks_pending.proofs.release.Goals as goal

pub loop-part-preserved : goal.loop-part-preserved
loop-part-preserved c =
    let ms = c.args.marks.now in
    let now = c.loop-part.marks in
    let f = released c.args.zero in
    let i = c.loop-part.part * 64 in
    let width : i + 64 - i ≡ 64 = omega arith in
    let next : i + (i + 64 - i) ≡ (c.loop-part.part + 1) * 64 = omega arith in
    let left = mapped_left f ms now i (omega arith) c.loop-part.invariant.1 in
    let part = mapped_part f ms now i (omega arith) c.loop-part.invariant.1 (i + 64 - i) _ c.release_some-n.ensures.1 ∙ ap (λ k. mapped f k ms) next in
    let end : i + 64 ≡ (c.loop-part.part + 1) * 64 = omega arith in
    let more = rw end at (count_if_block is_pending ms i 64) in
    (ap length part ∙ mapped_length f ((c.loop-part.part + 1) * 64) ms, part, omega (arith, rw (width, left) at c.release_some-n.ensures.0, more))

pub overflow_add-n : goal.overflow_add-n
overflow_add-n c =
    let ms = c.args.marks.now in
    let i = c.loop-part.part * 64 in
    let width : i + 64 - i ≡ 64 = omega arith in
    let left = mapped_left (released c.args.zero) ms c.loop-part.marks i (omega arith) c.loop-part.invariant.1 in
    omega (arith, rw (width, left) at c.release_some-n.ensures.0, count_if_block is_pending ms i 64, count_if_le is_pending ms)

pub returns : goal.returns
returns c =
    let ms = c.args.marks.now in
    let f = released c.args.zero in
    let i = length ms / 64 * 64 in
    let same : c.loop-part.part * 64 ≡ i = omega arith in
    let left = mapped_left f ms c.loop-part.marks i (omega arith) (rw same at c.loop-part.invariant.1) in
    let last = mapped_last f ms c.loop-part.marks i (omega arith) (rw same at c.loop-part.invariant.1) _ c.loop-part.invariant.0 c.release_some.ensures.1 in
    (omega (arith, rw same at c.loop-part.invariant.2, rw (c.loop-part.invariant.0, left) at c.release_some.ensures.0, count_if_rest is_pending ms i), last)

pub overflow_add-result : goal.overflow_add-result
overflow_add-result c = omega (arith, (returns c).0, count_if_le is_pending c.args.marks.now)
