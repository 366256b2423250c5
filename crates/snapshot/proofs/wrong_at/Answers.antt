-- The tests of `wrong_at` in their order; a part of the file is one of its blocks (`part_block`, `part_before`).
use mathlib.Core.Path.{refl, sym, ◌∙◌}
use Prim.Native.Nat.{◌*◌}
use native.Mathlib.Omega.{arith}
use borrow.Author.Tests.{not-true, not-false}
use Rattle.snapshot_blocks.specs.Formats.{format_of}
use Rattle.snapshot.specs.Snapshot.{format_at, wrong_at}
use Rattle.snapshot.proofs.Turns.{place_end, part_block, part_before, wrong_at_in, wrong_at_first, wrong_at_known, wrong_at_follows, wrong_at_not}
use Rattle.snapshot.proofs.wrong_at.Goals as goal

pub returns-then-not-is_place : goal.returns-then-not-is_place
unfolding wrong_at
returns-then-not-is_place c = simp (sym c.is_place.ensures ∙ not-true _ c.if-not-is_place.true-raw)

pub overflow_mul-start : goal.overflow_mul-start
overflow_mul-start c = omega (arith, place_end _ _ (sym c.is_place.ensures ∙ not-false _ c.if-not-is_place.false-raw))

pub overflow_add-end : goal.overflow_add-end
overflow_add-end c = omega (arith, place_end _ _ (sym c.is_place.ensures ∙ not-false _ c.if-not-is_place.false-raw))

pub slice_bounds-block-end : goal.slice_bounds-block-end
slice_bounds-block-end c = place_end _ _ (sym c.is_place.ensures ∙ not-false _ c.if-not-is_place.false-raw)

pub returns-in-Some : goal.returns-in-Some
returns-in-Some c =
    let n = c.args.number in
    let file = c.args.file.now in
    let p = sym c.is_place.ensures ∙ not-false _ c.if-not-is_place.false-raw in
    let e = rw (part_block n (512 * n) file refl) at c.wrong_in.ensures in
    wrong_at_in (format_at format_of n file) n file _ p e _ c.in-Some.is

pub returns-then-number-eq0 : goal.returns-then-number-eq0
returns-then-number-eq0 c =
    let n = c.args.number in
    let file = c.args.file.now in
    let p = sym c.is_place.ensures ∙ not-false _ c.if-not-is_place.false-raw in
    let e = rw (part_block n (512 * n) file refl) at c.wrong_in.ensures in
    wrong_at_first (format_at format_of n file) n file _ p e c.in_default.is c.if-number-eq0.true

pub slice_bounds-follows_on-end : goal.slice_bounds-follows_on-end
slice_bounds-follows_on-end c = omega (arith, place_end _ _ (sym c.is_place.ensures ∙ not-false _ c.if-not-is_place.false-raw))

pub follows_on-requires : goal.follows_on-requires
follows_on-requires c =
    let n = c.args.number in
    let file = c.args.file.now in
    let p = sym c.is_place.ensures ∙ not-false _ c.if-not-is_place.false-raw in
    let e = rw (part_block n (512 * n) file refl) at c.wrong_in.ensures in
    rw (part_block n (512 * n) file refl) (wrong_at_known (format_at format_of n file) n file _ p e c.in_default.is)

pub returns-then-not-follows_on : goal.returns-then-not-follows_on
returns-then-not-follows_on c =
    let n = c.args.number in
    let file = c.args.file.now in
    let p = sym c.is_place.ensures ∙ not-false _ c.if-not-is_place.false-raw in
    let e = rw (part_block n (512 * n) file refl) at c.wrong_in.ensures in
    let q = rw (part_before n file c.if-number-eq0.false, part_block n (512 * n) file refl) at c.follows_on.ensures in
    wrong_at_not (format_at format_of n file) n file _ p e c.in_default.is c.if-number-eq0.false _ q (not-true _ c.if-not-follows_on.true-raw)

pub returns : goal.returns
returns c =
    let n = c.args.number in
    let file = c.args.file.now in
    let p = sym c.is_place.ensures ∙ not-false _ c.if-not-is_place.false-raw in
    let e = rw (part_block n (512 * n) file refl) at c.wrong_in.ensures in
    let q = rw (part_before n file c.if-number-eq0.false, part_block n (512 * n) file refl) at c.follows_on.ensures in
    wrong_at_follows (format_at format_of n file) n file _ p e c.in_default.is c.if-number-eq0.false _ q (not-false _ c.if-not-follows_on.false-raw)
