-- The first row that is out of range. The invariant: the first bad row from row i on is the first bad row of all. Assumes nothing.
use mathlib.Core.Path.{◌∙◌}
use mathlib.Core.Bool.{true, false}
use native.Mathlib.Nat.{sub-zero}
use Rattle.batch_kept.specs.Kept.{bad_kept_row}
use Rattle.batch_kept.proofs.Laws.{row_read, first_bad_here, first_bad_next, first_bad_none}
use Rattle.batch_kept.proofs.in_range.Goals as goal

pub loop-i-init : goal.loop-i-init
loop-i-init c = rw sub-zero

pub returns-then-bad_kept : goal.returns-then-bad_kept
returns-then-bad_kept c =
    let a = c.args in
    let i = c.loop-i.i in
    let f = bad_kept_row a.ids a.slots in
    let bad = row_read f _ _ _ _ _ true c.get-id.ensures c.get-location.ensures c.bad_kept.ensures c.if-bad_kept.true in
    simp (c.at.ensures, c.loop-i.invariant, first_bad_here f a.batch.now a.n i c.loop-i-test.true bad)

pub loop-i-preserved : goal.loop-i-preserved
loop-i-preserved c =
    let a = c.args in
    let i = c.loop-i.i in
    let f = bad_kept_row a.ids a.slots in
    let good = row_read f _ _ _ _ _ false c.get-id.ensures c.get-location.ensures c.bad_kept.ensures c.if-bad_kept.false in
    c.loop-i.invariant ∙ first_bad_next f a.batch.now a.n i c.loop-i-test.true good

pub returns : goal.returns
returns c =
    let a = c.args in
    simp (c.loop-i.invariant, first_bad_none (bad_kept_row a.ids a.slots) a.batch.now a.n c.loop-i.i c.loop-i-test.false)
