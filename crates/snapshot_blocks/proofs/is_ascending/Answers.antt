-- The invariant: from row i on the rows ascend above the row before exactly if all ascend, in every format of this width.
use mathlib.Core.Path.{refl, sym, ◌∙◌}
use native.Mathlib.Omega.{arith}
use Rattle.snapshot_blocks.proofs.Turns.{start_le, next_start, above_turn, above_not, above_done, above_first}
use Rattle.snapshot_blocks.proofs.is_ascending.Goals as goal

pub loop-i-init : goal.loop-i-init
loop-i-init c = let a = c.args in λ f w. above_first f a.rows.now a.count a.width _ w c.get_at-before.ensures

pub overflow_mul-start : goal.overflow_mul-start
overflow_mul-start c = omega (arith, start_le c.args.width c.loop-i.i c.requires.0 (omega (arith, c.requires.1, c.loop-i-test.true)))

pub returns-then-id-before : goal.returns-then-id-before
returns-then-id-before c = λ f w. sym (above_not f _ _ _ _ c.loop-i-test.true _ _ c.get_at-id.ensures c.if-id-before.true) ∙ c.loop-i.invariant f w

pub loop-i-preserved : goal.loop-i-preserved
loop-i-preserved c =
    let a = c.args in
    let v = c.loop-i in
    λ f w. above_turn f a.rows.now a.count _ _ c.loop-i-test.true _ _ a.width _ w (next_start a.width v.i _ refl) c.get_at-id.ensures c.if-id-before.false ∙ v.invariant f w

pub returns : goal.returns
returns c =
    let a = c.args in
    let v = c.loop-i in
    λ f w. sym (above_done f a.rows.now a.count v.i _ v.before c.loop-i-test.false) ∙ v.invariant f w
