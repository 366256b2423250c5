-- What the rows carry. The invariant: settling the rows from i on, in the column as it is, is settling all, in the column at entry. Assumes nothing.
use mathlib.Core.Path.{sym, ◌∙◌}
use native.Mathlib.Nat.{sub-zero, add-zero}
use Rattle.carried.specs.Carried.{width}
use Rattle.commit.proofs.LawsApply.{settle_turn, settle_none}
use Rattle.commit.proofs.settle_rows.Goals as goal

pub loop-i-init : goal.loop-i-init
loop-i-init c = rw (sub-zero, add-zero)

pub loop-i-preserved : goal.loop-i-preserved
loop-i-preserved c =
    let a = c.args in
    let l = c.loop-i in
    settle_turn width a.ids a.batch.now a.n l.i l.carried _ _ _ _ c.loop-i-test.true c.get-id.ensures c.get-location.ensures c.settle.ensures l.invariant

pub returns : goal.returns
returns c =
    let a = c.args in
    let l = c.loop-i in
    sym (settle_none width a.ids a.batch.now a.n l.i l.carried c.loop-i-test.false) ∙ l.invariant
