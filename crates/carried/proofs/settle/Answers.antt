-- A Free stores zeros; any other the row that was copied out. Where that is not in the column nothing is stored. Assumes nothing.
use mathlib.Core.Path.{ap, ◌∙◌}
use native.Mathlib.Omega.{arith}
use Rattle.carried.specs.Carried.{width, put_row}
use Rattle.carried.proofs.LawsCode.{settle_none, settle_own, kept_row_free}
use Rattle.carried.proofs.settle.Goals as goal

pub returns-then-location-eq0 : goal.returns-then-location-eq0
returns-then-location-eq0 c =
    let a = c.args in
    c.put_row.ensures
    ∙ ap (put_row width a.column.now a.id) (kept_row_free width a.column.now a.kept a.location c.if-location-eq0.true)

pub returns-then-own-ne-WIDTH : goal.returns-then-own-ne-WIDTH
returns-then-own-ne-WIDTH c =
    let a = c.args in
    settle_none width a.column.now _ a.kept a.location (omega arith) c.if-location-eq0.false c.row-own.ensures a.id c.if-own-ne-WIDTH.true

pub returns : goal.returns
returns c =
    let a = c.args in
    let t = a.column.now in
    c.put_row-2.ensures
    ∙ ap (put_row width t a.id) (c.copy_from_slice.ensures.after
    ∙ settle_own width t _ a.kept a.location (omega arith) c.if-location-eq0.false c.row-own.ensures c.if-own-ne-WIDTH.false)
