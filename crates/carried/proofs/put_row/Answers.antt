-- The row is copied over its part of the column. Assumes nothing.
use mathlib.Core.Path.{sym, ap, ◌∙◌}
use native.Mathlib.Omega.{arith}
use Rattle.list_parts.specs.Parts.{put_part}
use Rattle.list_parts.proofs.Parts.{put_part_range}
use Rattle.carried.specs.Carried.{width}
use Rattle.carried.proofs.Laws.{put_row_done, put_row_none}
use Rattle.carried.proofs.LawsCode.{put_row_short}
use Rattle.carried.proofs.put_row.Goals as goal

pub returns-then-row-ne-WIDTH : goal.returns-then-row-ne-WIDTH
returns-then-row-ne-WIDTH c =
    let a = c.args in
    sym (put_row_short width a.column.now a.index a.row.now c.if-row-ne-WIDTH.true)

pub returns-then-column-index : goal.returns-then-column-index
returns-then-column-index c =
    let a = c.args in
    sym (put_row_none width a.column.now a.index a.row.now (omega arith))

pub returns : goal.returns
returns c =
    let a = c.args in
    let t = a.column.now in
    put_part_range width t a.index _
    ∙ ap (put_part width t a.index) c.copy_from_slice.ensures.after
    ∙ sym (put_row_done width t a.index a.row.now (omega arith) c.if-row-ne-WIDTH.false)
