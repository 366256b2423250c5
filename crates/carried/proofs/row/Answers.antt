-- A row that the column has is its part; where it has none, there are no bytes. Assumes nothing.
use mathlib.Core.Path.{sym, ◌∙◌}
use native.Mathlib.Omega.{arith}
use Rattle.list_parts.proofs.Parts.{part_range}
use Rattle.carried.specs.Carried.{width}
use Rattle.carried.proofs.Laws.{row_in_part}
use Rattle.carried.proofs.LawsCode.{row_in_none}
use Rattle.carried.proofs.row.Goals as goal

pub returns-then-column-index : goal.returns-then-column-index
returns-then-column-index c =
    sym (row_in_none width c.args.column.now c.args.index (omega arith))

pub returns : goal.returns
returns c =
    part_range width c.args.column.now c.args.index
    ∙ sym (row_in_part width c.args.column.now c.args.index (omega arith))
