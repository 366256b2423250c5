-- A repeated location before the first wrong row decides. Assumes nothing.
use mathlib.Core.Path.{sym, ap, ◌∙◌}
use native.Mathlib.Omega.{arith}
use Rattle.std.specs.Prelude.{Err}
use lib.Seq.{length-take-le}
use Rattle.rebuild_rows.proofs.Checked.{first_le, checked_repeat, checked_first}
use Rattle.rebuild_rows.proofs.first_of.Goals as goal

pub slice_bounds-first_repeat-end : goal.slice_bounds-first_repeat-end
slice_bounds-first_repeat-end c =
    let a = c.args in
    let h = first_le a.caps.ids a.caps.slots a.ids.now a.row_locations.now c.requires.2 _ c.first_wrong-said.ensures in
    sym (length-take-le _ a.row_locations.now (omega (arith, h, c.rows_before-end.ensures)))

pub returns-then-repeat-end : goal.returns-then-repeat-end
returns-then-repeat-end c =
    let a = c.args in
    ap Err c.at.ensures ∙ checked_repeat a.caps.ids a.caps.slots a.ids.now a.row_locations.now c.requires.2 _ _ _ c.first_wrong-said.ensures c.rows_before-end.ensures c.first_repeat-repeat.ensures c.if-repeat-end.true

pub returns : goal.returns
returns c =
    let a = c.args in
    checked_first a.caps.ids a.caps.slots a.ids.now a.row_locations.now c.requires.2 _ _ _ c.first_wrong-said.ensures c.rows_before-end.ensures c.first_repeat-repeat.ensures c.if-repeat-end.false
