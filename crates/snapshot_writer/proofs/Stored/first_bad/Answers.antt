-- `first_bad` meets its contract. The loop's invariant: what the rows of the ids left say, from the present row's index on, is what all rows say. The
-- measure is the ids left. Assumes nothing.
use mathlib.Core.Path.{◌∙◌}
use native.Mathlib.Omega.{arith}
use Rattle.snapshot_writer.specs.Writer.{stored_in, not_own}
use Rattle.snapshot_writer.proofs.LawsRows.{rows_start, rows_turn, rows_bad, rows_done, refused_row, after_le}
use Rattle.snapshot_writer.proofs.Stored.first_bad.Goals as goal

pub loop-i-init : goal.loop-i-init
loop-i-init c =
    let a = c.args in (
      (omega arith, omega arith),
      rows_start (stored_in a.self.ids a.self.id_marks.now a.self.locations.now a.self.tallies.now) a.self.ids (not_own a.slots a.self.locations.now a.slot_marks.now a.owners.now a.self.tallies.now),
    )

pub returns-then-bad_row : goal.returns-then-bad_row
returns-then-bad_row c =
    let a = c.args in
    let l = c.loop-i in
    refused_row c.at.result l.row c.at.ensures
    ∙ rows_bad (stored_in a.self.ids a.self.id_marks.now a.self.locations.now a.self.tallies.now) a.self.ids l.i (not_own a.slots a.self.locations.now a.slot_marks.now a.owners.now a.self.tallies.now)
    l.row c.has-stored.result c.bad_row.result c.loop-i-test.true c.has-stored.ensures c.bad_row.ensures c.if-bad_row.true
    ∙ l.invariant.1

pub after-row-requires : goal.after-row-requires
after-row-requires c =
    let v = c.loop-i.invariant.0 in
    let p = c.requires in
    let t = c.loop-i-test.true in
    omega (arith, v.0, p, t)

pub loop-i-preserved : goal.loop-i-preserved
loop-i-preserved c =
    let a = c.args in
    let l = c.loop-i in
    let t = c.loop-i-test.true in (
      (after_le l.row l.i c.after-row.result c.has-stored.result l.invariant.0.0 c.after-row.ensures, omega (arith, t)),
      rows_turn (stored_in a.self.ids a.self.id_marks.now a.self.locations.now a.self.tallies.now) a.self.ids l.i (not_own a.slots a.self.locations.now a.slot_marks.now a.owners.now a.self.tallies.now)
          l.row c.after-row.result c.has-stored.result c.bad_row.result t c.has-stored.ensures c.bad_row.ensures c.if-bad_row.false c.after-row.ensures
          ∙ l.invariant.1,
    )

pub returns : goal.returns
returns c =
    let a = c.args in
    let l = c.loop-i in
    rows_done (stored_in a.self.ids a.self.id_marks.now a.self.locations.now a.self.tallies.now) a.self.ids l.i (not_own a.slots a.self.locations.now a.slot_marks.now a.owners.now a.self.tallies.now)
    l.row (omega (arith, c.loop-i-test.false)) ∙ l.invariant.1
