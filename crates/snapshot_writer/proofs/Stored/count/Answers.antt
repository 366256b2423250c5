-- `count` meets its contract. The loop's invariant: the rows counted, and those of the ids that are left, are all. The measure is the ids left.
-- Assumes nothing.
use mathlib.Core.Path.{◌∙◌}
use native.Mathlib.Omega.{arith}
use Rattle.snapshot_writer.specs.Writer.{stored_in}
use Rattle.snapshot_writer.proofs.LawsRows.{count_start, count_turn, count_done, after_le}
use Rattle.snapshot_writer.proofs.Stored.count.Goals as goal

pub loop-i-init : goal.loop-i-init
loop-i-init c = let a = c.args in ((omega arith, omega arith), count_start (stored_in a.self.ids a.self.id_marks.now a.self.locations.now a.self.tallies.now) a.self.ids)

pub after-n-requires : goal.after-n-requires
after-n-requires c =
    let v = c.loop-i.invariant.0 in
    let p = c.requires in
    let t = c.loop-i-test.true in
    omega (arith, v.0, p, t)

pub loop-i-preserved : goal.loop-i-preserved
loop-i-preserved c =
    let a = c.args in
    let l = c.loop-i in
    let t = c.loop-i-test.true in (
      (after_le l.n l.i c.after-n.result c.has.result l.invariant.0.0 c.after-n.ensures, omega (arith, t)),
      count_turn (stored_in a.self.ids a.self.id_marks.now a.self.locations.now a.self.tallies.now) a.self.ids l.i l.n c.after-n.result c.has.result t c.has.ensures c.after-n.ensures ∙ l.invariant.1,
    )

pub returns : goal.returns
returns c =
    let a = c.args in
    let l = c.loop-i in
    count_done (stored_in a.self.ids a.self.id_marks.now a.self.locations.now a.self.tallies.now) a.self.ids l.i l.n (omega (arith, c.loop-i-test.false)) ∙ l.invariant.1
