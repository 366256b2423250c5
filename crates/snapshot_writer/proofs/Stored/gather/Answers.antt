-- `gather` meets its contract. The loop's invariant: the ids in the list, and as many of those left as it has room for, are the first 5 of the whole; what
-- comes after them is what comes after those 5. The measure is the ids left. Assumes nothing.
use mathlib.Core.Path.{refl, ◌∙◌}
use Prim.Native.Nat.{◌-◌}
use native.Mathlib.Omega.{arith}
use lib.ListN.{length-set}
use borrow.Author.Tests.{ltb-true, ltb-false}
use Rattle.model.specs.Snapshots.{those_from}
use Rattle.snapshot_writer.specs.Writer.{stored_in}
use Rattle.snapshot_writer.proofs.LawsRows.{gathered_turn, gathered_done, gathered_full, after_few}
use Rattle.snapshot_writer.proofs.Stored.gather.Goals as goal

pub loop-i-init : goal.loop-i-init
loop-i-init c = ((refl, (omega arith, c.requires.1.1)), (refl, refl))

pub bounds-list-n : goal.bounds-list-n
bounds-list-n c =
    let v = c.loop-i.invariant.0.0 in
    let p = c.requires.0 in
    let u = ltb-true c.loop-i.n 5 c.if-n-lt-PER_BLOCK.true-raw in
    omega (arith, v, p, u)

pub loop-i-preserved : goal.loop-i-preserved
loop-i-preserved c =
    let a = c.args in
    let p = c.requires in
    let l = c.loop-i in
    let v = l.invariant in
    let t = c.loop-i-test.true in
    let u = ltb-true l.n 5 c.if-n-lt-PER_BLOCK.true-raw in (
      (length-set l.list l.n l.i ∙ v.0.0, (after_few l.n c.after-n.result c.has-stored.result u c.after-n.ensures, omega (arith, t))),
      gathered_turn (stored_in a.self.ids a.self.id_marks.now a.self.locations.now a.self.tallies.now) a.self.ids l.i (those_from (stored_in a.self.ids a.self.id_marks.now a.self.locations.now a.self.tallies.now) (a.self.ids - a.from) a.from)
          l.list l.n c.after-n.result c.has-stored.result t u (omega (arith, v.0.0, p.0, u)) c.has-stored.ensures c.after-n.ensures v.1,
    )

pub returns-else-n-lt-PER_BLOCK : goal.returns-else-n-lt-PER_BLOCK
returns-else-n-lt-PER_BLOCK c =
    let a = c.args in
    let l = c.loop-i in (
      l.invariant.0.1,
      gathered_full (stored_in a.self.ids a.self.id_marks.now a.self.locations.now a.self.tallies.now) a.self.ids l.i (those_from (stored_in a.self.ids a.self.id_marks.now a.self.locations.now a.self.tallies.now) (a.self.ids - a.from) a.from)
          l.list l.n (ltb-false l.n 5 c.if-n-lt-PER_BLOCK.false-raw) l.invariant.1,
    )

pub returns-after-loop-i : goal.returns-after-loop-i
returns-after-loop-i c =
    let a = c.args in
    let l = c.loop-i in (
      l.invariant.0.1,
      gathered_done (stored_in a.self.ids a.self.id_marks.now a.self.locations.now a.self.tallies.now) a.self.ids l.i (those_from (stored_in a.self.ids a.self.id_marks.now a.self.locations.now a.self.tallies.now) (a.self.ids - a.from) a.from)
          l.list l.n c.loop-i-test.false l.invariant.1,
    )
