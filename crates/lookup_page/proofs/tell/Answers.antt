-- The invariant: the rows of the ids from p on, put into the lists as they are now, give what the rows of all ids give in the lists as they were.
-- Assumes nothing.
use mathlib.Core.Path.{sym, ap, ◌∙◌}
use lib.ListN.{length, length-set}
use Rattle.carried.specs.Carried.{width}
use Rattle.carried.proofs.Laws.{length_put_row}
use Rattle.lookup_page.specs.Rows.{told_in, put_number, put_location, put_carried}
use Rattle.lookup_page.proofs.Laws.{told_row, written_turn, written_end}
use Rattle.lookup_page.proofs.tell.Goals as goal

pub loop-p-preserved : goal.loop-p-preserved
loop-p-preserved c =
    let a = c.args in
    let l = c.loop-p in
    let t = c.loop-p-test.true in
    let e = c.put_told.ensures in
    let f = told_in a.caps.ids a.caps.slots a.id_marks.now a.locations.now a.slot_marks.now a.owners.now a.tallies.now a.carried.now in
    let q = told_row a.caps.ids a.caps.slots a.id_marks.now a.locations.now a.slot_marks.now a.owners.now a.tallies.now a.carried.now _ c.locate-looked.result _ c.locate-looked.ensures c.row.ensures in (
      (
        ap length e.0 ∙ length-set l.numbers l.p _ ∙ l.invariant.0.0,
        ap length e.1 ∙ length-set l.found l.p _ ∙ l.invariant.0.1,
        ap length e.2 ∙ length_put_row width l.rows l.p _ ∙ l.invariant.0.2,
      ),
      (
        written_turn put_number f a.asked.now l.numbers l.p t _ (e.0 ∙ ap (put_number l.numbers l.p) q) ∙ l.invariant.1.0,
        written_turn put_location f a.asked.now l.found l.p t _ (e.1 ∙ ap (put_location l.found l.p) q) ∙ l.invariant.1.1,
        written_turn put_carried f a.asked.now l.rows l.p t _ (e.2 ∙ ap (put_carried l.rows l.p) q) ∙ l.invariant.1.2,
      ),
    )

pub returns : goal.returns
returns c =
    let a = c.args in
    let l = c.loop-p in
    let h = c.loop-p-test.false in
    let f = told_in a.caps.ids a.caps.slots a.id_marks.now a.locations.now a.slot_marks.now a.owners.now a.tallies.now a.carried.now in (
      sym (written_end put_number f a.asked.now l.numbers l.p h) ∙ l.invariant.1.0,
      sym (written_end put_location f a.asked.now l.found l.p h) ∙ l.invariant.1.1,
      sym (written_end put_carried f a.asked.now l.rows l.p h) ∙ l.invariant.1.2,
    )
