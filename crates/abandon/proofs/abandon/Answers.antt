-- Abandon: where the check refuses, nothing is written; where it counts n rows, nothing is refused, and the kept rows are those n.
-- Assumes nothing.
use mathlib.Core.Path.{sym, ap, ◌∙◌}
use lib.ListN.{set}
use Rattle.model.specs.MemoryAfter.{Slots, with_kept, with_slots}
use Rattle.model.specs.Lending.{slab_tables}
use Rattle.model.proofs.Granted.{granted_fits}
use Rattle.model.proofs.Sizes.{fits_range, fits_slot_marks}
use Rattle.batch_kept.proofs.Laws.{rows_as_count, rows_as_refused}
use Rattle.std.proofs.lemmas.Result.{err_from_is_err_and}
use Rattle.model.specs.Lent.{lent_to}
use Rattle.batch_kept.proofs.Checked.{refused_answer, refused_after}
use Rattle.abandon.proofs.Laws.{abandon_done, abandon_after}
use Rattle.model.specs.Store as S
use Rattle.abandon.proofs.abandon.Goals as goal

pub give_slots-requires : goal.give_slots-requires
give_slots-requires c =
    let a = c.args in
    let m = lent_to S.abandon a.caps.ids a.caps.slots a.slot_marks.now a.batch.now a.tallies.now in
    let z = rows_as_count _ _ _ (sym c.check.ensures ∙ c.in_ok-n.was) in
    let f = granted_fits m S.abandon z.0 in
    ((fits_range slab_tables m f).slots_good, fits_slot_marks slab_tables m f)

pub returns-in_err-n : goal.returns-in_err-n
returns-in_err-n c =
    let a = c.args in
    let m = lent_to S.abandon a.caps.ids a.caps.slots a.slot_marks.now a.batch.now a.tallies.now in
    let e = rows_as_refused _ _ _ (sym c.check.ensures ∙ c.in_err-n.was) in
    let p = err_from_is_err_and c.from_residual.result c.from_residual.ensures.1 in
    rw (p.1, p.2) (record { answers = sym (refused_answer m S.abandon _ _ e); leaves = sym (refused_after m S.abandon _ _ e) })

pub returns : goal.returns
returns c =
    let a = c.args in
    let m = lent_to S.abandon a.caps.ids a.caps.slots a.slot_marks.now a.batch.now a.tallies.now in
    let z = rows_as_count _ _ _ (sym c.check.ensures ∙ c.in_ok-n.was) in
    record {
      answers = sym (abandon_done m z.0);
      leaves = rw c.put.ensures (ap (λ (s : Slots). with_kept (with_slots m s) (set a.batch.now 0 0)) c.give_slots.ensures ∙ sym (abandon_after m z.0 _ z.1));
    }
