-- `granted` gives the answer, which tells whether anything is written; the ids' allocator, then the slabs, are the memory after a release
-- (release_after). Assumes nothing.
use mathlib.Core.Path.{refl, sym, ap, ◌∙◌}
use Rattle.std.proofs.lemmas.Result.{err_from_is_err_and}
use Rattle.model.specs.Store.{finished_answer}
use Rattle.model.proofs.Answered.{refused_after}
use Rattle.model.specs.Lent.{lent_to}
use Rattle.model.specs.Store as S
use Rattle.release.proofs.Laws.{release_length, release_after}
use Rattle.release.proofs.release.Goals as goal

pub release_slabs-requires : goal.release_slabs-requires
release_slabs-requires c =
    let a = c.args in
    let m = lent_to S.release a.caps.ids a.caps.slots a.id_marks.now a.slot_marks.now a.batch.now a.tallies.now in
    release_length m (sym (ap finished_answer c.in_ok-granted.was) ∙ c.granted.ensures)

pub returns : goal.returns
returns c =
    let a = c.args in
    let m = lent_to S.release a.caps.ids a.caps.slots a.id_marks.now a.slot_marks.now a.batch.now a.tallies.now in
    let e = sym (ap finished_answer c.in_ok-granted.was) ∙ c.granted.ensures in
    record { result_value = e; tallies_after = release_after m _ _ _ e c.release_allocator.ensures.0 c.release_allocator.ensures.1 c.release_slabs.ensures }

pub returns-in_err-granted : goal.returns-in_err-granted
returns-in_err-granted c =
    let a = c.args in
    let m = lent_to S.release a.caps.ids a.caps.slots a.id_marks.now a.slot_marks.now a.batch.now a.tallies.now in
    let e = sym (ap finished_answer c.in_err-granted.was) ∙ c.granted.ensures in
    let p = err_from_is_err_and c.from_residual.result c.from_residual.ensures.1 in
    rw (p.1, p.2) (record { result_value = e; tallies_after = sym (refused_after m _ _ e refl) })
