-- Commit: where the check refuses, nothing is written; where it counts n rows, nothing is refused, and the kept rows are those n, of at most 256.
-- Assumes nothing.
use mathlib.Core.Path.{sym}
use native.Mathlib.Omega.{arith}
use Rattle.std.proofs.lemmas.Result.{err_from_is_err_and}
use Rattle.model.specs.Store as S
use Rattle.model.specs.Lending.{every_table}
use Rattle.model.proofs.Granted.{granted_fits}
use Rattle.model.proofs.Sizes.{fits_range, fits_slot_marks}
use Rattle.model.specs.Lent.{lent_to}
use Rattle.batch_kept.proofs.Checked.{refused_answer, refused_after}
use Rattle.commit.proofs.Laws.{check_counted, check_told, commit_done, commit_few, commit_leaves}
use Rattle.commit.proofs.commit.Goals as goal

pub apply_rows-requires : goal.apply_rows-requires
apply_rows-requires c =
    let a = c.args in
    let m = lent_to S.commit a.caps.ids a.caps.slots a.id_marks.now a.locations.now a.slot_marks.now a.owners.now a.batch.now a.tallies.now a.carried.now in
    let z = check_counted m c.check.result _ c.check.ensures c.in_ok-n.was in
    let f = granted_fits m S.commit z.0 in
    ((fits_range every_table m f).slots_good, fits_slot_marks every_table m f)

pub settle_rows-requires : goal.settle_rows-requires
settle_rows-requires c =
    let a = c.args in
    let m = lent_to S.commit a.caps.ids a.caps.slots a.id_marks.now a.locations.now a.slot_marks.now a.owners.now a.batch.now a.tallies.now a.carried.now in
    let z = check_counted m c.check.result _ c.check.ensures c.in_ok-n.was in
    let few = commit_few m z.0 _ z.1 in
    ((fits_range every_table m (granted_fits m S.commit z.0)).ids_to, omega (arith, few))

pub returns-in_err-n : goal.returns-in_err-n
returns-in_err-n c =
    let a = c.args in
    let m = lent_to S.commit a.caps.ids a.caps.slots a.id_marks.now a.locations.now a.slot_marks.now a.owners.now a.batch.now a.tallies.now a.carried.now in
    let e = check_told m c.check.result _ c.check.ensures c.in_err-n.was in
    let p = err_from_is_err_and c.from_residual.result c.from_residual.ensures.1 in
    rw (p.1, p.2) (record { answers = sym (refused_answer m S.commit _ _ e); leaves = sym (refused_after m S.commit _ _ e) })

pub returns : goal.returns
returns c =
    let a = c.args in
    let m = lent_to S.commit a.caps.ids a.caps.slots a.id_marks.now a.locations.now a.slot_marks.now a.owners.now a.batch.now a.tallies.now a.carried.now in
    let z = check_counted m c.check.result _ c.check.ensures c.in_ok-n.was in
    record {
      answers = sym (commit_done m z.0);
      leaves = commit_leaves m z.0 _ _ _ _ z.1 c.apply_rows.ensures c.put.ensures c.settle_rows.ensures;
    }
