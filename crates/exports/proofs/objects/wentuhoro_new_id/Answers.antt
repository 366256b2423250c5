use mathlib.Core.Path.{refl, sym, ◌∙◌}
use Rattle.object_ids.specs.NewIds.{new_id_answer}
use Rattle.exports.proofs.Laws.{exported_short, told_exported, one_word, where_fits_short, where_fits_fits}
use Rattle.exports.proofs.objects.wentuhoro_new_id.Goals as goal

pub returns-then-id-ne1 : goal.returns-then-id-ne1
returns-then-id-ne1 c =
    let lent = c.args.id.now in
    record { answers = exported_short 1 lent _ c.if-id-ne1.true; tables_after = where_fits_short 1 lent _ _ c.if-id-ne1.true }

pub returns-in-Ok : goal.returns-in-Ok
returns-in-Ok c =
    let lent = c.args.id.now in
    let h = c.if-id-ne1.false in
    let e = c.allocate_object_id.ensures in
    record { answers = told_exported new_id_answer _ _ _ e.result_value c.in-Ok.is 1 lent _ _ h refl (one_word lent _ h); tables_after = e.tallies_after ∙ where_fits_fits 1 lent _ _ h }

pub returns-in-Err : goal.returns-in-Err
returns-in-Err c =
    let lent = c.args.id.now in
    let h = c.if-id-ne1.false in
    let e = c.allocate_object_id.ensures in
    record { answers = told_exported new_id_answer _ _ _ e.result_value c.in-Err.is 1 lent _ _ h (sym c.status.ensures) refl; tables_after = e.tallies_after ∙ where_fits_fits 1 lent _ _ h }
