use mathlib.Core.Path.{refl, sym, ◌∙◌}
use Rattle.defrag.specs.Outcomes.{defrag_outcome}
use Rattle.exports.proofs.Laws.{exported_short, said_exported, one_word, where_fits_short, where_fits_fits}
use Rattle.exports.proofs.moves_and_cuts.wentuhoro_defrag.Goals as goal

pub returns-then-count-ne1 : goal.returns-then-count-ne1
returns-then-count-ne1 c =
    let lent = c.args.count.now in
    record { answers = exported_short 1 lent _ c.if-count-ne1.true; moved_ids_after = where_fits_short 1 lent _ _ c.if-count-ne1.true; moved_locations_after = where_fits_short 1 lent _ _ c.if-count-ne1.true }

pub returns-in-Ok : goal.returns-in-Ok
returns-in-Ok c =
    let lent = c.args.count.now in
    let h = c.if-count-ne1.false in
    let e = c.objects_to_defrag.ensures in record { answers = said_exported defrag_outcome _ _ _ e.0 c.in-Ok.is 1 lent _ _ h refl (one_word lent _ h); moved_ids_after = e.1 ∙ where_fits_fits 1 lent _ _ h; moved_locations_after = e.2 ∙ where_fits_fits 1 lent _ _ h }

pub returns-in-Err : goal.returns-in-Err
returns-in-Err c =
    let lent = c.args.count.now in
    let h = c.if-count-ne1.false in
    let e = c.objects_to_defrag.ensures in record { answers = said_exported defrag_outcome _ _ _ e.0 c.in-Err.is 1 lent _ _ h (sym c.status.ensures) refl; moved_ids_after = e.1 ∙ where_fits_fits 1 lent _ _ h; moved_locations_after = e.2 ∙ where_fits_fits 1 lent _ _ h }
