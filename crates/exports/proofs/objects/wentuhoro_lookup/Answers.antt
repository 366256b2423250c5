use mathlib.Core.Path.{refl, sym, ◌∙◌}
use Rattle.exports.proofs.Laws.{exported_short, looked_exported, where_fits_fits, where_fits_short, one_word}
use Rattle.exports.proofs.objects.wentuhoro_lookup.Goals as goal

pub returns-then-location-ne1 : goal.returns-then-location-ne1
returns-then-location-ne1 c =
    let lent = c.args.location.now in
    record { answers = exported_short 1 lent _ c.if-location-ne1.true; row_after = where_fits_short 1 lent _ _ c.if-location-ne1.true }

pub returns-in-Ok : goal.returns-in-Ok
returns-in-Ok c =
    let lent = c.args.location.now in
    let h = c.if-location-ne1.false in
    let e = c.get_location_for_object.ensures in
    record { answers = looked_exported _ _ _ _ _ e.leaves e.answers c.in-Ok.is lent _ _ h refl (one_word lent _ h); row_after = e.leaves ∙ where_fits_fits 1 lent _ _ h }

pub returns-in-Err : goal.returns-in-Err
returns-in-Err c =
    let lent = c.args.location.now in
    let h = c.if-location-ne1.false in
    let e = c.get_location_for_object.ensures in
    record { answers = looked_exported _ _ _ _ _ e.leaves e.answers c.in-Err.is lent _ _ h (sym c.status.ensures) refl; row_after = e.leaves ∙ where_fits_fits 1 lent _ _ h }
