use mathlib.Core.Path.{refl, sym, ap, ◌∙◌}
use Rattle.snapshot_lists.specs.Lists.{ReadInto}
use Rattle.snapshot_lists.specs.Outcomes.{taken_outcome}
use Rattle.exports.proofs.Laws.{exported_short, said_exported, where_fits_fits, where_fits_short, one_word}
use Rattle.exports.proofs.snapshots.wentuhoro_snapshot_read.Goals as goal

pub returns-then-rows-ne1 : goal.returns-then-rows-ne1
returns-then-rows-ne1 c =
    let lent = c.args.rows.now in
    let n = c.if-rows-ne1.true in
    record { answers = exported_short 1 lent _ n; row_ids_after = where_fits_short 1 lent _ _ n; row_locations_after = where_fits_short 1 lent _ _ n; row_carried_after = where_fits_short 1 lent _ _ n }

pub returns-in-Ok : goal.returns-in-Ok
returns-in-Ok c =
    let lent = c.args.rows.now in
    let h = c.if-rows-ne1.false in
    let e = c.read.ensures in
    record { answers = said_exported taken_outcome _ _ _ (ap (λ (t : ReadInto). taken_outcome t.answer) e) c.in-Ok.is 1 lent _ _ h refl (one_word lent _ h); row_ids_after = ap (λ (t : ReadInto). t.ids) e ∙ where_fits_fits 1 lent _ _ h; row_locations_after = ap (λ (t : ReadInto). t.locations) e ∙ where_fits_fits 1 lent _ _ h; row_carried_after = ap (λ (t : ReadInto). t.carried) e ∙ where_fits_fits 1 lent _ _ h }

pub returns-in-Err : goal.returns-in-Err
returns-in-Err c =
    let lent = c.args.rows.now in
    let h = c.if-rows-ne1.false in
    let e = c.read.ensures in
    record { answers = said_exported taken_outcome _ _ _ (ap (λ (t : ReadInto). taken_outcome t.answer) e) c.in-Err.is 1 lent _ _ h (sym c.status.ensures) refl; row_ids_after = ap (λ (t : ReadInto). t.ids) e ∙ where_fits_fits 1 lent _ _ h; row_locations_after = ap (λ (t : ReadInto). t.locations) e ∙ where_fits_fits 1 lent _ _ h; row_carried_after = ap (λ (t : ReadInto). t.carried) e ∙ where_fits_fits 1 lent _ _ h }
