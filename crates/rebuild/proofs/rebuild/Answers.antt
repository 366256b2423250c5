-- Refused by the lengths or by the first wrong row, and then nothing is written; else every table is the rows and zeros. Assumes nothing.
use mathlib.Core.Path.{ap, ◌∙◌}
use Rattle.std.proofs.lemmas.Result.{err_from_is_err_and}
use Rattle.refusal.specs.Outcomes.{refused_as}
use Rattle.model.specs.Store as S
use Rattle.model.specs.Lent.{lent_to}
use Rattle.rebuild.proofs.Granted.{no_fit, not_long, fit_so, fit_rows, rebuild_wrong, rebuild_refused, rebuild_granted}
use Rattle.rebuild.proofs.rebuild.Goals as goal
use Rattle.rebuild.proofs.rebuild.Goals.{then-not-fit-via-then-not-fit, then-not-fit-via-else-not-fit+then-not-rows_fit}

pub returns-then-not-fit : goal.returns-then-not-fit
returns-then-not-fit c =
    let a = c.args in
    let is = a.ids.now in
    let ls = a.row_locations.now in
    let bs = a.row_carried.now in
    let m = lent_to (S.rebuild (record { ids = is; locations = ls; carried = bs })) a.caps.ids a.caps.slots a.id_marks.now a.locations.now a.slot_marks.now a.owners.now a.batch.now a.tallies.now a.carried.now in
    let g = rebuild_wrong m is ls bs (elim c.then-not-fit.branch [
      | then-not-fit-via-then-not-fit w ↦ no_fit m is ls bs c.all_fit-fit.ensures w.if-not-fit.true
      | then-not-fit-via-else-not-fit+then-not-rows_fit w ↦ not_long m is ls bs c.all_fit-fit.ensures w.rows_fit.ensures w.if-not-fit.false w.if-not-rows_fit.true
    ]) in
    (ap refused_as c.of.ensures ∙ g.0, g.1)

pub returns-in_err-with_keys : goal.returns-in_err-with_keys
returns-in_err-with_keys c =
    let a = c.args in
    let is = a.ids.now in
    let ls = a.row_locations.now in
    let bs = a.row_carried.now in
    let m = lent_to (S.rebuild (record { ids = is; locations = ls; carried = bs })) a.caps.ids a.caps.slots a.id_marks.now a.locations.now a.slot_marks.now a.owners.now a.batch.now a.tallies.now a.carried.now in
    let fit = fit_so m is ls bs c.all_fit-fit.ensures c.rows_fit.ensures c.if-not-fit.false c.if-not-rows_fit.false in
    let p = err_from_is_err_and c.from_residual.result c.from_residual.ensures.1 in
    rw (p.1, p.2) (rebuild_refused m is ls bs fit _ c.first_refused-first.ensures _ c.first_long_row-long.ensures _ c.with_keys.ensures c.in_err-with_keys.was)

pub write-requires : goal.write-requires
write-requires c =
    let a = c.args in
    let is = a.ids.now in
    let ls = a.row_locations.now in
    let bs = a.row_carried.now in
    let m = lent_to (S.rebuild (record { ids = is; locations = ls; carried = bs })) a.caps.ids a.caps.slots a.id_marks.now a.locations.now a.slot_marks.now a.owners.now a.batch.now a.tallies.now a.carried.now in
    let fit = fit_so m is ls bs c.all_fit-fit.ensures c.rows_fit.ensures c.if-not-fit.false c.if-not-rows_fit.false in
    let r = fit_rows m is ls bs fit in
    (r.good, r.long_is, r.carries)

pub returns : goal.returns
returns c =
    let a = c.args in
    let is = a.ids.now in
    let ls = a.row_locations.now in
    let bs = a.row_carried.now in
    let m = lent_to (S.rebuild (record { ids = is; locations = ls; carried = bs })) a.caps.ids a.caps.slots a.id_marks.now a.locations.now a.slot_marks.now a.owners.now a.batch.now a.tallies.now a.carried.now in
    let fit = fit_so m is ls bs c.all_fit-fit.ensures c.rows_fit.ensures c.if-not-fit.false c.if-not-rows_fit.false in
    rebuild_granted m is ls bs fit _ c.first_refused-first.ensures _ c.first_long_row-long.ensures _ c.with_keys.ensures c.in_ok-with_keys.was c.write.ensures
