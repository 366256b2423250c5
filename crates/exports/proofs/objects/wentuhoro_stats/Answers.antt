use mathlib.Core.Path.{refl, sym}
use Rattle.object_ids.specs.Counts.{stats_answer}
use Rattle.exports.proofs.Laws.{exported_short, told_exported}
use Rattle.exports.proofs.objects.wentuhoro_stats.Goals as goal

pub returns-then-sums-ne4 : goal.returns-then-sums-ne4
returns-then-sums-ne4 c =
    let lent = c.args.sums.now in
    exported_short 4 lent _ c.if-sums-ne4.true

pub returns-in-Ok : goal.returns-in-Ok
returns-in-Ok c =
    let a = c.args in
    let lent = a.sums.now in
    let h = c.if-sums-ne4.false in
    let e = c.stats.ensures in
    told_exported (stats_answer a.tallies.now) _ _ _ e c.in-Ok.is 4 lent _ _ h refl (sym c.four.ensures)

pub returns-in-Err : goal.returns-in-Err
returns-in-Err c =
    let a = c.args in
    let lent = a.sums.now in
    let h = c.if-sums-ne4.false in
    let e = c.stats.ensures in
    told_exported (stats_answer a.tallies.now) _ _ _ e c.in-Err.is 4 lent _ _ h (sym c.status.ensures) refl
