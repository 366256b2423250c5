use mathlib.Core.Path.{refl, sym}
use Rattle.snapshot_writer.specs.Outcome.{measured_answer}
use Rattle.exports.proofs.Laws.{exported_short, told_exported, one_word}
use Rattle.exports.proofs.snapshots.wentuhoro_snapshot_length.Goals as goal

pub returns-then-length-ne1 : goal.returns-then-length-ne1
returns-then-length-ne1 c =
    let lent = c.args.length.now in
    exported_short 1 lent _ c.if-length-ne1.true

pub returns-in-Ok : goal.returns-in-Ok
returns-in-Ok c =
    let lent = c.args.length.now in
    let h = c.if-length-ne1.false in
    let e = c.snapshot_length.ensures in
    told_exported measured_answer _ _ _ e c.in-Ok.is 1 lent _ _ h refl (one_word lent _ h)

pub returns-in-Err : goal.returns-in-Err
returns-in-Err c =
    let lent = c.args.length.now in
    let h = c.if-length-ne1.false in
    let e = c.snapshot_length.ensures in
    told_exported measured_answer _ _ _ e c.in-Err.is 1 lent _ _ h (sym c.status.ensures) refl
