use mathlib.Core.Path.{◌≡◌, refl, sym, ◌∙◌, ap}
use Rattle.truncation.specs.Truncations.{truncated_answer}
use Rattle.std.proofs.Common.{rules}
use Rattle.std.specs.Prelude.{Ok, None}
use Rattle.exports.proofs.Laws.{exported_short, told_exported, where_fits_fits, where_fits_short}
use Rattle.exports.proofs.moves_and_cuts.wentuhoro_truncation.Goals as goal

pub returns-then-cut-ne3 : goal.returns-then-cut-ne3
returns-then-cut-ne3 c =
    let lent = c.args.cut.now in
    record { answers = exported_short 3 lent _ c.if-cut-ne3.true; tables_after = where_fits_short 3 lent _ _ c.if-cut-ne3.true }

pub returns-in-Ok-Some : goal.returns-in-Ok-Some
returns-in-Ok-Some c =
    let lent = c.args.cut.now in
    let h = c.if-cut-ne3.false in
    let e = c.truncation.ensures in
    record { answers = told_exported truncated_answer _ _ _ e.result_value (c.in-Ok-Some.is ∙ ap Ok c.in-Ok-Some.field-0-is) 3 lent _ _ h refl (sym c.three.ensures); tables_after = e.tallies_after ∙ where_fits_fits 3 lent _ _ h }

pub returns-in-Ok-None : goal.returns-in-Ok-None
returns-in-Ok-None c =
    let lent = c.args.cut.now in
    let none : c.truncation.result ≡ Ok None = search rules in
    let h = c.if-cut-ne3.false in
    let e = c.truncation.ensures in
    record { answers = told_exported truncated_answer _ _ _ e.result_value none 3 lent _ _ h refl (sym c.three-in-Ok-None.ensures); tables_after = e.tallies_after ∙ where_fits_fits 3 lent _ _ h }

pub returns-in-Err : goal.returns-in-Err
returns-in-Err c =
    let lent = c.args.cut.now in
    let h = c.if-cut-ne3.false in
    let e = c.truncation.ensures in
    record { answers = told_exported truncated_answer _ _ _ e.result_value c.in-Err.is 3 lent _ _ h (sym c.status.ensures) refl; tables_after = e.tallies_after ∙ where_fits_fits 3 lent _ _ h }
