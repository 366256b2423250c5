use mathlib.Core.Path.{sym, ap, ◌∙◌}
use Rattle.exports_status.specs.Status.{status_of, values_in}
use Rattle.exports.proofs.Laws.{exported_short, exported_is, one_word}
use Rattle.std.specs.Prelude.{Result, Ok}
use Rattle.refusal.specs.declared.Refusal.{Refusal}
use Rattle.settings.specs.declared.PersistentSettings.{PersistentSettings}
use Rattle.settings.specs.Outcomes.{persistent_settings_outcome}
use Rattle.exports.proofs.leaves.wentuhoro_cookie_read.Goals as goal

pub returns-then-leaf_fanout-ne1 : goal.returns-then-leaf_fanout-ne1
returns-then-leaf_fanout-ne1 c = exported_short 1 c.args.leaf_fanout.now _ c.if-leaf_fanout-ne1.true

pub returns-in-Ok : goal.returns-in-Ok
returns-in-Ok c =
    let lent = c.args.leaf_fanout.now in
    let e = sym c.deserialize.ensures ∙ c.in-Ok.is ∙ ap Ok c.leaf_fanout.ensures in
    exported_is 1 lent _ _ _ c.if-leaf_fanout-ne1.false (ap (λ (x : Result PersistentSettings Refusal). status_of (persistent_settings_outcome x)) e)
    (ap (λ (x : Result PersistentSettings Refusal). values_in (persistent_settings_outcome x) lent) e ∙ one_word lent _ c.if-leaf_fanout-ne1.false)

pub returns-in-Err : goal.returns-in-Err
returns-in-Err c =
    let lent = c.args.leaf_fanout.now in
    let e = sym c.deserialize.ensures ∙ c.in-Err.is in
    exported_is 1 lent _ _ _ c.if-leaf_fanout-ne1.false (ap (λ (x : Result PersistentSettings Refusal). status_of (persistent_settings_outcome x)) e ∙ sym c.status.ensures)
    (ap (λ (x : Result PersistentSettings Refusal). values_in (persistent_settings_outcome x) lent) e)
