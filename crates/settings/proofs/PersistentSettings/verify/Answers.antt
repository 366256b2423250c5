use mathlib.Core.Path.{sym, ap, ◌∙◌}
use borrow.Author.Tests.{eq-eqb, ne_eqb}
use Rattle.std.specs.Prelude.{Ok, Err}
use Rattle.std.proofs.lemmas.Result.{err_from_is_err_and}
use Rattle.settings.specs.Settings.{agreement}
use Rattle.settings.proofs.PersistentSettings.verify.Goals as goal

pub returns-then-leaf_fanout : goal.returns-then-leaf_fanout
unfolding agreement
returns-then-leaf_fanout c =
    let found = sym c.deserialize.ensures ∙ c.in_ok-deserialize.was ∙ ap Ok c.leaf_fanout.ensures in
    rw (found, ne_eqb _ _ c.if-leaf_fanout.true) (ap Err c.of.ensures)

pub returns : goal.returns
unfolding agreement
returns c =
    let found = sym c.deserialize.ensures ∙ c.in_ok-deserialize.was ∙ ap Ok c.leaf_fanout.ensures in
    rw (found, eq-eqb _ _ c.if-leaf_fanout.false) (λ i. Ok tt)

pub returns-in_err-deserialize : goal.returns-in_err-deserialize
unfolding agreement
returns-in_err-deserialize c =
    let p = err_from_is_err_and c.from_residual.result c.from_residual.ensures.1 in
    rw (p.1, p.2, sym c.deserialize.ensures ∙ c.in_err-deserialize.was) (λ i. Err c.in_err-deserialize.field-0.0)
