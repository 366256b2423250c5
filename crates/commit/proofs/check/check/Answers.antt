-- The refusal of a commit: lengths, then the opened word, then the rows, each return by a law that says the rest of the chain.
-- Assumes nothing.
use mathlib.Core.Path.{sym, ◌∙◌}
use Rattle.std.proofs.lemmas.Result.{err_from_is_err_and}
use Rattle.model.specs.Store as S
use Rattle.model.proofs.Granted.{refused_shape}
use Rattle.model.specs.Lent.{lent_to}
use Rattle.commit.proofs.Laws.{commit_count, commit_refused}
use Rattle.commit.proofs.check.check.Goals as goal

pub returns-then-not-all_fit : goal.returns-then-not-all_fit
returns-then-not-all_fit c =
    let a = c.args in
    let m = lent_to S.commit a.caps.ids a.caps.slots a.id_marks.now a.locations.now a.slot_marks.now a.owners.now a.batch.now a.tallies.now a.carried.now in
    simp (c.of.ensures, refused_shape m S.commit (sym c.all_fit.ensures ∙ c.if-not-all_fit.true))

pub returns : goal.returns
returns c =
    let a = c.args in
    let m = lent_to S.commit a.caps.ids a.caps.slots a.id_marks.now a.locations.now a.slot_marks.now a.owners.now a.batch.now a.tallies.now a.carried.now in
    c.check_rows.ensures ∙ commit_count m (sym c.all_fit.ensures ∙ c.if-not-all_fit.false) _ (sym c.opened.ensures ∙ c.in_ok-n.was)

pub returns-in_err-n : goal.returns-in_err-n
returns-in_err-n c =
    let a = c.args in
    let m = lent_to S.commit a.caps.ids a.caps.slots a.id_marks.now a.locations.now a.slot_marks.now a.owners.now a.batch.now a.tallies.now a.carried.now in
    let p = err_from_is_err_and c.from_residual.result c.from_residual.ensures.1 in
    rw (p.1, p.2) (commit_refused m (sym c.all_fit.ensures ∙ c.if-not-all_fit.false) _ _ (sym c.opened.ensures ∙ c.in_err-n.was))
