-- `truncation::truncation` meets its contract: `ask` gives the refusal or the tip, and by the tip the laws truncation_answer and truncation-
-- after say what is answered and written. Assumes nothing.
use mathlib.Core.Path.{sym, ap, ◌∙◌}
use native.Mathlib.Omega.{arith}
use Rattle.std.proofs.lemmas.Result.{err_from_is_err_and}
use Rattle.refusal.specs.Outcomes.{granted}
use Rattle.model.specs.Store.{truncated}
use Rattle.model.specs.Truncation.{cut_at}
use Rattle.model.specs.Lending.{slab_tables}
use Rattle.model.specs.Lent.{lent_by}
use Rattle.truncation.specs.Truncations.{asked_answer}
use Rattle.truncation.proofs.Laws.{asked_tip, asked_refused, truncation_answer, truncation_after, truncation_refused}
use Rattle.truncation.proofs.truncation.Goals as goal

pub cut_at-requires : goal.cut_at-requires
cut_at-requires c =
    let a = c.args in
    let m = lent_by slab_tables a.caps.ids a.caps.slots a.slot_marks.now a.batch.now a.tallies.now in
    let q = asked_tip m a.slab a.t _ (sym (ap asked_answer c.in_ok-tip.was) ∙ c.ask.ensures) in
    (q.slab, omega (arith, q.high, c.get-high.ensures), q.small)

pub returns : goal.returns
returns c =
    let a = c.args in
    let m = lent_by slab_tables a.caps.ids a.caps.slots a.slot_marks.now a.batch.now a.tallies.now in
    let tip = c.in_ok-tip.tip in
    let q = asked_tip m a.slab a.t tip (sym (ap asked_answer c.in_ok-tip.was) ∙ c.ask.ensures) in record { result_value = ap (λ x. granted (truncated x)) (c.cut_at.ensures ∙ ap (λ h. cut_at a.slab h a.t tip) c.get-high.ensures) ∙ sym (truncation_answer m a.slab a.t tip q); tallies_after = (λ i. lent_by slab_tables a.caps.ids a.caps.slots a.slot_marks.now a.batch.now (c.raise.ensures i)) ∙ sym (truncation_after m a.slab a.t tip q) }

pub returns-in_err-tip : goal.returns-in_err-tip
returns-in_err-tip c =
    let a = c.args in
    let m = lent_by slab_tables a.caps.ids a.caps.slots a.slot_marks.now a.batch.now a.tallies.now in
    let r = truncation_refused m a.slab a.t _ _ (asked_refused m a.slab a.t _ _ (sym (ap asked_answer c.in_err-tip.was) ∙ c.ask.ensures)) in
    let p = err_from_is_err_and c.from_residual.result c.from_residual.ensures.1 in
    rw (p.1, p.2) (record { result_value = sym r.0; tallies_after = sym r.1 })
