-- `truncation::cut_done` meets its contract: `ask` gives the refusal or the tip, and by the tip the laws report_keep and report_cut say what
-- is answered and written. Assumes nothing.
use mathlib.Core.Path.{sym, ap, ◌∙◌}
use native.Mathlib.Omega.{arith}
use Rattle.std.proofs.lemmas.Result.{err_from_is_err_and}
use Rattle.model.specs.Store.{finished_answer}
use Rattle.model.specs.Truncation.{cut_at, keeps}
use Rattle.model.specs.Lending.{slab_tables}
use Rattle.model.specs.Lent.{lent_by}
use Rattle.truncation.specs.Truncations.{asked_answer}
use Rattle.truncation.proofs.Laws.{asked_tip, asked_refused, is_kept, cut_at_tip, report_keep, report_cut, report_refused}
use borrow.Author.Rules.{rules}
use Rattle.truncation.proofs.cut_done.Goals as goal
use Rattle.std.specs.Prelude.{Err}

pub cut_at-requires : goal.cut_at-requires
cut_at-requires c =
    let a = c.args in
    let m = lent_by slab_tables a.caps.ids a.caps.slots a.slot_marks.now a.batch.now a.tallies.now in
    let q = asked_tip m a.slab a.t _ (sym (ap asked_answer c.in_ok-tip.was) ∙ c.ask.ensures) in
    (q.slab, omega (arith, q.high, c.get-high.ensures), q.small)

pub returns-then-is_none : goal.returns-then-is_none
returns-then-is_none c =
    let a = c.args in
    let m = lent_by slab_tables a.caps.ids a.caps.slots a.slot_marks.now a.batch.now a.tallies.now in
    let tip = c.in_ok-tip.tip in
    let q = asked_tip m a.slab a.t tip (sym (ap asked_answer c.in_ok-tip.was) ∙ c.ask.ensures) in
    let kept = ap (λ h. keeps (cut_at a.slab h a.t tip)) (sym c.get-high.ensures) ∙ is_kept _ c.cut_at.result _ c.is_none.ensures c.cut_at.ensures ∙ c.if-is_none.true in
    let r = report_keep m a.slab a.t tip q kept in
    record { result_value = (λ i. finished_answer (Err (c.of.ensures i))) ∙ sym r.0; tallies_after = sym r.1 }

pub overflow_sub-tip : goal.overflow_sub-tip
overflow_sub-tip c = let low = cut_at_tip _ _ _ _ (is_kept _ c.cut_at.result _ c.is_none.ensures c.cut_at.ensures ∙ c.if-is_none.false) in search rules

pub returns : goal.returns
returns c =
    let a = c.args in
    let m = lent_by slab_tables a.caps.ids a.caps.slots a.slot_marks.now a.batch.now a.tallies.now in
    let tip = c.in_ok-tip.tip in
    let q = asked_tip m a.slab a.t tip (sym (ap asked_answer c.in_ok-tip.was) ∙ c.ask.ensures) in
    let cut = ap (λ h. keeps (cut_at a.slab h a.t tip)) (sym c.get-high.ensures) ∙ is_kept _ c.cut_at.result _ c.is_none.ensures c.cut_at.ensures ∙ c.if-is_none.false in
    let r = report_cut m a.slab a.t tip q cut in
    record { result_value = sym r.0; tallies_after = (λ i. lent_by slab_tables a.caps.ids a.caps.slots a.slot_marks.now a.batch.now (c.put.ensures i)) ∙ sym r.1 }

pub returns-in_err-tip : goal.returns-in_err-tip
returns-in_err-tip c =
    let a = c.args in
    let m = lent_by slab_tables a.caps.ids a.caps.slots a.slot_marks.now a.batch.now a.tallies.now in
    let r = report_refused m a.slab a.t _ _ (asked_refused m a.slab a.t _ _ (sym (ap asked_answer c.in_err-tip.was) ∙ c.ask.ensures)) in
    let p = err_from_is_err_and c.from_residual.result c.from_residual.ensures.1 in
    rw (p.1, p.2) (record { result_value = sym r.0; tallies_after = sym r.1 })
