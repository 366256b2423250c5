-- By the cutoff of the slab. Assumes nothing.
use mathlib.Core.Path.{sym, ap, ◌∙◌}
use Rattle.std.specs.Prelude.{Ok}
use Rattle.std.proofs.lemmas.Result.{err_from_is_err_and}
use Rattle.reason.specs.Read.{by_cutoff}
use Rattle.reason.proofs.Laws.{reason_is}
use Rattle.reason.proofs.reason_at.Goals as goal

pub returns-in-Some : goal.returns-in-Some
returns-in-Some c =
    let a = c.args in
    let w = c.stands_at-standing in
    ap Ok c.by_line.ensures ∙ ap (by_cutoff w.result) (sym (c.in_ok-line.was ∙ ap Ok c.in-Some.is))
    ∙ reason_is a.slots a.slot_marks.now a.tallies.now a.address a.r w.result c.fragmentation_cutoff.result w.ensures c.fragmentation_cutoff.ensures

pub returns-in-None : goal.returns-in-None
returns-in-None c =
    let a = c.args in
    let w = c.stands_at-standing in
    ap (by_cutoff w.result) (sym (c.in_ok-line.was ∙ ap Ok c.in-None.is))
    ∙ reason_is a.slots a.slot_marks.now a.tallies.now a.address a.r w.result c.fragmentation_cutoff.result w.ensures c.fragmentation_cutoff.ensures

pub returns-in_err-line : goal.returns-in_err-line
returns-in_err-line c =
    let a = c.args in
    let w = c.stands_at-standing in
    let p = err_from_is_err_and c.from_residual.result c.from_residual.ensures.1 in
    rw (p.1, p.2) (ap (by_cutoff w.result) (sym c.in_err-line.was)
    ∙ reason_is a.slots a.slot_marks.now a.tallies.now a.address a.r w.result c.fragmentation_cutoff.result w.ensures c.fragmentation_cutoff.ensures)
