-- `defrag::fits` meets its contract: one row fewer than ids is asked of the lent lists. Assumes nothing.
use mathlib.Core.Path.{sym, ◌∙◌}
use Rattle.defrag.proofs.Granted.{some_ids, less_one}
use Rattle.defrag.proofs.fits.Goals as goal

pub returns-then-not-defrag_fits : goal.returns-then-not-defrag_fits
returns-then-not-defrag_fits c = simp (sym c.defrag_fits.ensures ∙ c.if-not-defrag_fits.true)

pub overflow_sub-caps : goal.overflow_sub-caps
overflow_sub-caps c = some_ids _ _ _ _ _ _ _ (sym c.defrag_fits.ensures ∙ c.if-not-defrag_fits.false)

pub returns : goal.returns
returns c =
    let a = c.args in
    let e = sym c.defrag_fits.ensures ∙ c.if-not-defrag_fits.false in
    c.both.ensures ∙ simp (e, less_one a.moved_ids a.caps.ids (some_ids _ _ _ _ _ _ _ e))
