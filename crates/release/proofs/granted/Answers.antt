-- `release::granted` meets its contract: the tests in document 01's order, on lengths and the opened word (release_answer). Assumes nothing.
use mathlib.Core.Path.{sym, ◌∙◌}
use Prim.Native.Nat.{◌<◌, ◌≤◌}
use native.Mathlib.Omega.{arith}
use lib.ListN.{get_or}
use borrow.Author.Tests.{lt-ltb, le-ltb}
use Rattle.model.specs.Verdict.{◌⨾◌, test}
use Rattle.release.proofs.Laws.{release_answer}
use Rattle.release.proofs.granted.Goals as goal

pub returns-then-not-release_fits : goal.returns-then-not-release_fits
unfolding test ◌⨾◌
returns-then-not-release_fits c = rw release_answer (simp (c.of.ensures, sym c.release_fits.ensures ∙ c.if-not-release_fits.true))

pub returns-then-get-ne0 : goal.returns-then-get-ne0
unfolding test ◌⨾◌
returns-then-get-ne0 c =
    let kept : 0 < get_or c.args.batch.now 0 0 = omega (arith, c.get.ensures, c.if-get-ne0.true) in
    rw release_answer (simp (c.of-then-get-ne0.ensures, sym c.release_fits.ensures ∙ c.if-not-release_fits.false, lt-ltb _ _ kept))

pub returns : goal.returns
unfolding test ◌⨾◌
returns c =
    let shut : get_or c.args.batch.now 0 0 ≤ 0 = omega (arith, c.get.ensures, c.if-get-ne0.false) in
    rw release_answer (simp (sym c.release_fits.ensures ∙ c.if-not-release_fits.false, le-ltb _ _ shut))
