-- `object_ids::next_id` meets its contract: the tests in document 01's order, each on lengths and words, and the search from the hint; the
-- law new_id_answer says that these are the store's own tests. Assumes nothing.
use Rattle.std.proofs.Common.{◌<◌, ◌≤◌, get_or, sym, ap, ◌∙◌, arith, le-ltb, lt-ltb, le-leb}
use borrow.Author.Tests.{lt-leb}
use Rattle.marks.specs.Marks.{smallest_free}
use Rattle.id_allocator.specs.Counted.{hinted}
use Rattle.model.specs.Verdict.{◌⨾◌, test}
use Rattle.object_ids.proofs.LawsNewId.{new_id_answer}
use Rattle.object_ids.proofs.new_id.next_id.Goals as goal

pub returns-then-not-new_id_fits : goal.returns-then-not-new_id_fits
unfolding test ◌⨾◌
returns-then-not-new_id_fits c = simp (c.of.ensures, new_id_answer, sym c.new_id_fits.ensures ∙ c.if-not-new_id_fits.true)

pub returns-then-get-ne0 : goal.returns-then-get-ne0
unfolding test ◌⨾◌
returns-then-get-ne0 c =
    let a = c.args in
    let kept : 0 < get_or a.batch.now 0 0 = omega (arith, c.get.ensures, c.if-get-ne0.true) in
    simp (c.of-then-get-ne0.ensures, new_id_answer, sym c.new_id_fits.ensures ∙ c.if-not-new_id_fits.false, lt-ltb _ _ kept)

pub returns-then-caps-id : goal.returns-then-caps-id
unfolding test ◌⨾◌
returns-then-caps-id c =
    let a = c.args in
    let shut : get_or a.batch.now 0 0 ≤ 0 = omega (arith, c.get.ensures, c.if-get-ne0.false) in
    let found = c.smallest_free-id.ensures ∙ ap (λ h. smallest_free 1 (hinted h a.id_marks.now)) c.get-hint.ensures in
    simp (c.of-then-caps-id.ensures, new_id_answer, sym c.new_id_fits.ensures ∙ c.if-not-new_id_fits.false, le-ltb _ _ shut, sym found, le-leb _ _ c.if-caps-id.true)

pub returns : goal.returns
unfolding test ◌⨾◌
returns c =
    let a = c.args in
    let shut : get_or a.batch.now 0 0 ≤ 0 = omega (arith, c.get.ensures, c.if-get-ne0.false) in
    let found = c.smallest_free-id.ensures ∙ ap (λ h. smallest_free 1 (hinted h a.id_marks.now)) c.get-hint.ensures in
    simp (new_id_answer, sym c.new_id_fits.ensures ∙ c.if-not-new_id_fits.false, le-ltb _ _ shut, sym found, lt-leb _ _ c.if-caps-id.false)
