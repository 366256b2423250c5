-- `trimmed` meets its contract. The loop's invariant: the last taken of what is left is the last taken of all. Assumes nothing.
use Rattle.std.proofs.Common.{◌≡◌, ◌++◌, ◌∙◌, ap, sym, arith, length, ◌-◌}
use lib.ListN.{take-append-drop}
use Rattle.marks.specs.Marks.{last_taken}
use Rattle.marks.proofs.LawsCount.{last_taken_append, last_taken_over}
use Rattle.marks.proofs.LawsCalm.{has_other_free, has_other_taken}
use Rattle.marks_search.proofs.trimmed.Goals as goal

pub loop-rest-preserved : goal.loop-rest-preserved
loop-rest-preserved g c =
    let all = c.loop-rest.left.now in
    let whole : c.in-Some.rest.now ++ c.in-Some.block.now ≡ all =
    rw (c.in-Some.ensures.cases.0, c.in-Some.ensures.cases.1) (take-append-drop (length all - g.row.WIDTH) all) in
    sym (last_taken_append c.in-Some.rest.now c.in-Some.block.now (has_other_free c.in-Some.block.now (sym c.has_other.ensures ∙ c.if-has_other.false)))
    ∙ ap last_taken whole ∙ c.loop-rest.invariant

pub returns-then-has_other : goal.returns-then-has_other
returns-then-has_other g c =
    let all = c.loop-rest.left.now in
    let whole : c.in-Some.rest.now ++ c.in-Some.block.now ≡ all =
    rw (c.in-Some.ensures.cases.0, c.in-Some.ensures.cases.1) (take-append-drop (length all - g.row.WIDTH) all) in
    let taken = has_other_taken c.in-Some.block.now (sym c.has_other.ensures ∙ c.if-has_other.true) in
    let over = last_taken_over c.in-Some.rest.now c.in-Some.block.now taken in
    (c.loop-rest.invariant, λ h. omega (arith, taken, over, ap last_taken whole, c.loop-rest.invariant, c.in-Some.ensures.cases.2))
