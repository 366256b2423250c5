-- The loop's invariant: the first wrong row of those left, by the present marks, is the first of all. Assumes nothing.
use mathlib.Core.Logic.{⊎_elim, inl, inr}
use mathlib.Core.Path.{ap, sym, ◌∙◌}
use Rattle.std.specs.Prelude.{Err}
use Rattle.refusal.specs.Refusals.{refusal}
use Rattle.model.specs.Rebuild.{rows_of}
use Rattle.rebuild_rows.specs.Checks.{first_wrong}
use Rattle.rebuild_rows.proofs.Turns.{rows_end, first_wrong_here, first_wrong_next, first_wrong_end}
use Rattle.rebuild_rows.proofs.first_wrong_by.Goals as goal

pub returns-in-Some-wrong_in : goal.returns-in-Some-wrong_in
returns-in-Some-wrong_in c =
    let a = c.args in
    let b = c.loop-i in
    let steps = c.in-Some.ensures.steps in
    let rest = rows_of c.next.new.self.iter.a.rest.now c.next.new.self.iter.b.rest.now in
    let here = first_wrong_here a.caps.ids a.caps.slots b.seen b.i-iterator.count (c.in-Some.id.now, c.in-Some.location.now) rest c.wrong_in.ensures c.in-Some-wrong_in.is in
    ap Err (c.at.ensures ∙ ap (refusal c.in-Some-wrong_in.kind) steps.1) ∙ sym here
    ∙ sym (λ j. first_wrong a.caps.ids a.caps.slots b.seen b.i-iterator.count (rows_of (steps.0.0 j) (steps.0.1 j))) ∙ b.invariant

pub loop-i-preserved : goal.loop-i-preserved
loop-i-preserved c =
    let a = c.args in
    let b = c.loop-i in
    let steps = c.in-Some.ensures.steps in
    let rest = rows_of c.next.new.self.iter.a.rest.now c.next.new.self.iter.b.rest.now in
    let next = first_wrong_next a.caps.ids a.caps.slots b.seen b.i-iterator.count (c.in-Some.id.now, c.in-Some.location.now) rest c.wrong_in.ensures c.in_default.is in
    (λ j. first_wrong a.caps.ids a.caps.slots (c.put.ensures j) (steps.2 j) rest) ∙ sym next
    ∙ sym (λ j. first_wrong a.caps.ids a.caps.slots b.seen b.i-iterator.count (rows_of (steps.0.0 j) (steps.0.1 j))) ∙ b.invariant

pub returns : goal.returns
returns c =
    let a = c.args in
    let b = c.loop-i in
    let end = rows_end b.i-iterator.iter.a.rest.now b.i-iterator.iter.b.rest.now (⊎_elim (λ w. inl w.1.0) (λ w. inr w.1.0) c.in-None.ensures.steps.0) in
    sym (first_wrong_end a.caps.ids a.caps.slots b.seen b.i-iterator.count)
    ∙ sym (ap (first_wrong a.caps.ids a.caps.slots b.seen b.i-iterator.count) end) ∙ b.invariant
