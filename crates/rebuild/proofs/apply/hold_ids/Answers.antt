-- The loop's invariant: the rows left, written into the present tables, complete what is to be written. Assumes nothing.
use mathlib.Core.List.{◌∷◌}
use mathlib.Core.Logic.{⊎_elim, inl, inr}
use mathlib.Core.Path.{◌≡◌, ap, sym, ◌∙◌}
use Prim.Native.Nat.{◌+◌}
use native.Mathlib.Omega.{arith}
use lib.ListN.{set}
use Rattle.model.specs.Rebuild.{rows_of, held_by, located_by}
use Rattle.rebuild_rows.proofs.Turns.{rows_end}
use Rattle.rebuild.proofs.apply.hold_ids.Goals as goal

pub loop-id-preserved : goal.loop-id-preserved
loop-id-preserved c =
    let b = c.loop-id in
    let zero : c.in-Some.id.now + 0 ≡ c.in-Some.id.now = omega arith in
    let steps = c.in-Some.ensures.steps in
    let rest = rows_of c.next.new.self.a.rest.now c.next.new.self.b.rest.now in
    let split : rows_of b.id-iterator.a.rest.now b.id-iterator.b.rest.now ≡ (c.in-Some.id.now, c.in-Some.location.now) ∷ rest = λ j. rows_of (steps.0 j) (steps.1 j) in (
      ap (held_by rest) c.put.ensures ∙ sym (ap (λ rs. held_by rs b.id_marks) split) ∙ b.invariant.0,
      ap (located_by rest) (c.put-in-loop-id.ensures ∙ ap (λ n. set b.locations n c.in-Some.location.now) zero) ∙ sym (ap (λ rs. located_by rs b.locations) split) ∙ b.invariant.1,
    )

pub returns : goal.returns
returns c =
    let b = c.loop-id in
    let end = rows_end b.id-iterator.a.rest.now b.id-iterator.b.rest.now (⊎_elim (λ w. inl w.1.0) (λ w. inr w.1.0) c.in-None.ensures.steps) in
    (sym (ap (λ rs. held_by rs b.id_marks) end) ∙ b.invariant.0, sym (ap (λ rs. located_by rs b.locations) end) ∙ b.invariant.1)
