-- The loop's invariant: the rows left, written into the present tables, complete what is to be written. Assumes nothing.
use mathlib.Core.List.{◌∷◌}
use mathlib.Core.Logic.{⊎_elim, inl, inr}
use mathlib.Core.Path.{◌≡◌, ap, sym, ◌∙◌}
use Rattle.model.specs.Tables.{write_all, locations_of}
use Rattle.model.specs.Rebuild.{rows_of, owned_by}
use Rattle.model.specs.MemoryAfter.{use_slots}
use Rattle.rebuild_rows.proofs.Turns.{rows_end}
use Rattle.rebuild.proofs.apply.hold_slots.Goals as goal

pub loop-id-preserved : goal.loop-id-preserved
loop-id-preserved c =
    let a = c.args in
    let b = c.loop-id in
    let steps = c.in-Some.ensures.steps in
    let e = c.hold_slot.ensures in
    let rest = rows_of c.next.new.self.a.rest.now c.next.new.self.b.rest.now in
    let split : rows_of b.id-iterator.a.rest.now b.id-iterator.b.rest.now ≡ (c.in-Some.id.now, c.in-Some.location.now) ∷ rest = λ j. rows_of (steps.0 j) (steps.1 j) in (
      ap (write_all a.slots (locations_of rest) 1) e.0 ∙ sym (ap (λ rs. write_all a.slots (locations_of rs) 1 b.slot_marks) split) ∙ b.invariant.0,
      ap (owned_by a.slots rest) e.1 ∙ sym (ap (λ rs. owned_by a.slots rs b.owners) split) ∙ b.invariant.1,
      ap (λ g. use_slots a.slots g (locations_of rest)) e.2 ∙ sym (ap (λ rs. use_slots a.slots b.tallies (locations_of rs)) split) ∙ b.invariant.2,
    )

pub returns : goal.returns
returns c =
    let a = c.args in
    let b = c.loop-id in
    let end = rows_end b.id-iterator.a.rest.now b.id-iterator.b.rest.now (⊎_elim (λ w. inl w.1.0) (λ w. inr w.1.0) c.in-None.ensures.steps) in (
      sym (ap (λ rs. write_all a.slots (locations_of rs) 1 b.slot_marks) end) ∙ b.invariant.0,
      sym (ap (λ rs. owned_by a.slots rs b.owners) end) ∙ b.invariant.1,
      sym (ap (λ rs. use_slots a.slots b.tallies (locations_of rs)) end) ∙ b.invariant.2,
    )
