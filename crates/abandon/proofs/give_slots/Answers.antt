-- All slots are given back. The invariant: giving back from row i on, from the tables as they are, is giving back all, from the tables at
-- entry. Assumes nothing.
use mathlib.Core.Path.{refl, sym, ap, ◌∙◌}
use Prim.Native.Nat.{ℕ, ◌+◌, ◌-◌}
use native.Mathlib.Nat.{sub-zero}
use native.Mathlib.Omega.{arith}
use Rattle.model.specs.Tables.{locations_of}
use Rattle.model.specs.MemoryAfter.{Slots, give_slot, give_slots}
use Rattle.batch_kept.specs.Kept.{kept_from}
use Rattle.abandon.proofs.Laws.{give_next, give_none}
use Rattle.abandon.proofs.give_slots.Goals as goal

pub loop-i-init : goal.loop-i-init
loop-i-init c = (refl, refl, rw sub-zero)

pub loop-i-preserved : goal.loop-i-preserved
loop-i-preserved c =
    let a = c.args in
    let l = c.loop-i in
    let s : Slots = record { marks = l.slot_marks; words = l.tallies } in (
      omega arith,
      omega arith,
      ap (λ (x : Slots). give_slots a.slots x (locations_of (kept_from a.batch.now (a.n - (l.i + 1)) (l.i + 1))))
          (c.give_slot.ensures ∙ ap (λ (x : ℕ). give_slot a.slots s x) c.get-location.ensures)
          ∙ sym (give_next a.slots s a.batch.now a.n l.i c.loop-i-test.true) ∙ l.invariant.2,
    )

pub returns : goal.returns
returns c = sym (give_none _ _ _ _ _ c.loop-i-test.false) ∙ c.loop-i.invariant.2
