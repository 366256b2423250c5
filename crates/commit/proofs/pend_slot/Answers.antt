-- A location is at an address or nowhere; at an address the slab is ready first. Assumes nothing.
use mathlib.Core.Path.{sym, ap, ◌∙◌}
use native.Mathlib.Omega.{arith}
use Rattle.std.proofs.Common.{rules, Ok}
use Rattle.address.proofs.Laws.{unpacked_at, slots_range, none_unpacked, none_refused}
use Rattle.model.specs.MemoryAfter.{Slots, pended_slot, set_slot}
use Rattle.tables.proofs.LawsEntries.{start_lt}
use Rattle.batch_kept.proofs.Laws.{nowhere, somewhere}
use Rattle.commit.proofs.pend_slot.Goals as goal

pub returns-in_default : goal.returns-in_default
returns-in_default c =
    let a = c.args in
    let s : Slots = record { marks = a.slot_marks.now; words = a.tallies.now } in
    nowhere a.slots a.location c.requires.0 (pended_slot a.slots s) s _ c.unpack.ensures (none_unpacked c.unpack.result (search rules))

pub returns-in_default-2 : goal.returns-in_default-2
returns-in_default-2 c =
    let a = c.args in
    let s : Slots = record { marks = a.slot_marks.now; words = a.tallies.now } in
    nowhere a.slots a.location c.requires.0 (pended_slot a.slots s) s _ c.unpack.ensures (none_refused c.unpack.result _ c.in_default.is)

pub ready_slab-requires : goal.ready_slab-requires
ready_slab-requires c =
    let u = unpacked_at _ _ _ (sym c.unpack.ensures ∙ c.in-Ok-Some.is ∙ ap Ok c.in-Ok-Some.field-0-is) in
    (u.slab_lt, c.requires.0, c.requires.1)

pub overflow_mul-slab : goal.overflow_mul-slab
overflow_mul-slab c =
    let u = unpacked_at _ _ _ (sym c.unpack.ensures ∙ c.in-Ok-Some.is ∙ ap Ok c.in-Ok-Some.field-0-is) in
    omega (arith, start_lt _ _ u.slab_lt u.capacity)

pub overflow_add-slab : goal.overflow_add-slab
overflow_add-slab c =
    let u = unpacked_at _ _ _ (sym c.unpack.ensures ∙ c.in-Ok-Some.is ∙ ap Ok c.in-Ok-Some.field-0-is) in
    omega (arith, start_lt _ _ u.slab_lt u.capacity, u.slot_lt, (slots_range _ u.capacity).1)

pub returns : goal.returns
returns c =
    let a = c.args in
    let s : Slots = record { marks = a.slot_marks.now; words = a.tallies.now } in
    let u = c.in-Ok-Some in
    rw c.put.ensures
    (ap (λ (t : Slots). set_slot a.slots t u.address.slab u.address.slot 2) c.ready_slab.ensures
    ∙ somewhere a.slots a.location c.requires.0 (pended_slot a.slots s) s u.address (sym c.unpack.ensures ∙ u.is ∙ ap Ok u.field-0-is))
