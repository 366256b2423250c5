-- One slot is given back: a location is at an address or nowhere, and at an address the slab's part of the marks is
-- replaced (`gave_is`). Assumes nothing.
use mathlib.Core.Path.{sym, ap, ◌∙◌}
use native.Mathlib.Omega.{arith}
use Rattle.std.proofs.Common.{rules, Ok}
use Rattle.list_parts.proofs.Parts.{part_end}
use Rattle.address.specs.Address.{slabs}
use Rattle.address.proofs.Laws.{unpacked_at, slots_range, none_unpacked, none_refused}
use Rattle.model.specs.MemoryAfter.{Slots, gave_slot}
use Rattle.tables.proofs.LawsEntries.{start_lt}
use Rattle.batch_kept.proofs.Laws.{nowhere, somewhere}
use Rattle.abandon.proofs.Laws.{gave_is}
use Rattle.abandon.proofs.give_slot.Goals as goal

pub returns-in_default : goal.returns-in_default
returns-in_default c =
    let a = c.args in
    let s : Slots = record { marks = a.slot_marks.now; words = a.tallies.now } in
    nowhere a.slots a.location c.requires.0 (gave_slot a.slots s) s _ c.unpack.ensures (none_unpacked c.unpack.result (search rules))

pub returns-in_default-2 : goal.returns-in_default-2
returns-in_default-2 c =
    let a = c.args in
    let s : Slots = record { marks = a.slot_marks.now; words = a.tallies.now } in
    nowhere a.slots a.location c.requires.0 (gave_slot a.slots s) s _ c.unpack.ensures (none_refused c.unpack.result _ c.in_default.is)

pub overflow_mul-start : goal.overflow_mul-start
overflow_mul-start c =
    let u = unpacked_at _ _ _ (sym c.unpack.ensures ∙ c.in-Ok-Some.is ∙ ap Ok c.in-Ok-Some.field-0-is) in
    omega (arith, start_lt _ _ u.slab_lt u.capacity)

pub overflow_add-end : goal.overflow_add-end
overflow_add-end c =
    let u = unpacked_at _ _ _ (sym c.unpack.ensures ∙ c.in-Ok-Some.is ∙ ap Ok c.in-Ok-Some.field-0-is) in
    omega (arith, start_lt _ _ u.slab_lt u.capacity, (slots_range _ u.capacity).1)

pub overflow_add-slab : goal.overflow_add-slab
overflow_add-slab c = omega (arith, (unpacked_at _ _ _ (sym c.unpack.ensures ∙ c.in-Ok-Some.is ∙ ap Ok c.in-Ok-Some.field-0-is)).slab_lt)

pub slice_bounds-give_back-end : goal.slice_bounds-give_back-end
slice_bounds-give_back-end c =
    let u = unpacked_at _ _ _ (sym c.unpack.ensures ∙ c.in-Ok-Some.is ∙ ap Ok c.in-Ok-Some.field-0-is) in
    omega (arith, part_end c.args.slots slabs _ u.slab_lt, c.requires.1)

pub overflow_add-slab-2 : goal.overflow_add-slab-2
overflow_add-slab-2 c = omega (arith, (unpacked_at _ _ _ (sym c.unpack.ensures ∙ c.in-Ok-Some.is ∙ ap Ok c.in-Ok-Some.field-0-is)).slab_lt)

pub overflow_add-slab-3 : goal.overflow_add-slab-3
overflow_add-slab-3 c = omega (arith, (unpacked_at _ _ _ (sym c.unpack.ensures ∙ c.in-Ok-Some.is ∙ ap Ok c.in-Ok-Some.field-0-is)).slab_lt)

pub returns : goal.returns
returns c =
    let a = c.args in
    let s : Slots = record { marks = a.slot_marks.now; words = a.tallies.now } in
    let u = c.in-Ok-Some in
    let at = u.address in
    rw (c.put.ensures, c.add.ensures)
    (gave_is a.slots at.slab at.slot s c.get-hint.result c.give_back-back.result c.give_back-back.new.marks c.get-hint.ensures c.give_back-back.ensures.0 c.give_back-back.ensures.1
    ∙ somewhere a.slots a.location c.requires.0 (gave_slot a.slots s) s at (sym c.unpack.ensures ∙ u.is ∙ ap Ok u.field-0-is))
