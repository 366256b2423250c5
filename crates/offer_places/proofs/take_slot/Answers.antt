-- `places::take_slot` meets its contract: the address that is unpacked is the location's slab and slot (unpacked_at). Assumes nothing.
use mathlib.Core.Path.{◌≡◌, sym, ap, ◌∙◌}
use native.Mathlib.Omega.{arith}
use Rattle.std.proofs.Common.{rules}
use Rattle.std.specs.Prelude.{Ok, None}
use Rattle.address.proofs.Laws.{unpacked_at, slots_range}
use Rattle.tables.proofs.LawsEntries.{start_lt}
use Rattle.offer_places.specs.Places.{slots_in}
use Rattle.offer_places.proofs.Laws.{is_at, take_slot_none, take_slot_at}
use Rattle.offer_places.proofs.take_slot.Goals as goal

pub returns-in_default : goal.returns-in_default
returns-in_default c =
    let none : c.unpack.result ≡ Ok None = search rules in
    take_slot_none _ _ _ c.requires (ap is_at (sym c.unpack.ensures ∙ none))

pub returns-in_default-2 : goal.returns-in_default-2
returns-in_default-2 c = take_slot_none _ _ _ c.requires (ap is_at (sym c.unpack.ensures ∙ c.in_default.is))

pub overflow_mul-slab : goal.overflow_mul-slab
overflow_mul-slab c =
    let u = unpacked_at _ _ _ (sym c.unpack.ensures ∙ c.in-Ok-Some.is ∙ ap Ok c.in-Ok-Some.field-0-is) in
    omega (arith, start_lt _ _ u.slab_lt u.capacity)

pub overflow_add-slab : goal.overflow_add-slab
overflow_add-slab c =
    let u = unpacked_at _ _ _ (sym c.unpack.ensures ∙ c.in-Ok-Some.is ∙ ap Ok c.in-Ok-Some.field-0-is) in
    omega (arith, start_lt _ _ u.slab_lt u.capacity, u.slot_lt, (slots_range _ u.capacity).1)

pub overflow_add-slab-2 : goal.overflow_add-slab-2
overflow_add-slab-2 c = omega (arith, (unpacked_at _ _ _ (sym c.unpack.ensures ∙ c.in-Ok-Some.is ∙ ap Ok c.in-Ok-Some.field-0-is)).slab_lt)

pub overflow_add-slab-3 : goal.overflow_add-slab-3
overflow_add-slab-3 c = omega (arith, (unpacked_at _ _ _ (sym c.unpack.ensures ∙ c.in-Ok-Some.is ∙ ap Ok c.in-Ok-Some.field-0-is)).slab_lt)

pub overflow_add-slab-4 : goal.overflow_add-slab-4
overflow_add-slab-4 c = omega (arith, (unpacked_at _ _ _ (sym c.unpack.ensures ∙ c.in-Ok-Some.is ∙ ap Ok c.in-Ok-Some.field-0-is)).slab_lt)

pub overflow_add-slot : goal.overflow_add-slot
overflow_add-slot c =
    let u = unpacked_at _ _ _ (sym c.unpack.ensures ∙ c.in-Ok-Some.is ∙ ap Ok c.in-Ok-Some.field-0-is) in
    omega (arith, u.slot_lt, (slots_range _ u.capacity).1)

pub returns : goal.returns
returns c =
    let a = c.args in
    take_slot_at a.slots a.location (slots_in a.slot_marks.now a.tallies.now) c.in-Ok-Some.address _ _ _ _ (sym c.unpack.ensures ∙ c.in-Ok-Some.is ∙ ap Ok c.in-Ok-Some.field-0-is) c.put.ensures c.add.ensures c.put-2.ensures c.put-3.ensures
