-- A number that is no location writes nothing; a location's place is its slab's part and its slot. Assumes nothing.
use mathlib.Core.Path.{ap, sym, ◌∙◌}
use mathlib.Core.Bool.{cond}
use Prim.Native.Nat.{◌/◌}
use native.Mathlib.Omega.{arith}
use lib.ListN.{set}
use Rattle.address.specs.Address.{unit}
use Rattle.address.proofs.Laws.{none_unpacked, none_refused}
use Rattle.model.specs.Memory.{put_word, used_words}
use Rattle.model.proofs.Writes.{write_set}
use Rattle.std.proofs.Common.{rules, Ok}
use Rattle.rebuild.proofs.Places.{place, none_written}
use Rattle.rebuild.proofs.apply.hold_slot.Goals as goal

pub returns-in_default : goal.returns-in_default
returns-in_default c = none_written _ _ _ _ _ _ _ c.requires c.unpack.ensures (none_unpacked c.unpack.result (search rules))

pub returns-in_default-2 : goal.returns-in_default-2
returns-in_default-2 c = none_written _ _ _ _ _ _ _ c.requires c.unpack.ensures (none_refused c.unpack.result _ c.in_default.is)

pub overflow_mul-base : goal.overflow_mul-base
overflow_mul-base c = let u = c.in-Ok-Some in omega (arith, (place _ _ _ (sym c.unpack.ensures ∙ u.is ∙ ap Ok u.field-0-is)).fits)

pub overflow_add-base : goal.overflow_add-base
overflow_add-base c = let u = c.in-Ok-Some in omega (arith, (place _ _ _ (sym c.unpack.ensures ∙ u.is ∙ ap Ok u.field-0-is)).fits)

pub overflow_add-slab : goal.overflow_add-slab
overflow_add-slab c = let u = c.in-Ok-Some in omega (arith, (place _ _ _ (sym c.unpack.ensures ∙ u.is ∙ ap Ok u.field-0-is)).few)

pub returns : goal.returns
returns c =
    let a = c.args in
    let l = a.location in
    let u = c.in-Ok-Some in
    let p = place a.slots l _ (sym c.unpack.ensures ∙ u.is ∙ ap Ok u.field-0-is) in (
      c.put.ensures ∙ ap (λ n. set a.slot_marks.now n 1) p.entry ∙ sym (write_set a.slots l 1 a.slot_marks.now p.is),
      c.put-2.ensures ∙ ap (λ n. set a.owners.now n a.id) p.entry ∙ sym (write_set a.slots l a.id a.owners.now p.is),
      c.put-3.ensures ∙ ap (λ n. put_word a.tallies.now used_words n 1) p.top ∙ sym (ap (λ b. cond b (put_word a.tallies.now used_words (l / unit) 1) a.tallies.now) p.is),
    )
