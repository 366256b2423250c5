-- The tests, in the definition's order; an address comes from the checking constructor, which says the rest of them (unpacked_made). Assumes nothing.
use mathlib.Core.Logic.{⊎_elim}
use mathlib.Core.Path.{sym, ap, ◌∙◌}
use borrow.Author.Tests.{eq-eqb, ne_eqb}
use Rattle.std.proofs.lemmas.Result.{err_from_is_err_and}
use Rattle.address.specs.Address.{unpacked}
use Rattle.address.proofs.Laws.{unpacked_by, unpacked_low, unpacked_past, unpacked_made}
use Rattle.address.proofs.SlabAddress.unpack.Goals as goal

pub returns-then-bad_slots : goal.returns-then-bad_slots
unfolding unpacked
returns-then-bad_slots c = simp (sym c.bad_slots.ensures ∙ c.if-bad_slots.true)

pub returns-then-location-eq0 : goal.returns-then-location-eq0
unfolding unpacked
returns-then-location-eq0 c = simp (sym c.bad_slots.ensures ∙ c.if-bad_slots.false, eq-eqb _ _ c.if-location-eq0.true)

pub returns-then-location-lt-UNIT : goal.returns-then-location-lt-UNIT
returns-then-location-lt-UNIT c =
    let ok = sym c.bad_slots.ensures ∙ c.if-bad_slots.false in
    let nz = ne_eqb _ _ c.if-location-eq0.false in
    ⊎_elim (λ w. unpacked_low _ _ ok nz w) (λ w. unpacked_past _ _ ok nz w.1) c.then-location-lt-UNIT.either

pub returns : goal.returns
returns c =
    let ok = sym c.bad_slots.ensures ∙ c.if-bad_slots.false in
    let made = unpacked_made _ _ ok (ne_eqb _ _ c.if-location-eq0.false) c.if-location-lt-UNIT.false c.if-slot-slots.false in
    ap unpacked_by (sym c.in_ok-from_slab_slot.was ∙ c.from_slab_slot.ensures) ∙ made

pub returns-in_err-from_slab_slot : goal.returns-in_err-from_slab_slot
returns-in_err-from_slab_slot c =
    let ok = sym c.bad_slots.ensures ∙ c.if-bad_slots.false in
    let made = unpacked_made _ _ ok (ne_eqb _ _ c.if-location-eq0.false) c.if-location-lt-UNIT.false c.if-slot-slots.false in
    let p = err_from_is_err_and c.from_residual.result c.from_residual.ensures.1 in
    rw (p.1, p.2) (ap unpacked_by (sym c.in_err-from_slab_slot.was ∙ c.from_slab_slot.ensures) ∙ made)
