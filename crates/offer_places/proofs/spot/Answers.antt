-- Its tests are those of `spot_in`; what the constructor makes packs into what the slab and the slot do, and what it refuses has no location. Assumes nothing.
use mathlib.Core.Path.{refl, sym, ap, ◌∙◌}
use Rattle.address.specs.Address.{location_in}
use Rattle.address.proofs.Laws.{made_packed, made_none}
use Rattle.offer_places.proofs.Laws.{spot_in_none, spot_in_at}
use Rattle.offer_places.proofs.spot.Goals as goal

pub returns-then-slab-ge-SLABS : goal.returns-then-slab-ge-SLABS
returns-then-slab-ge-SLABS c = sym (spot_in_none _ _ _ c.if-slab-ge-SLABS.true)

pub returns-in_default : goal.returns-in_default
returns-in_default c = sym (spot_in_at _ _ _ _ _ _ _ c.if-slab-ge-SLABS.false c.get-hint.ensures c.slab_marks.ensures c.smallest_free-slot.ensures refl ∙ made_none _ _ _ _ (sym c.from_slab_slot.ensures ∙ c.in_default.is))

pub returns-in_default-pack : goal.returns-in_default-pack
returns-in_default-pack c =
    let made = made_packed _ _ _ _ (sym c.from_slab_slot.ensures ∙ c.in-Ok.is) in
    sym (spot_in_at _ _ _ _ _ _ _ c.if-slab-ge-SLABS.false c.get-hint.ensures c.slab_marks.ensures c.smallest_free-slot.ensures (c.pack.ensures ∙ made) ∙ ap location_in c.in_default-pack.is)

pub returns : goal.returns
returns c =
    let made = made_packed _ _ _ _ (sym c.from_slab_slot.ensures ∙ c.in-Ok.is) in
    sym (spot_in_at _ _ _ _ _ _ _ c.if-slab-ge-SLABS.false c.get-hint.ensures c.slab_marks.ensures c.smallest_free-slot.ensures (c.pack.ensures ∙ made) ∙ ap location_in c.in-Ok-pack.is)
