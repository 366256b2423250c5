-- What the constructor makes packs into what the slab and the slot do, and what it refuses has no location. Assumes nothing.
use mathlib.Core.Path.{sym, ap, ◌∙◌}
use Rattle.address.specs.Address.{location_in}
use Rattle.address.proofs.Laws.{made_packed, made_none}
use Rattle.defrag.proofs.slabs.first_location.Goals as goal

pub returns-in_default : goal.returns-in_default
returns-in_default c = sym (made_none _ _ _ _ (sym c.from_slab_slot.ensures ∙ c.in_default.is))

pub returns-in_default-pack : goal.returns-in_default-pack
returns-in_default-pack c =
    let made = made_packed _ _ _ _ (sym c.from_slab_slot.ensures ∙ c.in-Ok.is) in
    ap location_in (sym c.in_default-pack.is ∙ c.pack.ensures ∙ made)

pub returns : goal.returns
returns c =
    let made = made_packed _ _ _ _ (sym c.from_slab_slot.ensures ∙ c.in-Ok.is) in
    ap location_in (sym c.in-Ok-pack.is ∙ c.pack.ensures ∙ made)
