-- The smallest free slot of a slab, as an offer finds it: where there is one it is a location, free, and inside the table. Assumes nothing.
use mathlib.Core.Path.{◌≡◌, sym, ◌∙◌, refl}
use mathlib.Core.Logic.{◌≢◌}
use mathlib.Core.Bool.{Bool, true, false, cond}
use mathlib.Core.List.{List}
use Prim.Native.Nat.{◌-◌, ℕ, ◌<◌, ◌≤◌, ◌*◌, ◌+◌, min}
use native.Mathlib.Nat.{mul-le-mul_right}
use native.Mathlib.Decide.{ℕ_discrete}
use native.Mathlib.Omega.{arith}
use lib.Dec.{ltb}
use lib.ListN.{get_or, length, length-take, length-drop}
use borrow.Author.Tests.{ltb-true}
use Rattle.list_parts.specs.Parts.{part}
use Rattle.list_parts.proofs.Parts.{part_at}
use Rattle.address.specs.Address.{is_location, packing, slabs}
use Rattle.marks.specs.Marks.{first_free}
use Rattle.marks.proofs.LawsFree.{first_free_free}
use Rattle.model.specs.Batches.{spot}
use Rattle.model.specs.Tables.{slot_place}
use Rattle.model.proofs.Locations.{is_location_packing, slot_place_packing}

pub record Spot (cap : ℕ) (t : List ℕ) (l : ℕ) : Type 0 where
  pub range : is_location cap l ≡ true
  pub is_free_lem : get_or t (slot_place cap l) 0 ≡ 0
  pub inside : slot_place cap l < length t

pub spot_is : (cap : ℕ) (t : List ℕ) (k : ℕ) → cap ≤ 65536 → length t ≡ slabs * cap → spot cap t k ≢ 0 → Spot cap t (spot cap t k)
spot_is cap t k c len = go (ltb j (length (part cap t k))) refl
  where
    j : ℕ
    j = first_free (part cap t k)

    go : (b : Bool) → ltb j (length (part cap t k)) ≡ b → cond b (packing k j) 0 ≢ 0 → Spot cap t (cond b (packing k j) 0)
    go true e n =
        let h : j < length (part cap t k) = ltb-true j (length (part cap t k)) e in
        let h₁ : j < min cap (length t - k * cap) = simp (length-take, length-drop) at h in
        let hj : j < cap = omega arith in
        let hk : k * cap + j < slabs * cap = omega arith in
        let k78 : k < 78 = below k hk in
        record {
          range = is_location_packing cap k j c k78 hj;
          is_free_lem = rw (slot_place_packing cap k j c hj) (sym (part_at cap t k j 0 hj) ∙ first_free_free (part cap t k));
          inside = rw (slot_place_packing cap k j c hj, len) hk;
        }
      where
        below : (k : ℕ) → k * cap + j < slabs * cap → k < 78
        below k hk = elim (ℕ_discrete (78 - k) 0) [ yes z ↦ over (omega arith) | no n ↦ omega arith ]
          where
            over : 78 ≤ k → k < 78
            over h = omega (arith, mul-le-mul_right cap h)
    go false e n = absurd (n refl)
