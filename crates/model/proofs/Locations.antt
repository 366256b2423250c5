-- Laws of locations: what is_location says of a number, and the number's place in the slot tables. The place tells the location
-- (slot_place_inj), and that is what keeps slots apart. Assumes nothing.
use mathlib.Core.Path.{◌≡◌, sym, ◌∙◌, ap}
use mathlib.Core.Logic.{◌≢◌}
use mathlib.Core.Bool.{true, ◌&&◌}
use Prim.Native.Nat.{ℕ, ◌<◌, suc, ◌≤◌, ◌/◌, ◌%◌, ◌*◌, ◌+◌, pred}
use native.Mathlib.Nat.{mul-add-div_right, div-eq_of_lt, mul-le-mul_right}
use native.Mathlib.Omega.{arith}
use lib.Dec.{leb, ltb}
use borrow.Author.Tests.{leb-true, ltb-true, le-leb, lt-ltb}
use Rattle.refusal.proofs.Tests.{and_true, all}
use Rattle.address.specs.Address.{unit, is_location, packing, slabs}
use Rattle.model.specs.Tables.{slot_place}

-- ---- is_location

-- what it says
pub record Location (cap l : ℕ) : Type 0 where
  pub low : 1 ≤ l / unit
  pub high : l / unit ≤ 78
  pub slot : l % unit < cap

pub is_location_says : (cap l : ℕ) → is_location cap l ≡ true → Location cap l
is_location_says cap l e =
    let b = and_true (leb 1 (l / unit) && leb (l / unit) slabs) (ltb (l % unit) cap) e in
    let c = and_true (leb 1 (l / unit)) (leb (l / unit) slabs) b.0 in
    record { low = leb-true 1 (l / unit) c.0; high = leb-true (l / unit) 78 c.1; slot = ltb-true (l % unit) cap b.1 }

pub is_location_is : (cap l : ℕ) → Location cap l → is_location cap l ≡ true
is_location_is cap l v = all (all (le-leb 1 (l / unit) v.low) (le-leb (l / unit) 78 v.high)) (lt-ltb (l % unit) cap v.slot)

pub is_location_nz : (cap l : ℕ) → is_location cap l ≡ true → l ≢ 0
is_location_nz cap l e z = let v = is_location_says cap l e in omega (arith, v.low)

pub is_location_packing : (cap k j : ℕ) → cap ≤ 65536 → k < 78 → j < cap → is_location cap (packing k j) ≡ true
is_location_packing cap k j c hk hj = is_location_is cap (packing k j) (record { low = omega arith; high = omega arith; slot = omega arith })

-- its slab, and the slab and the slot that it is packed of
pub is_location_slab : (cap l : ℕ) → is_location cap l ≡ true → pred (l / unit) < slabs
is_location_slab cap l e = let v = is_location_says cap l e in omega (arith, v.low, v.high)

pub is_location_packed : (cap l : ℕ) → is_location cap l ≡ true → l ≡ packing (pred (l / unit)) (l % unit)
is_location_packed cap l e = let v = is_location_says cap l e in omega (arith, v.low)

-- ---- slot_place

-- a quotient and a remainder are told from their sum
div_of : (cap k j : ℕ) → j < cap → (k * cap + j) / cap ≡ k
div_of cap k j h = mul-add-div_right (omega arith) k j ∙ rw (div-eq_of_lt h) (omega arith)

pub slot_place_inj : (cap a b : ℕ) → is_location cap a ≡ true → is_location cap b ≡ true → slot_place cap a ≡ slot_place cap b → a ≡ b
slot_place_inj cap a b va vb e =
    let u = is_location_says cap a va in
    let v = is_location_says cap b vb in
    let q : pred (a / unit) ≡ pred (b / unit) =
    sym (div_of cap (pred (a / unit)) (a % unit) u.slot) ∙ ap (λ x. x / cap) e ∙ div_of cap (pred (b / unit)) (b % unit) v.slot in
    let q' : pred (a / unit) * cap ≡ pred (b / unit) * cap = ap (λ x. x * cap) q in
    let ul : 1 ≤ a / unit = u.low in
    let vl : 1 ≤ b / unit = v.low in
    let q'' : a / unit ≡ b / unit = omega arith in
    let r : a % unit ≡ b % unit = omega arith in
    omega arith

pub slot_place_lt : (cap l : ℕ) → is_location cap l ≡ true → slot_place cap l < slabs * cap
slot_place_lt cap l e =
    let v = is_location_says cap l e in
    let h : suc (pred (l / unit)) ≤ 78 = omega (arith, v.low, v.high) in
    omega (arith, v.slot, mul-le-mul_right cap h)

pub slot_place_packing : (cap k j : ℕ) → cap ≤ 65536 → j < cap → slot_place cap (packing k j) ≡ k * cap + j
slot_place_packing cap k j c hj =
    let q : pred (packing k j / unit) ≡ k = omega arith in
    let r : packing k j % unit ≡ j = omega arith in
    rw (q, r)

-- a location's slab is the one before the number of its allocator
pub slab_of : (cap l k : ℕ) → is_location cap l ≡ true → l / unit ≡ suc k → slot_place cap l ≡ k * cap + l % unit
slab_of cap l k w e = let q : pred (l / unit) ≡ k = omega arith in ap (λ x. x * cap + l % unit) q
