-- Laws of addresses: what is unpacked is in range, and packing and unpacking undo each other. Assumes nothing.
use mathlib.Core.Bool.{Bool, true, false, cond, ◌&&◌, ◌||◌}
use mathlib.Core.Path.{◌≡◌, refl, sym, ap}
use Prim.Native.Nat.{ℕ, ◌+◌, ◌-◌, ◌≤◌, ◌<◌, ◌/◌, ◌%◌}
use native.Mathlib.Omega.{arith}
use lib.Dec.{leb, ltb, eqb}
use borrow.Author.Tests.{ltb-true, ltb-false, leb-true, leb-false, lt-ltb, le-ltb, le-leb, lt-leb, ne_eqb}
use Rattle.refusal.specs.Refusals.{refusal, wrong_shape, out_of_range}
use Rattle.refusal.specs.declared.Refusal.{Refusal}
use Rattle.refusal.proofs.Tests.{or_false, by_test}
use Rattle.address.specs.Address.{bad_slots, largest_slot, made_of, packing, packed, location_in, unpacked, unit}
use Rattle.sizes.specs.Sizes.{slabs}
use Rattle.address.specs.declared.SlabAddress.{SlabAddress}
use Rattle.std.specs.Prelude.{Result, Ok, Err, Option, Some, None}

-- ---- bad_slots
pub slots_range : (slots : ℕ) → bad_slots slots ≡ false → (1 ≤ slots) × (slots ≤ 65536)
unfolding bad_slots
slots_range slots e =
    let p = or_false (ltb slots 1) (ltb 65536 slots) e in
    (ltb-false _ _ p.0, ltb-false _ _ p.1)

-- ---- unpacked
-- an address that is unpacked is in range, and its packed location is the one it came from
pub record Comes (slots location : ℕ) (a : SlabAddress) : Type 0 where
  pub capacity : bad_slots slots ≡ false
  pub slab_lt : a.slab < slabs
  pub slot_lt : a.slot < slots
  pub whole : packing a.slab a.slot ≡ location

pub unpacked_at : (slots location : ℕ) (a : SlabAddress) → unpacked slots location ≡ Ok (Some a) → Comes slots location a
unfolding unpacked
unpacked_at slots location a =
    by (bad_slots slots) (eqb location 0) (leb 1 (location / unit)) (leb (location / unit) slabs) (ltb (location % unit) slots) refl refl refl refl
  where
    by : (s z l h t : Bool) → bad_slots slots ≡ s → leb 1 (location / unit) ≡ l → leb (location / unit) slabs ≡ h → ltb (location % unit) slots ≡ t
        → cond s (Err (refusal wrong_shape 0)) (cond z (Ok None) (cond (l && h && t) (Ok (Some (record { slab = location / unit - 1; slot = location % unit }))) (Err (refusal out_of_range 0)))) ≡ Ok (Some a)
        → Comes slots location a
    by true z l h t o p q r e = let n : ◌≡◌ {A = ℕ} 0 1 = cc in absurd (omega arith)
    by false true l h t o p q r e = let n : ◌≡◌ {A = ℕ} 0 1 = cc in absurd (omega arith)
    by false false false h t o p q r e = let n : ◌≡◌ {A = ℕ} 0 1 = cc in absurd (omega arith)
    by false false true false t o p q r e = let n : ◌≡◌ {A = ℕ} 0 1 = cc in absurd (omega arith)
    by false false true true false o p q r e = let n : ◌≡◌ {A = ℕ} 0 1 = cc in absurd (omega arith)
    by false false true true true o p q r e =
        let b : location / unit - 1 ≡ a.slab = cc in
        let s : location % unit ≡ a.slot = cc in
        record {
          capacity = o;
          slab_lt = omega (arith, leb-true);
          slot_lt = omega (arith, ltb-true);
          whole = omega (arith, leb-true);
        }

-- by the checking constructor: a location from the weight of a slab on, whose slot is below the capacity
abbrev pub unpacked_by : Result SlabAddress Refusal → Result (Option SlabAddress) Refusal
unpacked_by (Ok a) = Ok (Some a)
unpacked_by (Err r) = Err r

module _ (slots location : ℕ) (ok : bad_slots slots ≡ false) (nz : eqb location 0 ≡ false) where
  pub unpacked_low : location < unit → Err (refusal out_of_range 0) ≡ unpacked slots location
  unfolding unpacked
  unpacked_low h =
      let low : leb 1 (location / unit) ≡ false = lt-leb 1 (location / unit) (omega arith) in
      simp (ok, nz, low)

  pub unpacked_past : slots ≤ location % unit → Err (refusal out_of_range 0) ≡ unpacked slots location
  unfolding unpacked
  unpacked_past h =
      let past : ltb (location % unit) slots ≡ false = le-ltb (location % unit) slots h in
      by_test (leb 1 (location / unit) && leb (location / unit) slabs) (λ t. simp (ok, nz, t, past)) (λ t. simp (ok, nz, t))

  pub unpacked_made : unit ≤ location → location % unit < slots → unpacked_by (made_of (location / unit - 1) (location % unit)) ≡ unpacked slots location
  unfolding unpacked made_of
  unpacked_made above below =
      let r = slots_range slots ok in
      let low : leb 1 (location / unit) ≡ true = le-leb 1 (location / unit) (omega arith) in
      let slot : ltb (location % unit) slots ≡ true = lt-ltb _ _ below in
      let small : ltb largest_slot (location % unit) ≡ false = le-ltb largest_slot (location % unit) (omega arith) in
      by_test (leb (location / unit) slabs)
      (λ t.
      let b : leb slabs (location / unit - 1) ≡ false = lt-leb slabs (location / unit - 1) (omega (arith, leb-true (location / unit) slabs t)) in
      simp (ok, nz, low, slot, small, t, b))
      (λ t.
      let b : leb slabs (location / unit - 1) ≡ true = le-leb slabs (location / unit - 1) (omega (arith, leb-false (location / unit) slabs t)) in
      simp (ok, nz, low, t, b))

-- what unpacks to nothing, or is refused, has no address
pub none_unpacked : (u : Result (Option SlabAddress) Refusal) → u ≡ Ok None → (a : SlabAddress) → u ≡ Ok (Some a) → ⊥
none_unpacked u e a f = let n : ◌≡◌ {A = ℕ} 0 1 = cc in omega arith

pub none_refused : (u : Result (Option SlabAddress) Refusal) (r : Refusal) → u ≡ Err r → (a : SlabAddress) → u ≡ Ok (Some a) → ⊥
none_refused u r e a f = let n : ◌≡◌ {A = ℕ} 0 1 = cc in omega arith

-- ---- made
-- the address that is made is the one that was asked for
pub made_at : (slab slot : ℕ) (a : SlabAddress) → made_of slab slot ≡ Ok a → ◌≡◌ {A = SlabAddress} (record { slab = slab; slot = slot }) a
unfolding made_of
made_at slab slot a = by (leb slabs slab || ltb largest_slot slot)
  where
    by : (t : Bool) → cond t (Err (refusal out_of_range 0)) (Ok (record { slab = slab; slot = slot })) ≡ Ok a → ◌≡◌ {A = SlabAddress} (record { slab = slab; slot = slot }) a
    by true e = let n : ◌≡◌ {A = ℕ} 0 1 = cc in absurd (omega arith)
    by false e = cc

-- so what it packs into is what the slab and the slot do
pub made_packed : (slots slab slot : ℕ) (a : SlabAddress) → made_of slab slot ≡ Ok a → packed slots a ≡ packed slots (record { slab = slab; slot = slot })
made_packed slots slab slot a e = ap (packed slots) (sym (made_at slab slot a e))

-- one that is not made has no packed location, whatever the capacity
pub made_none : (slots slab slot : ℕ) (r : Refusal) → made_of slab slot ≡ Err r → location_in (packed slots (record { slab = slab; slot = slot })) ≡ 0
unfolding made_of packed
made_none slots slab slot r e =
    by_test (bad_slots slots) (λ b. simp b)
    (λ b.
    by_test (leb slabs slab) (λ t. simp (b, t))
    (λ t.
    by_test (ltb largest_slot slot)
    (λ u.
    let k = slots_range slots b in
    let p : leb slots slot ≡ true = le-leb slots slot (omega (arith, ltb-true largest_slot slot u)) in
    simp (b, t, p))
    (λ u.
    let q : Ok (record { slab = slab; slot = slot }) ≡ Err r = simp (t, u) at e in
    let n : ◌≡◌ {A = ℕ} 0 1 = cc in absurd (omega arith))))

-- ---- packing, then unpacking
pub unpacked_packed : (slots : ℕ) (a : SlabAddress) → bad_slots slots ≡ false → a.slab < slabs → a.slot < slots
    → unpacked slots (packing a.slab a.slot) ≡ Ok (Some a)
unfolding unpacked
unpacked_packed slots a ok b s =
    let r = slots_range slots ok in
    let d : (packing a.slab a.slot) / unit ≡ a.slab + 1 = omega arith in
    let m : (packing a.slab a.slot) % unit ≡ a.slot = omega arith in
    let k : a.slab + 1 - 1 ≡ a.slab = omega arith in
    let nz : eqb (packing a.slab a.slot) 0 ≡ false = ne_eqb (packing a.slab a.slot) 0 (λ (e : packing a.slab a.slot ≡ 0). omega arith) in
    let low : leb 1 (a.slab + 1) ≡ true = le-leb 1 (a.slab + 1) (omega arith) in
    let high : leb (a.slab + 1) slabs ≡ true = le-leb (a.slab + 1) slabs (omega arith) in
    let slot : ltb a.slot slots ≡ true = lt-ltb _ _ s in
    simp (ok, nz, d, m, low, high, slot, k)

pub packed_location : (slots : ℕ) (a : SlabAddress) (location : ℕ) → packed slots a ≡ Ok location → unpacked slots location ≡ Ok (Some a)
unfolding packed
packed_location slots a location = by (bad_slots slots) (leb slabs a.slab) (leb slots a.slot) refl refl refl
  where
    by : (s b t : Bool) → bad_slots slots ≡ s → leb slabs a.slab ≡ b → leb slots a.slot ≡ t
        → cond s (Err (refusal wrong_shape 0)) (cond (b || t) (Err (refusal out_of_range 0)) (Ok (packing a.slab a.slot))) ≡ Ok location
        → unpacked slots location ≡ Ok (Some a)
    by true b t p q r e = let n : ◌≡◌ {A = ℕ} 0 1 = cc in absurd (omega arith)
    by false true t p q r e = let n : ◌≡◌ {A = ℕ} 0 1 = cc in absurd (omega arith)
    by false false true p q r e = let n : ◌≡◌ {A = ℕ} 0 1 = cc in absurd (omega arith)
    by false false false p q r e =
        let l : packing a.slab a.slot ≡ location = cc in
        rw l at (unpacked_packed slots a p (leb-false _ _ q) (leb-false _ _ r))

-- ---- unpacking, then packing
pub packed_unpacked : (slots location : ℕ) (a : SlabAddress) → unpacked slots location ≡ Ok (Some a) → packed slots a ≡ Ok location
unfolding packed
packed_unpacked slots location a e =
    let c = unpacked_at slots location a e in
    simp (c.capacity, lt-leb _ _ c.slab_lt, lt-leb _ _ c.slot_lt, c.whole)
