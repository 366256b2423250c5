-- One id and one slot: what the tables say is what the model says of the store that they stand for. Assumes nothing.
use Rattle.std.proofs.Common.{◌≡◌, ℕ, zero, suc, pred, ◌+◌, ◌-◌, ◌*◌, ◌/◌, ◌%◌, ◌<◌, ◌≤◌, false, not, ◌&&◌, eqb, ltb, List, [], length, get_or, take, drop, sym, refl, ap, ◌∙◌, mul-le-mul, arith, drop_of_length-le, lt-ltb}
use lib.Dec.{eqb-suc-zero}
use lib.Seq.{take-nil}
use Rattle.refusal.specs.declared.Refusal.{Refusal}
use Rattle.refusal.proofs.Tests.{by_test}
use Rattle.list_parts.specs.Parts.{part}
use Rattle.list_parts.proofs.Parts.{part_at}
use Rattle.address.specs.Address.{unit, is_location, bad_slots, unpacked, slabs}
use Rattle.address.specs.declared.SlabAddress.{SlabAddress}
use Rattle.address.proofs.Laws.{slots_range}
use Rattle.id_allocator.specs.Counted.{hinted, quiet, counted}
use Rattle.model.specs.Tables.{held_id, bad_at}
use Rattle.model.specs.Memory.{Memory, counted_by, counted_slabs, read}
use Rattle.model.proofs.Locations.{is_location_says}
use Rattle.model.proofs.Slabs.{part_counted_slabs}
use Rattle.tables.specs.Entries.{held_in, slab_part, owns_in, bad_by, bad_in}
use Rattle.std.specs.Prelude.{Result, Ok, Err, Option, Some, None}

-- ---- ids
pub held_in_read : (m : Memory) (i : ℕ) → held_id (read m) i ≡ held_in m.ids m.id_marks m.tallies i
unfolding held_in read
held_in_read m i = refl

-- ---- slabs
pub slab_part_none : (cap k : ℕ) (t : List ℕ) → (ltb k slabs && not (bad_slots cap)) ≡ false → slab_part cap t k ≡ []
unfolding slab_part
slab_part_none cap k t e = rw e

pub slab_part_is : (cap k : ℕ) (t : List ℕ) → k < slabs → bad_slots cap ≡ false → slab_part cap t k ≡ part cap t k
unfolding slab_part
slab_part_is cap k t h e = simp (lt-ltb k slabs h, e)

pub start_lt : (cap k : ℕ) → k < slabs → bad_slots cap ≡ false → k * cap ≤ 77 * 65536
start_lt cap k h e = let b : k ≤ 77 = omega arith in mul-le-mul b (slots_range cap e).1

-- where there is no such slab or capacity no slot is held, so that no id owns one
counted_none : (hint waiting : ℕ) → counted hint waiting [] ≡ []
unfolding counted quiet hinted
counted_none hint waiting = rw (take-nil {A = ℕ} hint, drop_of_length-le {A = ℕ} [] {i = hint} (omega arith)) (by waiting)
  where
    by : (w : ℕ) → quiet w [] ≡ []
    by zero = refl
    by (suc w) = refl

pub owns_in_none : (cap : ℕ) (marks owners words : List ℕ) (i : ℕ) (a : SlabAddress) → (ltb a.slab slabs && not (bad_slots cap)) ≡ false
    → false ≡ owns_in cap marks owners words i a
owns_in_none cap marks owners words i a e =
    let p : slab_part cap marks a.slab ≡ [] = slab_part_none cap a.slab marks e in
    let q : counted_by words (a.slab + 1) (slab_part cap marks a.slab) ≡ [] = ap (counted_by words (a.slab + 1)) p ∙ counted_none _ _ in
    rw q

-- the end of a list, from its length on, is empty
pub end_part : (t : List ℕ) → take (length t - length t) (drop (length t) t) ≡ []
end_part t = rw (drop_of_length-le t {i = length t} (omega arith)) (take-nil (length t - length t))

-- ---- what a `let .. else` on an unpacked location tells of its `else`
pub else_is : {A : Type 0} (f : Result (Option SlabAddress) Refusal → A) (d : A) → f (Ok None) ≡ d → ((r : Refusal) → f (Err r) ≡ d) → (u : Result (Option SlabAddress) Refusal) → ((a : SlabAddress) → u ≡ Ok (Some a) → ⊥) → f u ≡ d
else_is f d p q (Ok (Some a)) k = absurd (k a refl)
else_is f d p q (Ok None) k = p
else_is f d p q (Err r) k = q r

-- ---- locations
-- refusal 13 by what a location unpacks to
module _ (cap : ℕ) (marks owners words : List ℕ) (i l : ℕ) where
  pub bad_in_none : (u : Result (Option SlabAddress) Refusal) → u ≡ unpacked cap l → ((a : SlabAddress) → u ≡ Ok (Some a) → ⊥) → bad_in cap marks owners words i l ≡ not (eqb l 0)
  unfolding bad_by
  bad_in_none u e k = ap (bad_by cap marks owners words i l) (sym e) ∙ else_is (bad_by cap marks owners words i l) _ refl (λ r. refl) u k

  pub bad_in_at : (a : SlabAddress) → unpacked cap l ≡ Ok (Some a) → bad_in cap marks owners words i l ≡ not (owns_in cap marks owners words i a)
  unfolding bad_by
  bad_in_at a e = ap (bad_by cap marks owners words i l) e

  pub bad_in_zero : l ≡ 0 → bad_in cap marks owners words i l ≡ false
  unfolding bad_by unpacked
  bad_in_zero e = rw e (by_test (bad_slots cap) (λ b. simp b) (λ b. simp b))

-- a slot's mark, read slab by slab
mark_read : (m : Memory) (k j : ℕ) → length m.slot_marks ≡ slabs * m.slots → k < slabs → j < m.slots
    → get_or (counted_slabs m.slots m.tallies slabs 0 m.slot_marks) (k * m.slots + j) 0 ≡ get_or (counted_by m.tallies (k + 1) (part m.slots m.slot_marks k)) j 0
mark_read m k j n hk hj =
    let e : suc (0 + k) ≡ k + 1 = omega arith in
    sym (part_at m.slots (counted_slabs m.slots m.tallies slabs 0 m.slot_marks) k j 0 hj)
    ∙ ap (λ (x : List ℕ). get_or x j 0) (part_counted_slabs m.slots m.tallies slabs 0 m.slot_marks k n hk)
    ∙ ap (λ (a : ℕ). get_or (counted_by m.tallies a (part m.slots m.slot_marks k)) j 0) e

pub bad_in_read : (m : Memory) (i l : ℕ) → bad_slots m.slots ≡ false → length m.slot_marks ≡ slabs * m.slots
    → bad_in m.slots m.slot_marks m.owners m.tallies i l ≡ bad_at (read m) i l
unfolding bad_by unpacked read
bad_in_read m i zero ok n = rw ok
bad_in_read m i (suc l) ok n = by_test (is_location m.slots (suc l))
    (λ h.
    let v = is_location_says m.slots (suc l) h in
    let k : suc l / unit - 1 < slabs = omega (arith, v.low, v.high) in
    let p : pred (suc l / unit) ≡ suc l / unit - 1 = omega (arith, v.low) in
    let w = mark_read m (suc l / unit - 1) (suc l % unit) n k v.slot in
    let q = slab_part_is m.slots (suc l / unit - 1) m.slot_marks k ok in
    simp (ok, eqb-suc-zero l, h, q, p, w))
    (λ h. simp (ok, eqb-suc-zero l, h))
