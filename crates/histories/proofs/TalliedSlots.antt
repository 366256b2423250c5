-- How many slots of a slab are held or pending after one mark of the table is changed, and so after a list of free locations is taken or a
-- list of held ones given back. One weighted count drives each, as for ids. Assumes nothing.
use mathlib.Core.Path.{ap, ◌≡◌, ◌∙◌, sym, refl}
use mathlib.Core.Logic.{◌≢◌}
use mathlib.Core.Bool.{Bool, true, cond, false}
use mathlib.Core.List.{List, ◌∷◌, []}
use Prim.Native.Nat.{ℕ, ◌<◌, ◌/◌, suc, ◌+◌, ◌%◌, ◌*◌, zero, ◌≤◌}
use native.Mathlib.Nat.{suc-ne-zero, add-zero, add_assoc}
use native.Mathlib.Omega.{arith}
use lib.Dec.{eqb-zero-suc}
use lib.ListN.{length, get_or, length-take, drop, length-drop, set, replicate, length-replicate}
use lib.Seq.{get_or-drop}
use borrow.Author.Tests.{eqb-true, eqb-false}
use Rattle.list_parts.specs.Lists.{elem}
use Rattle.list_parts.specs.Parts.{part}
use Rattle.list_parts.proofs.Lists.{elem_not}
use Rattle.list_parts.proofs.Parts.{part_at}
use Rattle.address.specs.Address.{is_location, unit, slabs}
use Rattle.marks.specs.Marks.{count_if, is_taken}
use Rattle.marks.proofs.LawsCount.{weight, count_if_set, count_if_cons}
use Rattle.model.specs.Batches.{place, spot_for}
use Rattle.model.specs.Store.{Update, Store, Row}
use Rattle.model.specs.Tables.{slot_place, write, write_all, locations_of}
use Rattle.model.proofs.Batches.{spot_for_is}
use Rattle.model.proofs.Lists.{nz_lt, one_nz, zeros, take_each}
use Rattle.model.proofs.Locations.{is_location_says, slab_of, slot_place_inj, slot_place_lt}
use Rattle.model.proofs.Spots.{Spot}
use Rattle.model.proofs.Writes.{write_other, length_write, part_write, part_write_other}
use Rattle.histories.specs.Invariant.{KeptRows}
use Rattle.histories.specs.Statements.{in_slab, held_or_pending}
use Rattle.histories.proofs.KeptRebuild.{Apart}

-- ---- one number of a slot table, seen from slab k

slab_here : (p : ℕ → Bool) (cap l v : ℕ) (t : List ℕ) (k : ℕ) → is_location cap l ≡ true → slot_place cap l < length t → l / unit ≡ suc k
    → count_if p (part cap (write cap l v t) k) + weight (p (get_or t (slot_place cap l) 0)) ≡ count_if p (part cap t k) + weight (p v)
slab_here p cap l v t k w h e =
    let us : l % unit < cap = (is_location_says cap l w).slot in
    let a : slot_place cap l ≡ k * cap + l % unit = slab_of cap l k w e in
    let h' : k * cap + l % unit < length t = rw a at h in
    let len : l % unit < length (part cap t k) = rw (length-take cap (drop (k * cap) t), length-drop (k * cap) t) (omega arith) in
    let g : get_or (part cap t k) (l % unit) 0 ≡ get_or t (k * cap + l % unit) 0 = part_at cap t k (l % unit) 0 us in
    let s : part cap (write cap l v t) k ≡ set (part cap t k) (l % unit) v = part_write cap l v t k w e in
    ap (λ x. count_if p x + weight (p (get_or t (slot_place cap l) 0))) s
    ∙ ap (λ x. count_if p (set (part cap t k) (l % unit) v) + weight (p x)) (ap (λ x. get_or t x 0) a ∙ sym g)
    ∙ count_if_set p (part cap t k) (l % unit) v len

-- a slot with mark m gets mark v: by how many slab k's count of held or pending slots changes
pub slab_count : (cap l v : ℕ) (t : List ℕ) (k : ℕ) → is_location cap l ≡ true → slot_place cap l < length t → (b : Bool) → in_slab k l ≡ b
    → held_or_pending (part cap (write cap l v t) k) + cond b (weight (is_taken (get_or t (slot_place cap l) 0))) 0 ≡ held_or_pending (part cap t k) + cond b (weight (is_taken v)) 0
slab_count cap l v t k w h true e = slab_here is_taken cap l v t k w h (eqb-true (l / unit) (suc k) e)
slab_count cap l v t k w h false e = ap (λ x. held_or_pending x + 0) (part_write_other cap l v t k w (eqb-false (l / unit) (suc k) e))

-- ---- slots taken

take_one : (cap : ℕ) (t : List ℕ) (l k : ℕ) → (l ≢ 0 → Spot cap t l) → held_or_pending (part cap (write cap l 1 t) k) ≡ held_or_pending (part cap t k) + weight (in_slab k l)
take_one cap t zero k f = sym (add-zero (held_or_pending (part cap t k))) ∙ ap (λ b. held_or_pending (part cap t k) + weight b) (sym (eqb-zero-suc k))
take_one cap t (suc l) k f =
    let s = f (suc-ne-zero l) in
    go (in_slab k (suc l)) (slab_count cap (suc l) 1 t k s.range s.inside (in_slab k (suc l)) refl) s.is_free_lem
  where
    n' : ℕ
    n' = held_or_pending (part cap (write cap (suc l) 1 t) k)

    n : ℕ
    n = held_or_pending (part cap t k)

    go : (b : Bool) → n' + cond b (weight (is_taken (get_or t (slot_place cap (suc l)) 0))) 0 ≡ n + cond b 1 0 → get_or t (slot_place cap (suc l)) 0 ≡ 0 → n' ≡ n + weight b
    go true e z = let e' : n' + 0 ≡ n + 1 = rw z at e in omega arith
    go false e z = omega arith

pub live_place : (cap : ℕ) (t : List ℕ) (us : List Update) (k : ℕ) → cap ≤ 65536 → length t ≡ slabs * cap
    → held_or_pending (part cap (write_all cap (place cap t us) 1 t) k) ≡ held_or_pending (part cap t k) + count_if (in_slab k) (place cap t us)
live_place cap t [] k c len = omega arith
live_place cap t (u ∷ us) k c len =
    let w = spot_for cap t u in
    let t' = write cap w 1 t in
    let ls = place cap t' us in
    live_place cap t' us k c (length_write cap w 1 t ∙ len)
    ∙ ap (λ x. x + count_if (in_slab k) ls) (take_one cap t w k (spot_for_is cap t u c len))
    ∙ add_assoc (held_or_pending (part cap t k)) (weight (in_slab k w)) (count_if (in_slab k) ls)
    ∙ ap (λ x. held_or_pending (part cap t k) + x) (sym (count_if_cons (in_slab k) w ls))

-- ---- slots given back

-- locations that are held in t, each once
abbrev Held : ℕ → List ℕ → List ℕ → Type 0
Held cap t [] = Unit
Held cap t (l ∷ ls) = (l ≢ 0 → (is_location cap l ≡ true) × (get_or t (slot_place cap l) 0 ≡ 1) × (elem l ls ≡ false)) × Held cap t ls

pub held_rows : (cap : ℕ) (im lo sm : List ℕ) (ks : List Row) → KeptRows cap im lo sm ks → Held cap sm (locations_of ks)
held_rows cap im lo sm [] t = tt
held_rows cap im lo sm (r ∷ rs) t = (λ n. ((t.0.reserved n).range, (t.0.reserved n).slot_held, t.0.new_loc n), held_rows cap im lo sm rs t.1)

held_on : (cap l : ℕ) (t ls : List ℕ) → is_location cap l ≡ true → elem l ls ≡ false → Held cap t ls → Held cap (write cap l 0 t) ls
held_on cap l t [] v e h = tt
held_on cap l t (k ∷ ks) v e h =
    let n = elem_not l k ks e in (
      λ z. let q = h.0 z in
          (q.0, write_other cap l 0 t (slot_place cap k) (λ _ p. n.0 (sym (slot_place_inj cap k l q.0 v p))) ∙ q.1, q.2),
      held_on cap l t ks v n.1 h.1,
    )

pub live_freed : (cap : ℕ) (t ls : List ℕ) (k : ℕ) → Held cap t ls
    → held_or_pending (part cap t k) ≡ held_or_pending (part cap (write_all cap ls 0 t) k) + count_if (in_slab k) ls
live_freed cap t [] k h = omega arith
live_freed cap t (zero ∷ ls) k h =
    live_freed cap t ls k h.1
    ∙ ap (λ b. held_or_pending (part cap (write_all cap ls 0 t) k) + cond b (suc (count_if (in_slab k) ls)) (count_if (in_slab k) ls)) (sym (eqb-zero-suc k))
live_freed cap t (suc l ∷ ls) k h =
    let q = h.0 (suc-ne-zero l) in
    go (in_slab k (suc l)) q.1 (slab_count cap (suc l) 0 t k q.0 (nz_lt t _ (one_nz q.1)) (in_slab k (suc l)) refl)
    (live_freed cap (write cap (suc l) 0 t) ls k (held_on cap (suc l) t ls q.0 q.2 h.1))
  where
    t' : List ℕ
    t' = write cap (suc l) 0 t

    go : (b : Bool) → get_or t (slot_place cap (suc l)) 0 ≡ 1
        → held_or_pending (part cap t' k) + cond b (weight (is_taken (get_or t (slot_place cap (suc l)) 0))) 0 ≡ held_or_pending (part cap t k) + cond b 0 0
        → held_or_pending (part cap t' k) ≡ held_or_pending (part cap (write_all cap ls 0 t') k) + count_if (in_slab k) ls
        → held_or_pending (part cap t k) ≡ held_or_pending (part cap (write_all cap ls 0 t') k) + cond b (suc (count_if (in_slab k) ls)) (count_if (in_slab k) ls)
    go true e h r = let h' : held_or_pending (part cap t' k) + 1 ≡ held_or_pending (part cap t k) + 0 = rw e at h in omega arith
    go false e h r = omega arith

-- ---- rows rebuilt

-- slots in range, free in t, each once
abbrev Open : ℕ → List ℕ → List Row → Type 0
Open cap t [] = Unit
Open cap t (r ∷ rs) = Spot cap t r.1 × (elem r.1 (locations_of rs) ≡ false) × Open cap t rs

open_on : (cap l : ℕ) (t : List ℕ) (rs : List Row) → is_location cap l ≡ true → elem l (locations_of rs) ≡ false → Open cap t rs → Open cap (write cap l 1 t) rs
open_on cap l t [] v e h = tt
open_on cap l t (r ∷ rs) v e h =
    let n = elem_not l r.1 (locations_of rs) e in (
      record {
        range = h.0.range;
        is_free_lem = write_other cap l 1 t (slot_place cap r.1) (λ _ p. n.0 (sym (slot_place_inj cap r.1 l h.0.range v p))) ∙ h.0.is_free_lem;
        inside = rw length_write h.0.inside;
      },
      h.1,
      open_on cap l t rs v n.1 h.2,
    )

pub count_slots : (cap : ℕ) (t : List ℕ) (rs : List Row) (k : ℕ) → Open cap t rs
    → held_or_pending (part cap (write_all cap (locations_of rs) 1 t) k) ≡ held_or_pending (part cap t k) + count_if (in_slab k) (locations_of rs)
count_slots cap t [] k h = omega arith
count_slots cap t (r ∷ rs) k h =
    count_slots cap (write cap r.1 1 t) rs k (open_on cap r.1 t rs h.0.range h.1 h.2)
    ∙ ap (λ x. x + count_if (in_slab k) (locations_of rs)) (take_one cap t r.1 k (λ n. h.0))
    ∙ add_assoc (held_or_pending (part cap t k)) (weight (in_slab k r.1)) (count_if (in_slab k) (locations_of rs))
    ∙ ap (λ x. held_or_pending (part cap t k) + x) (sym (count_if_cons (in_slab k) r.1 (locations_of rs)))

pub open_rows : (s : Store) (rs : List Row) → Apart s rs → Open s.slots (replicate (slabs * s.slots) 0) rs
open_rows s [] a = tt
open_rows s (r ∷ rs) a = (
  record {
    range = a.1;
    is_free_lem = zeros (slabs * s.slots) (slot_place s.slots r.1);
    inside = rw (length-replicate {A = ℕ} (slabs * s.slots) 0) (slot_place_lt s.slots r.1 a.1);
  },
  a.3,
  open_rows s rs a.4,
)

-- nothing is held or pending in a part of nothing
all_zero_lem : (t : List ℕ) → ((p : ℕ) → get_or t p 0 ≡ 0) → held_or_pending t ≡ 0
all_zero_lem [] h = refl
all_zero_lem (m ∷ t) h = rw (count_if_cons is_taken m t, h 0) (omega (arith, all_zero_lem t (λ p. h (suc p))))

pub part_zeros : (cap n k : ℕ) → held_or_pending (part cap (replicate n 0) k) ≡ 0
part_zeros cap n k = all_zero_lem (part cap (replicate n 0) k)
    (take_each (λ x. x ≡ 0) cap (drop (k * cap) (replicate n 0)) refl (λ p. get_or-drop (k * cap) (replicate n 0) p 0 ∙ zeros n (k * cap + p)))
