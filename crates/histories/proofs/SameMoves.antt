-- Two such stores have the same defrag lists. Assumes nothing.
use mathlib.Core.Path.{◌≡◌, refl, sym, ◌∙◌, ap}
use mathlib.Core.Bool.{Bool, true, false, ◌&&◌}
use mathlib.Core.List.{List, [], ◌∷◌, ◌++◌}
use Prim.Native.Nat.{◌-◌, ℕ, ◌*◌, ◌+◌, ◌<◌, ◌≤◌, zero, suc}
use native.Mathlib.Decide.{ℕ_discrete}
use native.Mathlib.Omega.{arith}
use lib.Dec.{eqb}
use lib.ListN.{get_or}
use lib.Ieee.{Float}
use borrow.Author.Tests.{eqb-true}
use Rattle.refusal.proofs.Tests.{and_true}
use Rattle.list_parts.specs.Parts.{part}
use Rattle.list_parts.proofs.Parts.{part_at}
use Rattle.address.specs.Address.{packing, slabs}
use Rattle.marks.specs.Marks.{last_taken, tip_of, count_if, is_taken}
use Rattle.marks.proofs.LawsCount.{last_taken_gt}
use Rattle.fragmentation.specs.Cutoff.{cutoff}
use Rattle.fragmentation.proofs.LawsCutoff.{cutoff_le}
use Rattle.model.specs.Defrag.{moves_in, movable, cons_if, slab_moves, moves_from, all_moves}
use Rattle.model.specs.Store.{Store, Row}
use Rattle.model.specs.Tables.{location_of, in_ids, live, slab_tip}
use Rattle.model.proofs.Sizes.{sized_sizes, slab_tip_le}
use Rattle.model.proofs.Locations.{slot_place_packing}
use Rattle.histories.specs.Invariant.{Inv, Located}
use Rattle.histories.proofs.Same.{Same, loc_same, in_ids_same, same_sym}

-- where the last taken is none, all are free
all_free : (t : List ℕ) → last_taken t ≡ 0 → (p : ℕ) → get_or t p 0 ≡ 0
all_free t e p = elim (ℕ_discrete (get_or t p 0) 0) [ yes z ↦ z | no n ↦ absurd (omega (arith, last_taken_gt t p n)) ]

-- a slot that may move: its owner has it as its location
own : Store → ℕ → ℕ → ℕ
own s k j = get_or s.owners (k * s.slots + j) 0

at_slot : (s : Store) → Inv s → (k j o : ℕ) → j < s.slots → location_of s o ≡ packing k j
    → (get_or s.slot_marks (k * s.slots + j) 0 ≡ 1) × (own s k j ≡ o)
unfolding own
at_slot s v k j o h e =
    let L : Located s.slots s.id_marks s.slot_marks s.owners o (packing k j) = rw e at (v.good.located o (rw e (omega arith))) in
    let a = slot_place_packing s.slots k j v.good.small h in
    (rw a at L.slot_held, rw a at L.owner)

-- no slot moves from a slab that is free from j on
no_moves : (s : Store) → Inv s → (k j n : ℕ) → j + n ≤ s.slots → ((p : ℕ) → p < s.slots → get_or s.slot_marks (k * s.slots + p) 0 ≡ 0) → moves_in s k j n ≡ []
no_moves s v k j zero h f = refl
no_moves s v k j (suc n) h f = go (movable s k j (get_or s.owners (k * s.slots + j) 0)) refl (no_moves s v k (suc j) n (omega arith) f)
  where
    o : ℕ
    o = get_or s.owners (k * s.slots + j) 0

    go : (b : Bool) → movable s k j o ≡ b → moves_in s k (suc j) n ≡ [] → cons_if b (o, packing k j) (moves_in s k (suc j) n) ≡ []
    go true e r = let q = at_slot s v k j o (omega arith) (eqb-true _ _ (and_true (in_ids s o) _ e).1) in
        let z : get_or s.slot_marks (k * s.slots + j) 0 ≡ 0 = f j (omega arith) in
        let y : get_or s.slot_marks (k * s.slots + j) 0 ≡ 1 = q.0 in absurd (omega arith)
    go false e r = r

cons_same : (b b' : Bool) (x x' : Row) (r r' : List Row) → b ≡ b' → (b ≡ true → x ≡ x') → r ≡ r' → cons_if b x r ≡ cons_if b' x' r'
cons_same true b' x x' r r' p q w = rw (← p) λ i. q refl i ∷ w i
cons_same false b' x x' r r' p q w = rw (← p) w

module _ (s t : Store) (e : Same s t) (vs : Inv s) (vt : Inv t) where
  -- the owner of a slot that may move is the same in the other store
  one_way : (k j : ℕ) → j < s.slots → movable s k j (own s k j) ≡ true → own t k j ≡ own s k j
  one_way k j h m = (at_slot t vt k j (own s k j) (rw (← e.slots) h) (sym (loc_same s t e vs vt (own s k j)) ∙ eqb-true _ _ (and_true (in_ids s (own s k j)) _ m).1)).1

  movable_same : (k j o : ℕ) → movable s k j o ≡ movable t k j o
  movable_same k j o = λ i. in_ids_same s t e vs vt o i && eqb (loc_same s t e vs vt o i) (packing k j)

test_same : (s t : Store) → Same s t → Inv s → Inv t → (k j : ℕ) → j < s.slots → movable s k j (own s k j) ≡ movable t k j (own t k j)
test_same s t e vs vt k j h = go (movable s k j (own s k j)) (movable t k j (own t k j)) refl refl
  where
    go : (b c : Bool) → movable s k j (own s k j) ≡ b → movable t k j (own t k j) ≡ c → b ≡ c
    go true c p q = sym p ∙ movable_same s t e vs vt k j (own s k j) ∙ ap (movable t k j) (sym (one_way s t e vs vt k j h p)) ∙ q
    go false true p q =
        sym p ∙ ap (movable s k j) (one_way t s (same_sym e) vt vs k j (rw (← e.slots) h) q) ∙ movable_same s t e vs vt k j (own t k j) ∙ q
    go false false p q = refl

moves_same : (s t : Store) → Same s t → Inv s → Inv t → (k j n : ℕ) → j + n ≤ s.slots → moves_in s k j n ≡ moves_in t k j n
unfolding own
moves_same s t e vs vt k j zero h = refl
moves_same s t e vs vt k j (suc n) h =
    cons_same (movable s k j (own s k j)) (movable t k j (own t k j)) (own s k j, packing k j) (own t k j, packing k j) _ _
    (test_same s t e vs vt k j (omega arith))
    (λ m. ap {B = Row} (λ o. (o, packing k j)) (sym (one_way s t e vs vt k j (omega arith) m)))
    (moves_same s t e vs vt k (suc j) n (omega arith))

-- the list of a slab with nothing taken is empty, whatever its tip
none_taken : (s : Store) → Inv s → (r : Float) (k n : ℕ) → n ≤ s.slots → last_taken (part s.slots s.slot_marks k) ≡ 0 → slab_moves s r k n ≡ []
none_taken s v r k n h z =
    let a = cutoff_le (live s k) n r in
    no_moves s v k (cutoff (live s k) n r) (n - cutoff (live s k) n r) (omega arith)
    (λ p q. sym (part_at s.slots s.slot_marks k p 0 q) ∙ all_free (part s.slots s.slot_marks k) z p)

slab_same : (s t : Store) → Same s t → Inv s → Inv t → (r : Float) (k : ℕ) → slab_moves s r k (slab_tip s k) ≡ slab_moves t r k (slab_tip t k)
slab_same s t e vs vt r k = go (last_taken ps) refl
  where
    ps : List ℕ
    ps = part s.slots s.slot_marks k

    parts : part s.slots s.slot_marks k ≡ part t.slots t.slot_marks k
    parts = λ i. part (e.slots i) (e.slot_marks i) k

    go : (n : ℕ) → last_taken ps ≡ n → slab_moves s r k (slab_tip s k) ≡ slab_moves t r k (slab_tip t k)
    go zero z = none_taken s vs r k (slab_tip s k) (slab_tip_le s (sized_sizes s vs.is_sized).range.slots_from k) z
        ∙ sym (none_taken t vt r k (slab_tip t k) (slab_tip_le t (sized_sizes t vt.is_sized).range.slots_from k) (ap last_taken (sym parts) ∙ z))
    go (suc n) z =
        let ts : slab_tip s k ≡ suc n = ap (λ x. tip_of x (get_or s.tallies.used (suc k) 0)) z in
        let tt' : slab_tip t k ≡ suc n = ap (λ x. tip_of x (get_or t.tallies.used (suc k) 0)) (ap last_taken (sym parts) ∙ z) in
        let lv : live s k ≡ live t k = ap (count_if is_taken) parts in
        let b : suc n ≤ s.slots = rw ts at (slab_tip_le s (sized_sizes s vs.is_sized).range.slots_from k) in
        let a = cutoff_le (live s k) (suc n) r in
        ap (slab_moves s r k) ts
        ∙ moves_same s t e vs vt k (cutoff (live s k) (suc n) r) (suc n - cutoff (live s k) (suc n) r) (omega arith)
        ∙ ap (λ l. moves_in t k (cutoff l (suc n) r) (suc n - cutoff l (suc n) r)) lv
        ∙ ap (slab_moves t r k) (sym tt')

moves_from_same : (s t : Store) → Same s t → Inv s → Inv t → (r : Float) (n k : ℕ) → moves_from s r n k ≡ moves_from t r n k
unfolding moves_from
moves_from_same s t e vs vt r zero k = refl
moves_from_same s t e vs vt r (suc n) k = λ i. slab_same s t e vs vt r k i ++ moves_from_same s t e vs vt r n (suc k) i

pub all_moves_same : (s t : Store) → Same s t → Inv s → Inv t → (r : Float) → all_moves s r ≡ all_moves t r
all_moves_same s t e vs vt r = moves_from_same s t e vs vt r slabs 0
