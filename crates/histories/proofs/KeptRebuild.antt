-- A rebuild gives a store of the invariant: its rows are apart. Assumes nothing.
use mathlib.Core.Path.{◌≡◌, ◌∙◌, sym, refl}
use mathlib.Core.Logic.{◌≢◌, ◌⊎◌, inl, inr}
use mathlib.Core.Bool.{true, false, true≢false}
use mathlib.Core.List.{List, [], ◌∷◌}
use Prim.Native.Nat.{ℕ, ◌<◌, ◌≤◌, suc, ◌*◌, min}
use native.Mathlib.Decide.{ℕ_discrete}
use native.Mathlib.Omega.{arith}
use lib.Dec.{ltb}
use lib.ListN.{length, get_or, set, length-set, replicate, length-replicate}
use lib.Seq.{get_or-set_same, get_or-set_other}
use borrow.Author.Tests.{ltb-true, ne_eqb, not-false, eq-eqb}
use Rattle.refusal.proofs.Tests.{and_true, all}
use Rattle.list_parts.specs.Lists.{elem}
use Rattle.list_parts.proofs.Lists.{elem_not, elem_tail, elem_head}
use Rattle.address.specs.Address.{is_location, slabs}
use Rattle.model.specs.Rebuild.{rows, held_by, located_by, owned_by, rebuilt}
use Rattle.model.specs.Store.{Store, Row}
use Rattle.model.specs.Tables.{carried_bytes, slot_place, write, in_ids, ids_of, locations_of, write_all, allocators, capacities}
use Rattle.model.specs.Lending.{lent_fit, sized}
use Rattle.model.specs.Verdict.{ok}
use Rattle.model.proofs.Batches.{length_use_each}
use Rattle.model.proofs.Sizes.{capacities_range}
use Rattle.model.proofs.Lists.{set_each, set_keeps, zeros}
use Rattle.model.proofs.Locations.{slot_place_lt, slot_place_inj, is_location_nz}
use Rattle.model.proofs.Writes.{length_write, write_each, write_same, write_keeps, write_other, length_write_all}
use Rattle.model.proofs.Verdicts.{then_ok, test_ok, first_ok}
use Rattle.histories.specs.Invariant.{Good, Located, Inv}

-- a row is added
add_row : (cap : ℕ) (im lo sm ow : List ℕ) (i l : ℕ) → Good cap im lo sm ow [] → 0 < i → i < length lo → is_location cap l ≡ true
    → get_or lo i 0 ≡ 0 → get_or sm (slot_place cap l) 0 ≡ 0 → Good cap (set im i 1) (set lo i l) (write cap l 1 sm) (write cap l i ow) []
add_row cap im lo sm ow i l g pos hi vl zi zl = record {
  small = g.small;
  same_ids = length-set lo i l ∙ g.same_ids ∙ sym (length-set im i 1);
  full = length_write cap l 1 sm ∙ g.full;
  same_slots = length_write cap l i ow ∙ g.same_slots ∙ sym (length_write cap l 1 sm);
  id_mark = set_each (λ x. x ≤ 2) im i 1 (omega arith) g.id_mark;
  slot_mark = write_each (λ x. x ≤ 2) cap l 1 sm (omega arith) g.slot_mark;
  located = λ j. loc j (ℕ_discrete j i);
  accounted = λ k v e. acc k v e (ℕ_discrete (slot_place cap k) (slot_place cap l));
  keeps = tt;
}
  where
    in_sm : slot_place cap l < length sm
    in_sm = rw g.full (slot_place_lt cap l vl)

    in_ow : slot_place cap l < length ow
    in_ow = rw g.same_slots in_sm

    loc : (j : ℕ) → Dec (j ≡ i) → get_or (set lo i l) j 0 ≢ 0 → Located cap (set im i 1) (write cap l 1 sm) (write cap l i ow) j (get_or (set lo i l) j 0)
    loc j (yes s) h = rw s (rw (get_or-set_same lo i l 0 hi) (record {
      pos = pos;
      id_held = get_or-set_same im i 1 0 (rw (← g.same_ids) hi);
      range = vl;
      slot_held = write_same cap l 1 sm vl in_sm;
      owner = write_same cap l i ow vl in_ow;
    }))
    loc j (no ne) h =
        let same : get_or (set lo i l) j 0 ≡ get_or lo j 0 = get_or-set_other lo i j l 0 ne in
        let L = g.located j (rw same at h) in
        rw same (record {
          pos = L.pos;
          id_held = set_keeps im i 1 j L.id_held;
          range = L.range;
          slot_held = write_keeps cap l 1 sm _ L.slot_held;
          owner = write_other cap l i ow _ (λ z e. let y : get_or sm (slot_place cap l) 0 ≡ 1 = rw e at L.slot_held in omega arith) ∙ L.owner;
        })

    acc : (k : ℕ) → is_location cap k ≡ true → get_or (write cap l 1 sm) (slot_place cap k) 0 ≡ 1 → Dec (slot_place cap k ≡ slot_place cap l)
        → (get_or (set lo i l) (get_or (write cap l i ow) (slot_place cap k) 0) 0 ≡ k) ⊎ (false ≡ true)
    acc k v e (yes s) =
        let q : k ≡ l = slot_place_inj cap k l v vl s in
        inl (rw q (rw (write_same cap l i ow vl in_ow) (get_or-set_same lo i l 0 hi)))
    acc k v e (no ne) = rw (write_other cap l i ow (slot_place cap k) (λ z. ne)) (go (g.accounted k v (sym (write_other cap l 1 sm (slot_place cap k) (λ z. ne)) ∙ e)))
      where
        own : ℕ
        own = get_or ow (slot_place cap k) 0

        go : (get_or lo own 0 ≡ k) ⊎ (false ≡ true) → (get_or (set lo i l) own 0 ≡ k) ⊎ (false ≡ true)
        go (inl q) = inl (get_or-set_other lo i own l 0 (λ p. is_location_nz cap k v (sym q ∙ rw p zi)) ∙ q)
        go (inr q) = inr q

-- the rows of a granted rebuild: in range, each id and each location once
abbrev pub Apart : Store → List Row → Type 0
Apart s [] = Unit
Apart s (r ∷ rs) =
    (in_ids s r.0 ≡ true) × (is_location s.slots r.1 ≡ true) × (elem r.0 (ids_of rs) ≡ false) × (elem r.1 (locations_of rs) ≡ false) × Apart s rs

abbrev Untouched : ℕ → List ℕ → List ℕ → List Row → Type 0
Untouched cap lo sm [] = Unit
Untouched cap lo sm (r ∷ rs) = (get_or lo r.0 0 ≡ 0) × (get_or sm (slot_place cap r.1) 0 ≡ 0) × Untouched cap lo sm rs

-- a row leaves the later rows untouched
untouch : (s : Store) (lo sm : List ℕ) (i l : ℕ) (rs : List Row) → is_location s.slots l ≡ true → Apart s rs
    → elem i (ids_of rs) ≡ false → elem l (locations_of rs) ≡ false → Untouched s.slots lo sm rs
    → Untouched s.slots (set lo i l) (write s.slots l 1 sm) rs
untouch s lo sm i l [] v a ni nl u = tt
untouch s lo sm i l (r ∷ rs) v a ni nl u =
    let p = elem_not i r.0 (ids_of rs) ni in
    let q = elem_not l r.1 (locations_of rs) nl in (
      get_or-set_other lo i r.0 l 0 (λ e. p.0 (sym e)) ∙ u.0,
      write_other s.slots l 1 sm (slot_place s.slots r.1) (λ n e. q.0 (sym (slot_place_inj s.slots r.1 l a.1 v e))) ∙ u.1,
      untouch s lo sm i l rs v a.4 p.1 q.1 u.2,
    )

add_rows : (s : Store) (im lo sm ow : List ℕ) (rs : List Row) → Good s.slots im lo sm ow [] → length lo ≡ s.ids → Apart s rs
    → Untouched s.slots lo sm rs
    → Good s.slots (held_by rs im) (located_by rs lo) (write_all s.slots (locations_of rs) 1 sm) (owned_by s.slots rs ow) []
add_rows s im lo sm ow [] g len a u = g
add_rows s im lo sm ow (r ∷ rs) g len a u =
    let b = and_true (ltb 0 r.0) (ltb r.0 s.ids) a.0 in
    add_rows s (set im r.0 1) (set lo r.0 r.1) (write s.slots r.1 1 sm) (write s.slots r.1 r.0 ow) rs
    (add_row s.slots im lo sm ow r.0 r.1 g (ltb-true 0 r.0 b.0) (rw len (ltb-true r.0 s.ids b.1)) a.1 u.0 u.1)
    (length-set lo r.0 r.1 ∙ len) a.4 (untouch s lo sm r.0 r.1 rs a.1 a.4 a.2 a.3 u.2)

-- ---- the rows of a granted rebuild are apart

unseen_id : (s : Store) (is ls : List ℕ) (i : ℕ) (rs : List Row) → rows s is ls i rs ≡ ok → (x : ℕ) → elem x is ≡ true → elem x (ids_of rs) ≡ false
unseen_id s is ls i [] e x m = refl
unseen_id s is ls i (r ∷ rs) e x m =
    let e₁ = then_ok _ _ e in
    let e₂ = then_ok _ _ e₁ in
    let e₃ = then_ok _ _ e₂ in
    let e₄ = then_ok _ _ e₃ in
    let new : elem r.0 is ≡ false = test_ok _ _ _ (first_ok _ _ e₁) in
    rw (ne_eqb x r.0 (λ q. true≢false (sym m ∙ rw q new))) (unseen_id s (r.0 ∷ is) (r.1 ∷ ls) (suc i) rs e₄ x (elem_tail x r.0 is m))

unseen_loc : (s : Store) (is ls : List ℕ) (i : ℕ) (rs : List Row) → rows s is ls i rs ≡ ok → (x : ℕ) → elem x ls ≡ true → elem x (locations_of rs) ≡ false
unseen_loc s is ls i [] e x m = refl
unseen_loc s is ls i (r ∷ rs) e x m =
    let e₁ = then_ok _ _ e in
    let e₂ = then_ok _ _ e₁ in
    let e₃ = then_ok _ _ e₂ in
    let e₄ = then_ok _ _ e₃ in
    let new : elem r.1 ls ≡ false = test_ok _ _ _ (first_ok _ _ e₃) in
    rw (ne_eqb x r.1 (λ q. true≢false (sym m ∙ rw q new))) (unseen_loc s (r.0 ∷ is) (r.1 ∷ ls) (suc i) rs e₄ x (elem_tail x r.1 ls m))

pub rows_apart : (s : Store) (is ls : List ℕ) (i : ℕ) (rs : List Row) → rows s is ls i rs ≡ ok → Apart s rs
rows_apart s is ls i [] e = tt
rows_apart s is ls i (r ∷ rs) e =
    let e₁ = then_ok _ _ e in
    let e₂ = then_ok _ _ e₁ in
    let e₃ = then_ok _ _ e₂ in
    let e₄ = then_ok _ _ e₃ in (
      not-false _ (test_ok _ _ _ (first_ok _ _ e)),
      not-false _ (test_ok _ _ _ (first_ok _ _ e₂)),
      unseen_id s (r.0 ∷ is) (r.1 ∷ ls) (suc i) rs e₄ r.0 (elem_head r.0 r.0 is refl),
      unseen_loc s (r.0 ∷ is) (r.1 ∷ ls) (suc i) rs e₄ r.1 (elem_head r.1 r.1 ls refl),
      rows_apart s (r.0 ∷ is) (r.1 ∷ ls) (suc i) rs e₄,
    )

-- ---- rebuild

zero_rows : (cap n m : ℕ) (rs : List Row) → Untouched cap (replicate n 0) (replicate m 0) rs
zero_rows cap n m [] = tt
zero_rows cap n m (r ∷ rs) = (zeros n r.0, zeros m (slot_place cap r.1), zero_rows cap n m rs)

pub length_held_by : (rs : List Row) (t : List ℕ) → length (held_by rs t) ≡ length t
length_held_by [] t = refl
length_held_by (r ∷ rs) t = length_held_by rs _ ∙ length-set t r.0 1

pub length_located_by : (rs : List Row) (t : List ℕ) → length (located_by rs t) ≡ length t
length_located_by [] t = refl
length_located_by (r ∷ rs) t = length_located_by rs _ ∙ length-set t r.0 r.1

length_owned_by : (cap : ℕ) (rs : List Row) (t : List ℕ) → length (owned_by cap rs t) ≡ length t
length_owned_by cap [] t = refl
length_owned_by cap (r ∷ rs) t = length_owned_by cap rs _ ∙ length_write cap r.1 r.0 t

pub rebuilt_sized : (n m : ℕ) (rs : List Row) → capacities n m ≡ true → sized (rebuilt n m rs) ≡ true
unfolding sized lent_fit
rebuilt_sized n m rs c = all c (
    all (all (all (all (all (all
    (eq-eqb _ _ (length_held_by rs _ ∙ length-replicate {A = ℕ} n 0))
    (eq-eqb _ _ (length_located_by rs _ ∙ length-replicate {A = ℕ} n 0)))
    (eq-eqb _ _ (length_write_all m (locations_of rs) 1 _ ∙ length-replicate {A = ℕ} (slabs * m) 0)))
    (eq-eqb _ _ (length_owned_by m rs _ ∙ length-replicate {A = ℕ} (slabs * m) 0)))
    refl)
    (eq-eqb _ _ (length-replicate {A = ℕ} (carried_bytes n) 0)))
    (all (all refl (eq-eqb _ _ (length_use_each m _ (locations_of rs) ∙ length-set (replicate allocators 0) 0 (min 1 (length rs))))) refl))

zero_good : (n m : ℕ) → m ≤ 65536 → Good m (replicate n 0) (replicate n 0) (replicate (slabs * m) 0) (replicate (slabs * m) 0) []
zero_good n m c = record {
  small = c;
  same_ids = refl;
  full = length-replicate (slabs * m) 0;
  same_slots = refl;
  id_mark = λ i. rw (zeros n i) (omega arith);
  slot_mark = λ p. rw (zeros (slabs * m) p) (omega arith);
  located = λ i h. absurd (h (zeros n i));
  accounted = λ l v e. let z = zeros (slabs * m) (slot_place m l) in absurd (omega arith);
  keeps = tt;
}

pub rebuilt_inv : (s : Store) (rs : List Row) → capacities s.ids s.slots ≡ true → Apart s rs → Inv (rebuilt s.ids s.slots rs)
rebuilt_inv s rs c a =
    let r = capacities_range s.ids s.slots c in
    record {
      is_sized = rebuilt_sized s.ids s.slots rs c;
      few = omega arith;
      tops = λ k. rw (zeros 78 k) r.slots_from;
      good = add_rows s _ _ _ _ rs (zero_good s.ids s.slots r.slots_to)
          (length-replicate s.ids 0) a (zero_rows s.slots s.ids (slabs * s.slots) rs);
    }
