-- One kept update applied keeps the invariant: the old slot becomes pending and is nobody's location any more, and the new one was
-- nobody's before. Assumes nothing.
use mathlib.Core.Path.{ap, ◌≡◌, sym, ◌∙◌, refl}
use mathlib.Core.Logic.{◌≢◌, ◌⊎◌, inl, inr}
use mathlib.Core.Bool.{true, true≢false}
use mathlib.Core.List.{List, ◌∷◌, []}
use Prim.Native.Nat.{ℕ, ◌<◌, ◌≤◌}
use native.Mathlib.Decide.{ℕ_discrete}
use native.Mathlib.Omega.{arith}
use lib.ListN.{get_or, length, set, length-set}
use lib.Seq.{get_or-set_other, get_or-set_same}
use Rattle.list_parts.specs.Lists.{elem}
use Rattle.list_parts.proofs.Lists.{elem_head, elem_tail, elem_cases}
use Rattle.address.specs.Address.{is_location}
use Rattle.model.specs.Store.{Row}
use Rattle.model.specs.Tables.{slot_place, write, ids_of, locations_of}
use Rattle.model.proofs.Lists.{nz_lt, one_nz, set_each, set_cases}
use Rattle.model.proofs.Locations.{is_location_nz, slot_place_inj}
use Rattle.model.proofs.Writes.{write_same, write_other, length_write, write_each}
use Rattle.histories.specs.Invariant.{Good, KeptRows, Located, Reserved}

-- ---- one kept update is applied

module _ (cap : ℕ) (im lo sm ow : List ℕ) (i l : ℕ) (ks : List Row) (g : Good cap im lo sm ow ((i, l) ∷ ks)) where
  o : ℕ
  o = get_or lo i 0

  i_lt : i < length lo
  i_lt = rw g.same_ids (nz_lt im i (one_nz g.keeps.0.id_held))

  -- the slot of another id's location is not that of i's
  apart : (j : ℕ) → j ≢ i → get_or lo j 0 ≢ 0 → is_location cap o ≡ true → slot_place cap (get_or lo j 0) ≢ slot_place cap o
  unfolding o
  apart j n h z e = n (sym (g.located j h).owner ∙ ap (λ p. get_or ow p 0) e ∙ (g.located i (is_location_nz cap o z)).owner)

  -- nor is that of a location that no id has
  apart_new : (k : ℕ) → is_location cap k ≡ true → ((j : ℕ) → get_or lo j 0 ≢ k) → is_location cap o ≡ true → slot_place cap k ≢ slot_place cap o
  unfolding o
  apart_new k v h z e = h i (sym (slot_place_inj cap k o v z e))

  -- a slot that is held afterwards is another than the old one
  still : (k : ℕ) → get_or (write cap o 2 sm) (slot_place cap k) 0 ≡ 1 → is_location cap o ≡ true → slot_place cap k ≢ slot_place cap o
  unfolding o
  still k h z e =
      let w : get_or (write cap o 2 sm) (slot_place cap o) 0 ≡ 2 = write_same cap o 2 sm z (nz_lt sm (slot_place cap o) (one_nz (g.located i (is_location_nz cap o z)).slot_held)) in
      let w' : get_or (write cap o 2 sm) (slot_place cap k) 0 ≡ 2 = rw e w in
      omega arith

  was : (k : ℕ) → get_or (write cap o 2 sm) (slot_place cap k) 0 ≡ 1 → get_or sm (slot_place cap k) 0 ≡ 1
  was k h = sym (write_other cap o 2 sm (slot_place cap k) (still k h)) ∙ h

  -- the kept updates after the first
  later : (lo' im' : List ℕ) (rs : List Row)
      → ((j : ℕ) → elem j (ids_of rs) ≡ true → get_or im' j 0 ≡ get_or im j 0)
      → ((k : ℕ) → elem k (locations_of rs) ≡ true → k ≢ 0 → (j : ℕ) → get_or lo j 0 ≢ k → get_or lo' j 0 ≢ k)
      → KeptRows cap im lo sm rs → KeptRows cap im' lo' (write cap o 2 sm) rs
  later lo' im' [] hi hl t = tt
  later lo' im' (r ∷ rs) hi hl t = (
    record {
      pos = t.0.pos;
      id_held = hi r.0 (elem_head r.0 r.0 (ids_of rs) refl) ∙ t.0.id_held;
      new_id_lem = t.0.new_id_lem;
      new_loc = t.0.new_loc;
      reserved = λ n. let k = t.0.reserved n in record {
        range = k.range;
        slot_held = write_other cap o 2 sm (slot_place cap r.1) (apart_new r.1 k.range k.nobody) ∙ k.slot_held;
        nobody = λ j. hl r.1 (elem_head r.1 r.1 (locations_of rs) refl) n j (k.nobody j);
      };
    },
    later lo' im' rs (λ j e. hi j (elem_tail j r.0 (ids_of rs) e)) (λ k e. hl k (elem_tail k r.1 (locations_of rs) e)) t.1,
  )

pub apply_free : (cap : ℕ) (im lo sm ow : List ℕ) (i : ℕ) (ks : List Row) → Good cap im lo sm ow ((i, 0) ∷ ks)
    → Good cap (set im i 2) (set lo i 0) (write cap (get_or lo i 0) 2 sm) (write cap (get_or lo i 0) 0 ow) ks
unfolding o
apply_free cap im lo sm ow i ks g = record {
  small = g.small;
  same_ids = length-set lo i 0 ∙ g.same_ids ∙ sym (length-set im i 2);
  full = length_write cap old 2 sm ∙ g.full;
  same_slots = length_write cap old 0 ow ∙ g.same_slots ∙ sym (length_write cap old 2 sm);
  id_mark = set_each (λ x. x ≤ 2) im i 2 (omega arith) g.id_mark;
  slot_mark = write_each (λ x. x ≤ 2) cap old 2 sm (omega arith) g.slot_mark;
  located = loc;
  accounted = acc;
  keeps = later cap im lo sm ow i 0 ks g (set lo i 0) (set im i 2) ks
      (λ j e. get_or-set_other im i j 2 0 (other j e))
      (λ k e n j h. kept_loc k n j h)
      g.keeps.1;
}
  where
    old : ℕ
    old = get_or lo i 0

    gone : get_or (set lo i 0) i 0 ≡ 0
    gone = get_or-set_same lo i 0 0 (i_lt cap im lo sm ow i 0 ks g)

    other : (j : ℕ) → elem j (ids_of ks) ≡ true → j ≢ i
    other j e s = true≢false (sym e ∙ rw s g.keeps.0.new_id_lem)

    kept_loc : (k : ℕ) → k ≢ 0 → (j : ℕ) → get_or lo j 0 ≢ k → get_or (set lo i 0) j 0 ≢ k
    kept_loc k n j h e = go (set_cases lo i 0 j)
      where
        go : (get_or (set lo i 0) j 0 ≡ 0) ⊎ (get_or (set lo i 0) j 0 ≡ get_or lo j 0) → ⊥
        go (inl z) = n (sym e ∙ z)
        go (inr z) = h (sym z ∙ e)

    loc : (j : ℕ) → get_or (set lo i 0) j 0 ≢ 0 → Located cap (set im i 2) (write cap old 2 sm) (write cap old 0 ow) j (get_or (set lo i 0) j 0)
    loc j n =
        let ne : j ≢ i = λ e. n (rw e gone) in
        let same : get_or (set lo i 0) j 0 ≡ get_or lo j 0 = get_or-set_other lo i j 0 0 ne in
        let nz : get_or lo j 0 ≢ 0 = rw same at n in
        let L = g.located j nz in
        let away : is_location cap old ≡ true → slot_place cap (get_or lo j 0) ≢ slot_place cap old = apart cap im lo sm ow i 0 ks g j ne nz in
        rw same (record {
          pos = L.pos;
          id_held = get_or-set_other im i j 2 0 ne ∙ L.id_held;
          range = L.range;
          slot_held = write_other cap old 2 sm (slot_place cap (get_or lo j 0)) away ∙ L.slot_held;
          owner = write_other cap old 0 ow (slot_place cap (get_or lo j 0)) away ∙ L.owner;
        })

    acc : (l : ℕ) → is_location cap l ≡ true → get_or (write cap old 2 sm) (slot_place cap l) 0 ≡ 1
        → (get_or (set lo i 0) (get_or (write cap old 0 ow) (slot_place cap l) 0) 0 ≡ l) ⊎ (elem l (locations_of ks) ≡ true)
    acc l v h =
        rw (write_other cap old 0 ow (slot_place cap l) (still cap im lo sm ow i 0 ks g l h))
        (go (g.accounted l v (was cap im lo sm ow i 0 ks g l h)))
      where
        own : ℕ
        own = get_or ow (slot_place cap l) 0

        go : (get_or lo own 0 ≡ l) ⊎ (elem l (0 ∷ locations_of ks) ≡ true) → (get_or (set lo i 0) own 0 ≡ l) ⊎ (elem l (locations_of ks) ≡ true)
        go (inl e) = inl (get_or-set_other lo i own 0 0 ne ∙ e)
          where
            ne : own ≢ i
            ne s =
                let e' : old ≡ l = ap (λ x. get_or lo x 0) (sym s) ∙ e in
                let nz : is_location cap old ≡ true = rw e' v in
                still cap im lo sm ow i 0 ks g l h nz (ap (slot_place cap) (sym e'))
        go (inr m) = first (elem_cases l 0 (locations_of ks) m)
          where
            first : (l ≡ 0) ⊎ (elem l (locations_of ks) ≡ true) → (get_or (set lo i 0) own 0 ≡ l) ⊎ (elem l (locations_of ks) ≡ true)
            first (inl z) = absurd (is_location_nz cap l v z)
            first (inr k) = inr k

pub apply_put : (cap : ℕ) (im lo sm ow : List ℕ) (i n : ℕ) (ks : List Row) → n ≢ 0 → Good cap im lo sm ow ((i, n) ∷ ks)
    → Good cap im (set lo i n) (write cap (get_or lo i 0) 2 sm) (write cap n i ow) ks
unfolding o
apply_put cap im lo sm ow i n ks nz g = record {
  small = g.small;
  same_ids = length-set lo i n ∙ g.same_ids;
  full = length_write cap old 2 sm ∙ g.full;
  same_slots = length_write cap n i ow ∙ g.same_slots ∙ sym (length_write cap old 2 sm);
  id_mark = g.id_mark;
  slot_mark = write_each (λ x. x ≤ 2) cap old 2 sm (omega arith) g.slot_mark;
  located = λ j. loc j (ℕ_discrete j i);
  accounted = λ l v h. acc l v h (ℕ_discrete (slot_place cap l) (slot_place cap n));
  keeps = later cap im lo sm ow i n ks g (set lo i n) im ks (λ j e. refl) kept_loc g.keeps.1;
}
  where
    old : ℕ
    old = get_or lo i 0

    tk : Reserved cap lo sm n
    tk = g.keeps.0.reserved nz

    new_away : is_location cap old ≡ true → slot_place cap n ≢ slot_place cap old
    new_away = apart_new cap im lo sm ow i n ks g n tk.range tk.nobody

    set_here : get_or (set lo i n) i 0 ≡ n
    set_here = get_or-set_same lo i n 0 (i_lt cap im lo sm ow i n ks g)

    n_in : slot_place cap n < length ow
    n_in = rw g.same_slots (nz_lt sm (slot_place cap n) (one_nz tk.slot_held))

    kept_loc : (k : ℕ) → elem k (locations_of ks) ≡ true → k ≢ 0 → (j : ℕ) → get_or lo j 0 ≢ k → get_or (set lo i n) j 0 ≢ k
    kept_loc k m z j h e = go (set_cases lo i n j)
      where
        go : (get_or (set lo i n) j 0 ≡ n) ⊎ (get_or (set lo i n) j 0 ≡ get_or lo j 0) → ⊥
        go (inl q) = true≢false (sym m ∙ rw (sym e ∙ q) (g.keeps.0.new_loc nz))
        go (inr q) = h (sym q ∙ e)

    loc : (j : ℕ) → Dec (j ≡ i) → get_or (set lo i n) j 0 ≢ 0
        → Located cap im (write cap old 2 sm) (write cap n i ow) j (get_or (set lo i n) j 0)
    loc j (yes s) h = rw s (rw set_here (record {
      pos = g.keeps.0.pos;
      id_held = g.keeps.0.id_held;
      range = tk.range;
      slot_held = write_other cap old 2 sm (slot_place cap n) new_away ∙ tk.slot_held;
      owner = write_same cap n i ow tk.range n_in;
    }))
    loc j (no ne) h =
        let same : get_or (set lo i n) j 0 ≡ get_or lo j 0 = get_or-set_other lo i j n 0 ne in
        let jz : get_or lo j 0 ≢ 0 = rw same at h in
        let L = g.located j jz in
        rw same (record {
          pos = L.pos;
          id_held = L.id_held;
          range = L.range;
          slot_held = write_other cap old 2 sm (slot_place cap (get_or lo j 0)) (apart cap im lo sm ow i n ks g j ne jz) ∙ L.slot_held;
          owner = write_other cap n i ow (slot_place cap (get_or lo j 0))
              (λ z e. tk.nobody j (slot_place_inj cap (get_or lo j 0) n L.range tk.range e)) ∙ L.owner;
        })

    acc : (l : ℕ) → is_location cap l ≡ true → get_or (write cap old 2 sm) (slot_place cap l) 0 ≡ 1 → Dec (slot_place cap l ≡ slot_place cap n)
        → (get_or (set lo i n) (get_or (write cap n i ow) (slot_place cap l) 0) 0 ≡ l) ⊎ (elem l (locations_of ks) ≡ true)
    acc l v h (yes s) =
        let same : l ≡ n = slot_place_inj cap l n v tk.range s in
        inl (rw same (rw (write_same cap n i ow tk.range n_in) set_here))
    acc l v h (no ne) =
        rw (write_other cap n i ow (slot_place cap l) (λ z. ne)) (go (g.accounted l v (was cap im lo sm ow i n ks g l h)))
      where
        own : ℕ
        own = get_or ow (slot_place cap l) 0

        go : (get_or lo own 0 ≡ l) ⊎ (elem l (n ∷ locations_of ks) ≡ true) → (get_or (set lo i n) own 0 ≡ l) ⊎ (elem l (locations_of ks) ≡ true)
        go (inl e) = inl (get_or-set_other lo i own n 0 away ∙ e)
          where
            away : own ≢ i
            away s =
                let e' : old ≡ l = ap (λ x. get_or lo x 0) (sym s) ∙ e in
                let z : is_location cap old ≡ true = rw e' v in
                still cap im lo sm ow i n ks g l h z (ap (slot_place cap) (sym e'))
        go (inr m) = first (elem_cases l n (locations_of ks) m)
          where
            first : (l ≡ n) ⊎ (elem l (locations_of ks) ≡ true) → (get_or (set lo i n) own 0 ≡ l) ⊎ (elem l (locations_of ks) ≡ true)
            first (inl z) = absurd (ne (ap (slot_place cap) z))
            first (inr k) = inr k
