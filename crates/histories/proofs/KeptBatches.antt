-- Offer and abandon keep the invariant: the slots an offer takes were free, and an abandon frees slots that are nobody's location. Assumes nothing.
use mathlib.Core.Path.{ap, ◌≡◌, sym, ◌∙◌, refl}
use mathlib.Core.Logic.{◌⊎◌, inl, inr, ◌≢◌}
use mathlib.Core.Bool.{true, false, Bool, true≢false}
use mathlib.Core.List.{List, [], ◌∷◌, map, ◌++◌}
use Prim.Native.Nat.{ℕ, ◌≤◌, ◌*◌, suc, ◌<◌, pred}
use native.Mathlib.Nat.{suc-ne-zero}
use native.Mathlib.Omega.{arith}
use lib.Dec.{eqb, ltb}
use lib.ListN.{get_or, length, drop, length-append, length-drop, length-map}
use borrow.Author.Tests.{ne_eqb, not-false, not-true, eqb-false, ltb-true}
use Rattle.refusal.proofs.Tests.{clash, and_true, or_false}
use Rattle.list_parts.specs.Lists.{elem}
use Rattle.list_parts.proofs.Lists.{elem_cases, elem_tail, elem_head}
use Rattle.address.specs.Address.{is_location, slabs}
use Rattle.marks.specs.Marks.{is_held}
use Rattle.model.specs.Batches.{place, spot_for, id_of, updates, after_offer, taken_by, after_abandon}
use Rattle.model.specs.Store.{Update, Store, Row}
use Rattle.model.specs.Lending.{every_table}
use Rattle.model.specs.Tables.{write, slot_place, most_updates, held_id, in_ids, pairs, ids_of, locations_of, kept, write_all, location_of}
use Rattle.model.specs.Verdict.{ok}
use Rattle.model.proofs.Batches.{spot_for_is, length_place, length_bump_each, length_use_each}
use Rattle.model.proofs.Sizes.{Sizes, sized_sizes}
use Rattle.model.proofs.Lists.{nz_lt, one_nz}
use Rattle.model.proofs.Locations.{slot_place_inj, is_location_nz}
use Rattle.model.proofs.Spots.{Spot}
use Rattle.model.proofs.Writes.{write_cases, length_write, write_same, length_write_all, write_all_each, write_all_keeps, write_all_same, write_all_other, write_all_cases}
use Rattle.model.proofs.Verdicts.{then_ok, test_ok, first_ok}
use Rattle.histories.specs.Invariant.{Reserved, KeptRows, Inv}
use Rattle.histories.specs.Statements.{seen}
use Rattle.histories.proofs.Kept.{sized_same, GoodS}

-- ---- placement

-- a slot that is free after a slot is taken was free
was_free : (cap l : ℕ) (t : List ℕ) (p : ℕ) → get_or (write cap l 1 t) p 0 ≡ 0 → get_or t p 0 ≡ 0
was_free cap l t p e = go (write_cases cap l 1 t p)
  where
    go : (get_or (write cap l 1 t) p 0 ≡ 1) ⊎ (get_or (write cap l 1 t) p 0 ≡ get_or t p 0) → get_or t p 0 ≡ 0
    go (inl f) = omega arith
    go (inr f) = sym f ∙ e

-- every slot that is taken was free, and in range
pub place_free : (cap : ℕ) (t : List ℕ) (us : List Update) → cap ≤ 65536 → length t ≡ slabs * cap
    → (l : ℕ) → elem l (place cap t us) ≡ true → l ≢ 0 → Spot cap t l
place_free cap t [] c len l e n = clash (sym e)
place_free cap t (u ∷ us) c len l e n =
    go (λ m. place_free cap (write cap (spot_for cap t u) 1 t) us c (length_write cap (spot_for cap t u) 1 t ∙ len) l m n)
    (elem_cases l (spot_for cap t u) (place cap (write cap (spot_for cap t u) 1 t) us) e)
  where
    go : (elem l (place cap (write cap (spot_for cap t u) 1 t) us) ≡ true → Spot cap (write cap (spot_for cap t u) 1 t) l)
        → (l ≡ spot_for cap t u) ⊎ (elem l (place cap (write cap (spot_for cap t u) 1 t) us) ≡ true) → Spot cap t l
    go r (inl s) = rw s (spot_for_is cap t u c len (rw s at n))
    go r (inr m) = let q = r m in record {
      range = q.range;
      is_free_lem = was_free cap (spot_for cap t u) t (slot_place cap l) q.is_free_lem;
      inside = rw length_write at q.inside;
    }

-- and is taken once
place_once : (cap : ℕ) (t : List ℕ) (u : Update) (us : List Update) → cap ≤ 65536 → length t ≡ slabs * cap
    → spot_for cap t u ≢ 0 → elem (spot_for cap t u) (place cap (write cap (spot_for cap t u) 1 t) us) ≡ false
place_once cap t u us c len n = go (elem w rest) refl
  where
    w : ℕ
    w = spot_for cap t u

    rest : List ℕ
    rest = place cap (write cap w 1 t) us

    go : (b : Bool) → elem w rest ≡ b → b ≡ false
    go false e = refl
    go true e =
        let q = place_free cap (write cap w 1 t) us c (length_write cap w 1 t ∙ len) w e n in
        let z : get_or (write cap w 1 t) (slot_place cap w) 0 ≡ 1 = write_same cap w 1 t (spot_for_is cap t u c len n).range (spot_for_is cap t u c len n).inside in
        let y : get_or (write cap w 1 t) (slot_place cap w) 0 ≡ 0 = q.is_free_lem in
        absurd (omega arith)

-- ---- what a granted offer knows of its updates

abbrev Fine : Store → List Update → Type 0
Fine s [] = Unit
Fine s (u ∷ us) = (held_id s (id_of u) ≡ true) × (elem (id_of u) (map id_of us) ≡ false) × Fine s us

-- no id of the updates is among those seen
unseen : (s : Store) (seen : List ℕ) (i : ℕ) (us : List Update) → updates s seen i us ≡ ok → (x : ℕ) → elem x seen ≡ true → elem x (map id_of us) ≡ false
unseen s seen i [] e x m = refl
unseen s seen i (u ∷ us) e x m =
    let e₁ = then_ok _ _ e in
    let e₂ = then_ok _ _ e₁ in
    let e₃ = then_ok _ _ e₂ in
    let e₄ = then_ok _ _ e₃ in
    let new : elem (id_of u) seen ≡ false = test_ok _ _ _ (first_ok _ _ e₁) in
    rw (ne_eqb x (id_of u) (λ q. true≢false (sym m ∙ rw q new)))
    (unseen s (id_of u ∷ seen) (suc i) us e₄ x (elem_tail x (id_of u) seen m))

fine : (s : Store) (seen : List ℕ) (i : ℕ) (us : List Update) → updates s seen i us ≡ ok → Fine s us
fine s seen i [] e = tt
fine s seen i (u ∷ us) e =
    let e₁ = then_ok _ _ e in
    let e₂ = then_ok _ _ e₁ in
    let e₃ = then_ok _ _ e₂ in
    let e₄ = then_ok _ _ e₃ in (
      not-false _ (test_ok _ _ _ (first_ok _ _ e)),
      unseen s (id_of u ∷ seen) (suc i) us e₄ (id_of u) (elem_head (id_of u) (id_of u) seen refl),
      fine s (id_of u ∷ seen) (suc i) us e₄,
    )

-- a held id above 0 has the mark 1 where marks are at most 2
pub held_one : (s : Store) (i : ℕ) → get_or s.id_marks i 0 ≤ 2 → held_id s i ≡ true → (0 < i) × (get_or s.id_marks i 0 ≡ 1)
held_one s i le h =
    let b = and_true (in_ids s i) (is_held (get_or s.id_marks i 0)) h in
    let c = and_true (ltb 0 i) (ltb i s.ids) b.0 in
    let d = or_false (eqb (get_or s.id_marks i 0) 0) (eqb (get_or s.id_marks i 0) 2) (not-true _ b.1) in
    let n₀ : get_or s.id_marks i 0 ≢ 0 = eqb-false _ 0 d.0 in
    let n₂ : get_or s.id_marks i 0 ≢ 2 = eqb-false _ 2 d.1 in
    (ltb-true 0 i c.0, omega arith)

-- ---- offer

pub ids_pairs : (us : List Update) (ls : List ℕ) → length ls ≡ length us → ids_of (pairs (length us) (map id_of us) ls) ≡ map id_of us
ids_pairs [] ls e = refl
ids_pairs (u ∷ us) [] e = absurd (suc-ne-zero (length us) (sym e))
ids_pairs (u ∷ us) (l ∷ ls) e = ap (λ x. id_of u ∷ x) (ids_pairs us ls (omega arith))

pub locs_pairs : (us : List Update) (ls : List ℕ) → length ls ≡ length us → locations_of (pairs (length us) (map id_of us) ls) ≡ ls
locs_pairs [] [] e = refl
locs_pairs [] (l ∷ ls) e = absurd (suc-ne-zero (length ls) e)
locs_pairs (u ∷ us) [] e = absurd (suc-ne-zero (length us) (sym e))
locs_pairs (u ∷ us) (l ∷ ls) e = ap (λ x. l ∷ x) (locs_pairs us ls (omega arith))

pairs_front : (us : List Update) (ls x y : List ℕ) → length ls ≡ length us
    → pairs (length us) (map id_of us ++ x) (ls ++ y) ≡ pairs (length us) (map id_of us) ls
pairs_front [] ls x y e = refl
pairs_front (u ∷ us) [] x y e = absurd (suc-ne-zero (length us) (sym e))
pairs_front (u ∷ us) (l ∷ ls) x y e = ap (λ z. (id_of u, l) ∷ z) (pairs_front us ls x y (omega arith))

pub kept_offer : (s : Store) (us : List Update) → kept (after_offer s us) ≡ pairs (length us) (map id_of us) (taken_by s us)
kept_offer s us = pairs_front us (taken_by s us) _ _ (length_place s.slots s.slot_marks us)

-- the rows of updates whose slots are taken from t on, where all of them are held in sm
offered : (s : Store) (sm : List ℕ) (t : List ℕ) (us : List Update) → s.slots ≤ 65536 → length t ≡ slabs * s.slots
    → ((i : ℕ) → get_or s.id_marks i 0 ≤ 2) → Fine s us
    → ((l : ℕ) → elem l (place s.slots t us) ≡ true → l ≢ 0 → Reserved s.slots s.locations sm l)
    → KeptRows s.slots s.id_marks s.locations sm (pairs (length us) (map id_of us) (place s.slots t us))
offered s sm t [] c len m f h = tt
offered s sm t (u ∷ us) c len m f h =
    let w = spot_for s.slots t u in
    let t' = write s.slots w 1 t in
    let one = held_one s (id_of u) (m (id_of u)) f.0 in
    let le : length (place s.slots t' us) ≡ length us = length_place s.slots t' us in (
      record {
        pos = one.0;
        id_held = one.1;
        new_id_lem = rw (ids_pairs us (place s.slots t' us) le) f.1;
        new_loc = λ n. rw (locs_pairs us (place s.slots t' us) le) (place_once s.slots t u us c len n);
        reserved = λ n. h w (elem_head w w (place s.slots t' us) refl) n;
      },
      offered s sm t' us c (length_write s.slots w 1 t ∙ len) m f.2 (λ l e. h l (elem_tail l w (place s.slots t' us) e)),
    )

-- a front of n elements put in place of n
length_patch : (n : ℕ) (a t : List ℕ) → length a ≡ n → n ≤ length t → length (a ++ drop n t) ≡ length t
length_patch n a t e h = simp (length-append, length-drop) (omega arith)

pub keep_offer : (s : Store) (us : List Update) → Inv s → s.batch.opened ≡ 0 → length us ≤ most_updates → updates s [] 0 us ≡ ok → Inv (after_offer s us)
keep_offer s us v cl few u = record {
  is_sized = sized_same (after_offer s us) s refl refl
      (simp (
        length_write_all,
        length_bump_each,
        length_use_each,
        length_patch (length us) (map id_of us) s.batch.kept_ids (length-map us id_of) (rw z.kept_ids few),
        length_patch (length us) ls s.batch.kept_locations len (rw z.kept_locations few),
      )) ∙ v.is_sized;
  few = omega arith;
  tops = v.tops;
  good = rw (kept_offer s us) (record {
    small = g.small;
    same_ids = g.same_ids;
    full = length_write_all cap ls 1 sm ∙ g.full;
    same_slots = g.same_slots ∙ sym (length_write_all cap ls 1 sm);
    id_mark = g.id_mark;
    slot_mark = write_all_each (λ x. x ≤ 2) cap ls 1 sm (omega arith) g.slot_mark;
    located = λ i n. let L = g.located i n in record {
      pos = L.pos;
      id_held = L.id_held;
      range = L.range;
      slot_held = write_all_keeps cap ls 1 sm _ L.slot_held;
      owner = L.owner;
    };
    accounted = λ l w e. rw (locs_pairs us ls len) (acc l w e (elem l ls) refl);
    keeps = offered s (write_all cap ls 1 sm) sm us g.small g.full g.id_mark (fine s [] 0 us u) reserved;
  });
}
  where
    z : Sizes every_table s
    z = sized_sizes s v.is_sized

    cap : ℕ
    cap = s.slots

    sm : List ℕ
    sm = s.slot_marks

    ls : List ℕ
    ls = taken_by s us

    len : length ls ≡ length us
    len = length_place cap sm us

    g : GoodS s []
    g = rw (ap (λ n. pairs (pred n) s.batch.kept_ids s.batch.kept_locations) cl) at v.good

    reserved : (l : ℕ) → elem l ls ≡ true → l ≢ 0 → Reserved cap s.locations (write_all cap ls 1 sm) l
    reserved l e n = let q = place_free cap sm us g.small g.full l e n in record {
      range = q.range;
      slot_held = write_all_same cap ls 1 sm l e q.range q.inside;
      nobody = λ j b. let y : get_or sm (slot_place cap l) 0 ≡ 1 = rw b at (g.located j (rw b n)).slot_held in
          let y' : get_or sm (slot_place cap l) 0 ≡ 0 = q.is_free_lem in omega arith;
    }

    acc : (l : ℕ) → is_location cap l ≡ true → get_or (write_all cap ls 1 sm) (slot_place cap l) 0 ≡ 1 → (b : Bool) → elem l ls ≡ b
        → (get_or s.locations (get_or s.owners (slot_place cap l) 0) 0 ≡ l) ⊎ (b ≡ true)
    acc l w e true m = inr refl
    acc l w e false m = g.accounted l w (sym (write_all_other cap ls 1 sm (slot_place cap l) (λ k i n p.
        true≢false (sym (rw (← slot_place_inj cap l k w n p) at i) ∙ m))) ∙ e)

-- ---- abandon

pub kept_reserved : (cap : ℕ) (im lo sm : List ℕ) (ks : List Row) → KeptRows cap im lo sm ks → (l : ℕ) → elem l (locations_of ks) ≡ true → l ≢ 0 → Reserved cap lo sm l
kept_reserved cap im lo sm [] t l e n = clash (sym e)
kept_reserved cap im lo sm (r ∷ rs) t l e n = go (λ m. kept_reserved cap im lo sm rs t.1 l m n) (elem_cases l r.1 (locations_of rs) e)
  where
    go : (elem l (locations_of rs) ≡ true → Reserved cap lo sm l) → (l ≡ r.1) ⊎ (elem l (locations_of rs) ≡ true) → Reserved cap lo sm l
    go f (inl s) = rw s (t.0.reserved (rw s at n))
    go f (inr m) = f m

pub keep_abandon : (s : Store) → Inv s → Inv (after_abandon s)
keep_abandon s v = record {
  is_sized = sized_same (after_abandon s) s refl refl (simp (length_write_all, length_bump_each)) ∙ v.is_sized;
  few = omega arith;
  tops = v.tops;
  good = record {
    small = g.small;
    same_ids = g.same_ids;
    full = length_write_all cap ls 0 sm ∙ g.full;
    same_slots = g.same_slots ∙ sym (length_write_all cap ls 0 sm);
    id_mark = g.id_mark;
    slot_mark = write_all_each (λ x. x ≤ 2) cap ls 0 sm (omega arith) g.slot_mark;
    located = λ i n. let L = g.located i n in record {
      pos = L.pos;
      id_held = L.id_held;
      range = L.range;
      slot_held = write_all_other cap ls 0 sm _ (λ l e z p.
          (reserved l e (is_location_nz cap l z)).nobody i (slot_place_inj cap (location_of s i) l L.range z p)) ∙ L.slot_held;
      owner = L.owner;
    };
    accounted = acc;
    keeps = tt;
  };
}
  where
    cap : ℕ
    cap = s.slots

    sm : List ℕ
    sm = s.slot_marks

    ls : List ℕ
    ls = locations_of (kept s)

    g : GoodS s (kept s)
    g = v.good

    reserved : (l : ℕ) → elem l ls ≡ true → l ≢ 0 → Reserved cap s.locations sm l
    reserved = kept_reserved cap s.id_marks s.locations sm (kept s) g.keeps

    acc : (l : ℕ) → is_location cap l ≡ true → get_or (write_all cap ls 0 sm) (slot_place cap l) 0 ≡ 1
        → (get_or s.locations (get_or s.owners (slot_place cap l) 0) 0 ≡ l) ⊎ (false ≡ true)
    acc l w e = go (g.accounted l w (was (write_all_cases cap ls 0 sm (slot_place cap l))))
      where
        was : (get_or (write_all cap ls 0 sm) (slot_place cap l) 0 ≡ 0) ⊎ (get_or (write_all cap ls 0 sm) (slot_place cap l) 0 ≡ get_or sm (slot_place cap l) 0) → get_or sm (slot_place cap l) 0 ≡ 1
        was (inl z) = omega arith
        was (inr z) = sym z ∙ e

        go : (get_or s.locations (get_or s.owners (slot_place cap l) 0) 0 ≡ l) ⊎ (elem l ls ≡ true)
            → (get_or s.locations (get_or s.owners (slot_place cap l) 0) 0 ≡ l) ⊎ (false ≡ true)
        go (inl q) = inl q
        go (inr m) =
            let n = is_location_nz cap l w in
            let z : get_or (write_all cap ls 0 sm) (slot_place cap l) 0 ≡ 0 = write_all_same cap ls 0 sm l m w (nz_lt sm (slot_place cap l) (one_nz (reserved l m n).slot_held)) in
            absurd (omega arith)
