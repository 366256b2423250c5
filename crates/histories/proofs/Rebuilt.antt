-- A rebuild from the live rows leaves no trace but in the excepted answers. Assumes nothing.
use mathlib.Core.Path.{ap, ◌≡◌, refl, ◌∙◌, sym}
use mathlib.Core.Logic.{◌⊎◌, inl, inr, ◌≢◌}
use mathlib.Core.Bool.{true, not, false, Bool, ◌&&◌}
use mathlib.Core.List.Memᴰ
use mathlib.Core.List.{List, [], ◌∷◌, Memᴰ}
use Prim.Native.Nat.{ℕ, suc, ◌+◌, ◌<◌, ◌≤◌, ◌*◌, ◌/◌, ◌%◌, pred}
use native.Mathlib.Nat.{mod-lt, div-lt_iff_lt-mul, div-add-mod'}
use native.Mathlib.Decide.{ℕ_discrete}
use native.Mathlib.Omega.{arith}
use lib.Dec.{ltb}
use lib.ListN.{get_or, set, length, length-set, replicate, length-replicate, length-drop}
use lib.Seq.{get_or-set_same, get_or-set_other, ext_get_or}
use borrow.Author.Tests.{lt-ltb, ltb-true, eq-eqb}
use Rattle.refusal.specs.Refusals.{no_such_id, repeated_id, out_of_range, repeated_location, wrong_shape}
use Rattle.refusal.proofs.Tests.{clash, and_true, all, contradiction}
use Rattle.list_parts.specs.Lists.{elem}
use Rattle.list_parts.proofs.Lists.{elem_head, elem_tail, elem_cases, elem_not}
use Rattle.list_parts.specs.Parts.{part}
use Rattle.carried.specs.Carried.{width, put_rows}
use Rattle.carried.proofs.Laws.{length_put_rows, put_rows_own}
use Rattle.address.specs.Address.{packing, is_location, slabs}
use Rattle.marks.specs.Marks.{is_held}
use Rattle.model.specs.Columns.{rebuilt_column}
use Rattle.model.specs.Rebuild.{rows, columns, held_by, located_by, rebuilt, fresh_store}
use Rattle.model.specs.Lending.{every_table, sized}
use Rattle.model.specs.Step.{effect, next, refusal_of, refusal, unless, after, state}
use Rattle.model.specs.Store.{Store, with_carried, Rows, Call, new_id, release, offer, commit, abandon, fresh, rebuild, ask, truncation, report, Row}
use Rattle.model.specs.Tables.{most_updates, carried_bytes, kept, slot_place, ids_of, locations_of, held_id, location_of, live, in_ids, write_all, pairs}
use Rattle.model.specs.Verdict.{ok, Verdict, refuse, ◌⨾◌, test, earlier}
use Rattle.model.proofs.Answered.{next_granted}
use Rattle.model.proofs.Rows.{as_long_rows, rows_of_rows}
use Rattle.model.proofs.Sizes.{Sizes, sized_sizes, sized_shape}
use Rattle.model.proofs.Lists.{set_keeps, nz_lt, one_nz, zeros}
use Rattle.model.proofs.Locations.{is_location_packing, slot_place_packing, is_location_nz, slot_place_lt}
use Rattle.model.proofs.Writes.{write_all_same, write_all_other, length_write_all}
use Rattle.histories.specs.Invariant.{Inv, Located}
use Rattle.histories.specs.Statements.{Distinct, none, more, AtRest, LiveRows, RebuildAgrees, answers}
use Rattle.histories.proofs.Kept.{rows_frame}
use Rattle.histories.proofs.KeptBatches.{held_one}
use Rattle.histories.proofs.KeptRebuild.{Apart, length_held_by, length_located_by, rebuilt_inv}
use Rattle.histories.proofs.Reached.{reached, caps_of, keep_carried}
use Rattle.histories.proofs.Same.{Same, same_carried, drop_get}
use Rattle.histories.proofs.SameRows.{Alike, closed_alike}
use Rattle.histories.proofs.SameAnswers.{answers_same}

-- ---- the capacities stay

effect_caps : (s : Store) (c : Call) → ((effect s c).ids ≡ s.ids) × ((effect s c).slots ≡ s.slots)
unfolding effect
effect_caps s new_id = (refl, refl)
effect_caps s release = (refl, refl)
effect_caps s (offer o) = (refl, refl)
effect_caps s commit = let f = rows_frame s (kept s) in (f.ids, f.slots)
effect_caps s abandon = (refl, refl)
effect_caps s fresh = (refl, refl)
effect_caps s (rebuild rs) = (refl, refl)
effect_caps s (ask q) = (refl, refl)
effect_caps s (truncation k t) = (refl, refl)
effect_caps s (report k t) = (refl, refl)

next_caps : (s : Store) (c : Call) → ((next s c).ids ≡ s.ids) × ((next s c).slots ≡ s.slots)
unfolding next
next_caps s c = go (refusal s c)
  where
    go : (w : Verdict) → ((unless w s (effect s c)).ids ≡ s.ids) × ((unless w s (effect s c)).slots ≡ s.slots)
    go ok = effect_caps s c
    go (refuse n i) = (refl, refl)

after_caps : (s : Store) (cs : List Call) → ((after s cs).ids ≡ s.ids) × ((after s cs).slots ≡ s.slots)
after_caps s [] = (refl, refl)
after_caps s (c ∷ cs) =
    let a = after_caps (next s c) cs in
    let b = next_caps s c in
    (a.0 ∙ b.0, a.1 ∙ b.1)

-- ---- rows

mem_id : (r : Row) (rs : List Row) → Memᴰ r rs → elem r.0 (ids_of rs) ≡ true
mem_id r [] m = absurd (Memᴰ.not-nil m)
mem_id r (q ∷ qs) m = go (λ k. mem_id r qs k) (Memᴰ.cases_cons m)
  where
    go : (Memᴰ r qs → elem r.0 (ids_of qs) ≡ true) → (r ≡ q) ⊎ Memᴰ r qs → elem r.0 (ids_of (q ∷ qs)) ≡ true
    go f (inl e) = elem_head r.0 q.0 (ids_of qs) (ap (λ x. x.0) e)
    go f (inr k) = elem_tail r.0 q.0 (ids_of qs) (f k)

mem_loc : (r : Row) (rs : List Row) → Memᴰ r rs → elem r.1 (locations_of rs) ≡ true
mem_loc r [] m = absurd (Memᴰ.not-nil m)
mem_loc r (q ∷ qs) m = go (λ k. mem_loc r qs k) (Memᴰ.cases_cons m)
  where
    go : (Memᴰ r qs → elem r.1 (locations_of qs) ≡ true) → (r ≡ q) ⊎ Memᴰ r qs → elem r.1 (locations_of (q ∷ qs)) ≡ true
    go f (inl e) = elem_head r.1 q.1 (locations_of qs) (ap (λ x. x.1) e)
    go f (inr k) = elem_tail r.1 q.1 (locations_of qs) (f k)

pub id_mem : (i : ℕ) (rs : List Row) → elem i (ids_of rs) ≡ true → (r : Row) × Memᴰ r rs × (r.0 ≡ i)
id_mem i [] e = clash (sym e)
id_mem i (q ∷ qs) e = go (λ k. id_mem i qs k) (elem_cases i q.0 (ids_of qs) e)
  where
    go : (elem i (ids_of qs) ≡ true → (r : Row) × Memᴰ r qs × (r.0 ≡ i)) → (i ≡ q.0) ⊎ (elem i (ids_of qs) ≡ true)
        → (r : Row) × Memᴰ r (q ∷ qs) × (r.0 ≡ i)
    go f (inl s) = (q, Memᴰ.head refl, sym s)
    go f (inr k) = let x = f k in (x.0, Memᴰ.tail x.1, x.2)

loc_mem : (l : ℕ) (rs : List Row) → elem l (locations_of rs) ≡ true → (r : Row) × Memᴰ r rs × (r.1 ≡ l)
loc_mem l [] e = clash (sym e)
loc_mem l (q ∷ qs) e = go (λ k. loc_mem l qs k) (elem_cases l q.1 (locations_of qs) e)
  where
    go : (elem l (locations_of qs) ≡ true → (r : Row) × Memᴰ r qs × (r.1 ≡ l)) → (l ≡ q.1) ⊎ (elem l (locations_of qs) ≡ true)
        → (r : Row) × Memᴰ r (q ∷ qs) × (r.1 ≡ l)
    go f (inl s) = (q, Memᴰ.head refl, sym s)
    go f (inr k) = let x = f k in (x.0, Memᴰ.tail x.1, x.2)

-- rows that are apart are granted
apart_granted : (s : Store) (is ls : List ℕ) (i : ℕ) (rs : List Row) → Apart s rs
    → ((x : ℕ) → elem x is ≡ true → elem x (ids_of rs) ≡ false) → ((x : ℕ) → elem x ls ≡ true → elem x (locations_of rs) ≡ false) → rows s is ls i rs ≡ ok
unfolding ◌⨾◌ test
apart_granted s is ls i [] a hi hl = refl
apart_granted s is ls i (r ∷ rs) a hi hl = λ k.
    test (not (a.0 k)) no_such_id i ⨾ test (new_id_lem (elem r.0 is) refl k) repeated_id i ⨾ test (not (a.1 k)) out_of_range i ⨾ test
    (new_loc (elem r.1 ls) refl k) repeated_location i ⨾
    apart_granted s (r.0 ∷ is) (r.1 ∷ ls) (suc i) rs a.4
    (λ x e. id_then x (elem_cases x r.0 is e)) (λ x e. loc_then x (elem_cases x r.1 ls e)) k
  where
    new_id_lem : (b : Bool) → elem r.0 is ≡ b → b ≡ false
    new_id_lem true e = contradiction (elem_head r.0 r.0 (ids_of rs) refl) (hi r.0 e)
    new_id_lem false e = refl

    new_loc : (b : Bool) → elem r.1 ls ≡ b → b ≡ false
    new_loc true e = contradiction (elem_head r.1 r.1 (locations_of rs) refl) (hl r.1 e)
    new_loc false e = refl

    id_then : (x : ℕ) → (x ≡ r.0) ⊎ (elem x is ≡ true) → elem x (ids_of rs) ≡ false
    id_then x (inl e) = rw e a.2
    id_then x (inr e) = (elem_not x r.0 (ids_of rs) (hi x e)).1

    loc_then : (x : ℕ) → (x ≡ r.1) ⊎ (elem x ls ≡ true) → elem x (locations_of rs) ≡ false
    loc_then x (inl e) = rw e a.3
    loc_then x (inr e) = (elem_not x r.1 (locations_of rs) (hl x e)).1

-- ---- what a rebuild puts at each index

held_by_keeps : (rs : List Row) (t : List ℕ) (i : ℕ) → get_or t i 0 ≡ 1 → get_or (held_by rs t) i 0 ≡ 1
held_by_keeps [] t i e = e
held_by_keeps (r ∷ rs) t i e = held_by_keeps rs (set t r.0 1) i (set_keeps t r.0 1 i e)

held_by_in : (rs : List Row) (t : List ℕ) (i : ℕ) → i < length t → elem i (ids_of rs) ≡ true → get_or (held_by rs t) i 0 ≡ 1
held_by_in [] t i h e = clash (sym e)
held_by_in (r ∷ rs) t i h e = go (λ k. held_by_in rs (set t r.0 1) i (rw length-set h) k) (elem_cases i r.0 (ids_of rs) e)
  where
    go : (elem i (ids_of rs) ≡ true → get_or (held_by rs (set t r.0 1)) i 0 ≡ 1) → (i ≡ r.0) ⊎ (elem i (ids_of rs) ≡ true) → get_or (held_by rs (set t r.0 1)) i 0 ≡ 1
    go f (inl s) = held_by_keeps rs (set t r.0 1) i (rw (← s) (get_or-set_same t i 1 0 h))
    go f (inr k) = f k

held_by_out : (rs : List Row) (t : List ℕ) (i : ℕ) → elem i (ids_of rs) ≡ false → get_or (held_by rs t) i 0 ≡ get_or t i 0
held_by_out [] t i e = refl
held_by_out (r ∷ rs) t i e =
    let n = elem_not i r.0 (ids_of rs) e in
    held_by_out rs (set t r.0 1) i n.1 ∙ get_or-set_other t r.0 i 1 0 n.0

pub located_by_out : (rs : List Row) (t : List ℕ) (i : ℕ) → elem i (ids_of rs) ≡ false → get_or (located_by rs t) i 0 ≡ get_or t i 0
located_by_out [] t i e = refl
located_by_out (r ∷ rs) t i e =
    let n = elem_not i r.0 (ids_of rs) e in
    located_by_out rs (set t r.0 r.1) i n.1 ∙ get_or-set_other t r.0 i r.1 0 n.0

pub located_by_in : {rs : List Row} (t : List ℕ) (r : Row) → Distinct rs → Memᴰ r rs → r.0 < length t → get_or (located_by rs t) r.0 0 ≡ r.1
located_by_in t r none m h = absurd (Memᴰ.not-nil m)
located_by_in t r (more {r = q} {rs = qs} e d) m h = go (λ k. located_by_in (set t q.0 q.1) r d k (rw length-set h)) (Memᴰ.cases_cons m)
  where
    go : (Memᴰ r qs → get_or (located_by qs (set t q.0 q.1)) r.0 0 ≡ r.1) → (r ≡ q) ⊎ Memᴰ r qs
        → get_or (located_by qs (set t q.0 q.1)) r.0 0 ≡ r.1
    go f (inl s) = located_by_out qs (set t q.0 q.1) r.0 (rw (ap (λ x. x.0) s) e) ∙ rw (← s) (get_or-set_same t r.0 r.1 0 h)
    go f (inr k) = f k

-- ---- the live rows of a store at rest

module _ (s : Store) (v : Inv s) (a : AtRest s) where
  sz : Sizes every_table s
  sz = sized_sizes s v.is_sized

  in_ids_lem : (i : ℕ) → 0 < i → get_or s.id_marks i 0 ≡ 1 → held_id s i ≡ true
  in_ids_lem i p e = all (all (lt-ltb 0 i p) (lt-ltb i s.ids (rw sz.id_marks at (nz_lt s.id_marks i (one_nz e))))) (ap is_held e)

  -- an id with a location is held
  pub located_held : (i : ℕ) → location_of s i ≢ 0 → held_id s i ≡ true
  located_held i n = let L = v.good.located i n in in_ids_lem i L.pos L.id_held

  -- an id above 0 that is not held is free
  unheld : (i : ℕ) → 0 < i → held_id s i ≡ false → get_or s.id_marks i 0 ≡ 0
  unheld i p e =
      let n₁ : get_or s.id_marks i 0 ≢ 1 = λ q. contradiction (in_ids_lem i p q) e in
      let n₂ : get_or s.id_marks i 0 ≢ 2 = a.no_id i in
      let h : get_or s.id_marks i 0 ≤ 2 = v.good.id_mark i in
      omega arith

module _ (s : Store) (v : Inv s) (a : AtRest s) (rs : List Row) (bytes : List ℕ) (live : LiveRows s rs bytes) where
  row_located : (r : Row) → Memᴰ r rs → Located s.slots s.id_marks s.slot_marks s.owners r.0 r.1
  row_located r m = let o = live.only r m in rw o.1 at (v.good.located r.0 (a.stored r.0 o.0))

  not_row : (i : ℕ) → held_id s i ≡ false → elem i (ids_of rs) ≡ false
  not_row i e = go (elem i (ids_of rs)) refl
    where
      go : (b : Bool) → elem i (ids_of rs) ≡ b → b ≡ false
      go true m = let q = id_mem i rs m in contradiction {b = held_id s i} (rw q.2 at (live.only q.0 q.1).0) e
      go false m = refl

  rows_are_apart : {qs : List Row} → Distinct qs → ((r : Row) → Memᴰ r qs → Memᴰ r rs) → Apart s qs
  rows_are_apart none h = tt
  rows_are_apart (more {r = r} {rs = qs} e d) h = (
    (and_true (in_ids s r.0) _ (live.only r (h r (Memᴰ.head refl))).0).0,
    (row_located r (h r (Memᴰ.head refl))).range,
    e,
    once (elem r.1 (locations_of qs)) refl,
    rows_are_apart d (λ q m. h q (Memᴰ.tail m)),
  )
    where
      once : (b : Bool) → elem r.1 (locations_of qs) ≡ b → b ≡ false
      once false m = refl
      once true m =
          let q = loc_mem r.1 qs m in
          let L₁ = row_located r (h r (Memᴰ.head refl)) in
          let L₂ = row_located q.0 (h q.0 (Memᴰ.tail q.1)) in
          let same : q.0.0 ≡ r.0 = sym L₂.owner ∙ ap (λ x. get_or s.owners (slot_place s.slots x) 0) q.2 ∙ L₁.owner in
          contradiction (mem_id q.0 qs q.1) (rw same e)

  live_apart : Apart s rs
  live_apart = rows_are_apart live.once (λ r m. m)

  held_at : (i : ℕ) → 0 < i → get_or (held_by rs (replicate s.ids 0)) i 0 ≡ get_or s.id_marks i 0
  held_at i p = go (held_id s i) refl
    where
      go : (b : Bool) → held_id s i ≡ b → get_or (held_by rs (replicate s.ids 0)) i 0 ≡ get_or s.id_marks i 0
      go true e =
          let o = held_one s i (v.good.id_mark i) e in
          let lt : i < s.ids = rw (sz s v a).id_marks at (nz_lt s.id_marks i (one_nz o.1)) in
          held_by_in rs (replicate s.ids 0) i (rw (length-replicate {A = ℕ} s.ids 0) lt) (mem_id (i, location_of s i) rs (live.every i e)) ∙ sym o.1
      go false e = held_by_out rs (replicate s.ids 0) i (not_row i e) ∙ zeros s.ids i ∙ sym (unheld s v a i p e)

  located_at : (i : ℕ) → get_or (located_by rs (replicate s.ids 0)) i 0 ≡ location_of s i
  located_at i = go (held_id s i) refl
    where
      go : (b : Bool) → held_id s i ≡ b → get_or (located_by rs (replicate s.ids 0)) i 0 ≡ location_of s i
      go true e =
          let o = held_one s i (v.good.id_mark i) e in
          let lt : i < s.ids = rw (sz s v a).id_marks at (nz_lt s.id_marks i (one_nz o.1)) in
          located_by_in (replicate s.ids 0) (i, location_of s i) live.once (live.every i e) (rw (length-replicate {A = ℕ} s.ids 0) lt)
      go false e = located_by_out rs (replicate s.ids 0) i (not_row i e) ∙ zeros s.ids i ∙ sym (nowhere (ℕ_discrete (location_of s i) 0))
        where
          nowhere : Dec (location_of s i ≡ 0) → location_of s i ≡ 0
          nowhere (yes z) = z
          nowhere (no n) = contradiction (located_held s v a i n) e

  slot_at : (p : ℕ) → p < slabs * s.slots → get_or (write_all s.slots (locations_of rs) 1 (replicate (slabs * s.slots) 0)) p 0 ≡ get_or s.slot_marks p 0
  slot_at p h = go (ℕ_discrete (get_or s.slot_marks p 0) 1)
    where
      cap : ℕ
      cap = s.slots

      l : ℕ
      l = packing (p / cap) (p % cap)

      pos : 0 < cap
      pos = (sz s v a).range.slots_from

      slot : p % cap < cap
      slot = mod-lt p pos

      vl : is_location cap l ≡ true
      vl = is_location_packing cap (p / cap) (p % cap) v.good.small ((div-lt_iff_lt-mul pos).1 h) slot

      here : slot_place cap l ≡ p
      here = slot_place_packing cap (p / cap) (p % cap) v.good.small slot ∙ div-add-mod' p cap

      none_kept : kept s ≡ []
      none_kept = ap (λ n. pairs (pred n) s.batch.kept_ids s.batch.kept_locations) a.closed

      go : Dec (get_or s.slot_marks p 0 ≡ 1) → get_or (write_all cap (locations_of rs) 1 (replicate (slabs * cap) 0)) p 0 ≡ get_or s.slot_marks p 0
      go (yes e) = rw e (owned (v.good.accounted l vl (rw here e)))
        where
          owned : (location_of s (get_or s.owners (slot_place cap l) 0) ≡ l) ⊎ (elem l (locations_of (kept s)) ≡ true) → get_or
              (write_all cap (locations_of rs) 1 (replicate (slabs * cap) 0)) p 0 ≡ 1
          owned (inl q) =
              let o = get_or s.owners (slot_place cap l) 0 in
              let m : elem l (locations_of rs) ≡ true =
              rw q at (mem_loc (o, location_of s o) rs (live.every o (located_held s v a o (rw q (is_location_nz cap l vl))))) in
              rw here at (write_all_same cap (locations_of rs) 1 (replicate (slabs * cap) 0) l m vl (rw (length-replicate {A = ℕ} (slabs * cap) 0) (slot_place_lt cap l vl)))
          owned (inr q) = contradiction q (ap (λ ks. elem l (locations_of ks)) none_kept)
      go (no n) =
          let n₂ : get_or s.slot_marks p 0 ≢ 2 = a.no_slot p in
          let b : get_or s.slot_marks p 0 ≤ 2 = v.good.slot_mark p in
          let z : get_or s.slot_marks p 0 ≡ 0 = omega arith in
          write_all_other cap (locations_of rs) 1 (replicate (slabs * cap) 0) p (λ k m nz e.
          let q = loc_mem k rs m in
          n (ap (λ x. get_or s.slot_marks x 0) (e ∙ ap (slot_place cap) (sym q.2)) ∙ (row_located q.0 q.1).slot_held))
          ∙ zeros (slabs * cap) p ∙ sym z

  rebuilt_same : Same (rebuilt s.ids s.slots rs) s
  rebuilt_same = record {
    ids = refl;
    slots = refl;
    id_marks = ext_get_or 0 _ _
        (simp (length-drop, length_held_by, length-replicate, (sz s v a).id_marks))
        (λ i b. sym (drop_get (held_by rs (replicate s.ids 0)) i) ∙ held_at (suc i) (omega arith) ∙ drop_get s.id_marks i);
    locations = ext_get_or 0 _ _ (length_located_by rs (replicate s.ids 0) ∙ length-replicate s.ids 0 ∙ sym (sz s v a).locations) (λ i b. located_at i);
    slot_marks = ext_get_or 0 _ _
        (length_write_all s.slots (locations_of rs) 1 (replicate (slabs * s.slots) 0) ∙ length-replicate (slabs * s.slots) 0 ∙ sym (sz s v a).slot_marks)
        (λ p b. slot_at p (simp (length_write_all, length-replicate) at b));
    opened = sym a.closed;
    batch = ap (λ n. pairs (pred n) s.batch.kept_ids s.batch.kept_locations) (sym a.closed);
  }

  -- the ids of the rows are in range, and so each has its bytes
  row_lt : (i : ℕ) → elem i (ids_of rs) ≡ true → i < s.ids + most_updates
  row_lt i m =
      let q = id_mem i rs m in
      let h = ltb-true q.0.0 s.ids (and_true (ltb 0 q.0.0) _ (and_true (in_ids s q.0.0) _ (live.only q.0 q.1).0).0).1 in
      omega (arith, q.2)

  rebuilt_alike : Alike (with_carried (rebuilt s.ids s.slots rs) (rebuilt_column s.ids (columns rs bytes))) s
  unfolding rebuilt_column
  rebuilt_alike = closed_alike (same_carried _ s.carried rebuilt_same)
      (λ i n.
      let m : elem i (ids_of rs) ≡ true = mem_id (i, location_of s i) rs (live.every i (located_held s v a i (rw (sym (located_at i)) n))) in
      ap (λ b. part width (put_rows width (ids_of rs) b (replicate (carried_bytes s.ids) 0)) i) live.carries
      ∙ put_rows_own width (s.ids + most_updates) (ids_of rs) s.carried (replicate (carried_bytes s.ids) 0) i
      (length-replicate {A = ℕ} (carried_bytes s.ids) 0) (sz s v a).carried row_lt m)
      refl

-- whether rows are granted turns on the capacities alone
rows_by_caps : (s t : Store) → s.ids ≡ t.ids → s.slots ≡ t.slots → (is ls : List ℕ) (i : ℕ) (rs : List Row) → rows s is ls i rs ≡ rows t is ls i rs
rows_by_caps s t p q is ls i [] = refl
rows_by_caps s t p q is ls i (r ∷ rs) = λ k.
    test (not (ltb 0 r.0 && ltb r.0 (p k))) no_such_id i ⨾ test (elem r.0 is) repeated_id i ⨾ test (not (is_location (q k) r.1)) out_of_range i
    ⨾ test (elem r.1 ls) repeated_location i ⨾
    rows_by_caps s t p q (r.0 ∷ is) (r.1 ∷ ls) (suc i) rs k

live_granted : (s : Store) → Inv s → AtRest s → (rs : List Row) (bytes : List ℕ) → LiveRows s rs bytes → (memory : Store) → memory.ids ≡ s.ids → memory.slots ≡ s.slots
    → sized memory ≡ true → refusal memory (rebuild (columns rs bytes)) ≡ ok
unfolding refusal refusal_of ◌⨾◌ test earlier
live_granted s v a rs bytes live memory p q z = λ k.
    sized_shape memory z (rebuild (columns rs bytes)) k ⨾
    test (not (all (as_long_rows rs) (eq-eqb _ _ live.wide) k)) wrong_shape 0 ⨾
    earlier (λ n. true)
    ((ap (rows memory [] [] 0) (rows_of_rows rs) ∙ rows_by_caps memory s p q [] [] 0 rs
    ∙ apart_granted s [] [] 0 rs (live_apart s v a rs bytes live) (λ x e. clash (sym e)) (λ x e. clash (sym e))) k) (live.short k)

rebuild_next : (memory : Store) (rs : List Row) (bytes : List ℕ) → refusal memory (rebuild (columns rs bytes)) ≡ ok
    → next memory (rebuild (columns rs bytes)) ≡ with_carried (rebuilt memory.ids memory.slots rs) (rebuilt_column memory.ids (columns rs bytes))
unfolding effect
rebuild_next memory rs bytes e =
    next_granted memory (rebuild (columns rs bytes)) e
    ∙ ap (λ x. with_carried (rebuilt memory.ids memory.slots x) (rebuilt_column memory.ids (columns rs bytes))) (rows_of_rows rs)

length_rebuilt : (n : ℕ) (rs : Rows) → length (rebuilt_column n rs) ≡ length (replicate {A = ℕ} (carried_bytes n) 0)
unfolding rebuilt_column
length_rebuilt n rs = length_put_rows width rs.ids _ _

pub rebuild_agrees : RebuildAgrees
rebuild_agrees n m h rs bytes memory c a live en em z =
    let s = state n m h in
    let v : Inv s = reached n m c h in
    let k = after_caps (fresh_store n m) h in
    let p : memory.ids ≡ s.ids = en ∙ sym k.0 in
    let q : memory.slots ≡ s.slots = em ∙ sym k.1 in
    let g : refusal memory (rebuild (columns rs bytes)) ≡ ok = live_granted s v a rs bytes live memory p q z in (
      g,
      λ later.
          ap (λ x. answers x later)
          (rebuild_next memory rs bytes g ∙ λ i. with_carried (rebuilt (p i) (q i) rs) (rebuilt_column (p i) (columns rs bytes)))
          ∙ answers_same (with_carried (rebuilt s.ids s.slots rs) (rebuilt_column s.ids (columns rs bytes))) s (rebuilt_alike s v a rs bytes live)
          (keep_carried (rebuilt s.ids s.slots rs) _ (length_rebuilt s.ids (columns rs bytes))
          (rebuilt_inv s rs (caps_of s v.is_sized) (live_apart s v a rs bytes live))) v later,
    )
