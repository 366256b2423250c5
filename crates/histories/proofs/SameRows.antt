-- Two stores that placement does not tell apart, and whose rows carry the same wherever a call shows them or will: in the row of each id that has a
-- location, and in those of the kept updates. An offer writes the same rows in both, a commit gives them to the same ids. Assumes nothing.
use mathlib.Core.Path.{◌≡◌, refl, sym, ap, subst, ◌∙◌}
use mathlib.Core.Logic.{◌≢◌, inl}
use mathlib.Core.Bool.{Bool, true, false, cond}
use mathlib.Core.List.{List, [], ◌∷◌, map}
use Prim.Native.Nat.{ℕ, zero, suc, ◌+◌, ◌*◌, ◌≤◌, ◌<◌, pred}
use native.Mathlib.Omega.{arith}
use lib.ListN.{length, get_or, set, length-map}
use borrow.Author.Tests.{eqb-false, not-true}
use Rattle.refusal.proofs.Tests.{and_true}
use Rattle.list_parts.specs.Parts.{part}
use Rattle.snapshot_blocks.specs.Blocks.{entry_for}
use Rattle.carried.specs.Carried.{width, put_rows, up_from, committed}
use Rattle.carried.proofs.Laws.{Carry, Below, located, put_rows_other, put_rows_same, up_from_below, elem_up_from, length_up_from, committed_same}
use Rattle.keys.specs.Keys.{normal_rows}
use Rattle.keys.proofs.Laws.{length_normal_rows}
use Rattle.model.specs.Batches.{id_of, updates_in, taken_by, apply_row, apply_rows, after_offer, after_commit}
use Rattle.model.specs.Columns.{offered_column, committed_column}
use Rattle.model.specs.Snapshots.{is_stored, those_from, entries_of}
use Rattle.model.specs.Store.{Store, with_carried, Row, Offer}
use Rattle.model.specs.Tables.{most_updates, carried_bytes, location_of, held_id, pairs, kept}
use Rattle.model.proofs.Batches.{length_updates_of, length_place}
use Rattle.model.proofs.Granted.{Offered}
use Rattle.model.proofs.Lists.{nz_lt, one_nz}
use Rattle.model.proofs.Sizes.{sized_sizes}
use Rattle.histories.specs.Invariant.{KeptRows, Inv}
use Rattle.histories.proofs.KeptBatches.{kept_offer, ids_pairs}
use Rattle.histories.proofs.Same.{Same, same_refl, same_carried, loc_same, stored_same}

-- the rows of the kept updates
abbrev pub KeptAlike : Store → Store → Type 0
KeptAlike s t = (j : ℕ) → s.ids ≤ j → j < s.ids + length (kept s) → part width s.carried j ≡ part width t.carried j

pub record Alike (s t : Store) : Type 0 where
  pub same : Same s t
  pub rows : Carry width s.locations s.carried t.carried
  pub kept_rows : KeptAlike s t

pub alike_refl : (s : Store) → Alike s s
alike_refl s = record { same = same_refl s; rows = λ i n. refl; kept_rows = λ j a b. refl }

pub equal_alike : {s t : Store} → s ≡ t → Alike s t
equal_alike {s} {t} p = subst (λ x. Alike s x) p (alike_refl s)

-- where no batch is open, no row of a kept update is asked for
pub closed_alike : {s t : Store} → Same s t → Carry width s.locations s.carried t.carried → s.batch.opened ≡ 0 → Alike s t
closed_alike {s} {t} e r o = record {
  same = e;
  rows = r;
  kept_rows = λ j a b.
      let z : length (kept s) ≡ 0 = ap (λ n. length (pairs (pred n) s.batch.kept_ids s.batch.kept_locations)) o in
      absurd (omega arith);
}

-- an id with a location is in range
pub located_lt : (s : Store) → Inv s → (i : ℕ) → location_of s i ≢ 0 → i < s.ids
located_lt s v i n = rw (sized_sizes s v.is_sized).locations at (nz_lt s.locations i n)

-- ---- offer

pub length_kept_offer : (s : Store) (o : Offer) → Offered s o → length (kept (after_offer s (updates_in o))) ≡ length o.ids
length_kept_offer s o g =
    let us = updates_in o in
    ap length (kept_offer s us) ∙ sym (length-map (pairs (length us) (map id_of us) (taken_by s us)) (λ (r : Row). r.0))
    ∙ ap length (ids_pairs us (taken_by s us) (length_place s.slots s.slot_marks us)) ∙ length-map us id_of
    ∙ length_updates_of o.ids o.stores o.lengths g.stores g.lengths

-- a row is kept for each update
offered_long : (s : Store) (o : Offer) → Offered s o → length (normal_rows o.stores o.carried) ≡ length o.ids * width
offered_long s o g =
    length_normal_rows o.stores o.carried (g.carries ∙ ap (λ x. x * width) (sym g.stores)) ∙ ap (λ x. x * width) g.stores

-- an offer leaves the rows of ids
pub offered_other : (n : ℕ) (o : Offer) (t : List ℕ) (i : ℕ) → i < n → part width (offered_column n o t) i ≡ part width t i
unfolding offered_column
offered_other n o t i h = put_rows_other width (up_from n (length o.ids)) (normal_rows o.stores o.carried) t i (up_from_below n (length o.ids) i h)

-- two maps over numbers of which a test holds
map_those : {A : Type 0} (p : ℕ → Bool) (f g : ℕ → A) (n i : ℕ) → ((j : ℕ) → p j ≡ true → f j ≡ g j) → map f (those_from p n i) ≡ map g (those_from p n i)
unfolding those_from
map_those p f g zero i h = refl
map_those p f g (suc n) i h = go (p i) refl (map_those p f g n (suc i) h)
  where
    go : (b : Bool) → p i ≡ b → map f (those_from p n (suc i)) ≡ map g (those_from p n (suc i))
        → map f (cond b (i ∷ those_from p n (suc i)) (those_from p n (suc i))) ≡ map g (cond b (i ∷ those_from p n (suc i)) (those_from p n (suc i)))
    go true q r = λ k. h i q k ∷ r k
    go false q r = r

module _ (s t : Store) (e : Alike s t) (vs : Inv s) (vt : Inv t) where
  long_s : length s.carried ≡ (s.ids + most_updates) * width
  long_s = (sized_sizes s vs.is_sized).carried

  long_t : length t.carried ≡ (s.ids + most_updates) * width
  long_t = (sized_sizes t vt.is_sized).carried ∙ ap carried_bytes (sym e.same.ids)

  pub offer_alike : (o : Offer) → Same (after_offer s (updates_in o)) (after_offer t (updates_in o)) → Offered s o
      → Alike (with_carried (after_offer s (updates_in o)) (offered_column s.ids o s.carried))
      (with_carried (after_offer t (updates_in o)) (offered_column t.ids o t.carried))
  unfolding offered_column
  offer_alike o p g = record {
    same = same_carried _ _ p;
    rows = λ i n.
        let h = located_lt s vs i n in
        offered_other s.ids o s.carried i h ∙ e.rows i n
        ∙ sym (offered_other t.ids o t.carried i (subst (λ x. i < x) e.same.ids h));
    kept_rows = λ j a b.
        let l = length_kept_offer s o g in
        let few = g.few in
        put_rows_same width (s.ids + most_updates) (up_from s.ids (length o.ids)) (normal_rows o.stores o.carried) s.carried t.carried j long_s long_t
        (offered_long s o g ∙ ap (λ x. x * width) (sym (length_up_from s.ids (length o.ids)))) (omega (arith, l))
        (inl (elem_up_from s.ids (length o.ids) j a (omega (arith, l))))
        ∙ ap (λ x. part width (put_rows width (up_from x (length o.ids)) (normal_rows o.stores o.carried) t.carried) j) e.same.ids;
  }

  -- ---- commit

  applied_locations : (x : Store) (ks : List Row) → (apply_rows x ks).locations ≡ located ks x.locations
  applied_locations x [] = refl
  applied_locations x (r ∷ rs) =
      applied_locations (apply_row x r.0 r.1 (location_of x r.0)) rs ∙ ap (located rs) (row r.1)
    where
      row : (l : ℕ) → (apply_row x r.0 l (location_of x r.0)).locations ≡ set x.locations r.0 l
      row zero = refl
      row (suc l) = refl

  length_pairs_le : (n : ℕ) (is ls : List ℕ) → length (pairs n is ls) ≤ n
  length_pairs_le zero is ls = omega arith
  length_pairs_le (suc n) [] ls = omega arith
  length_pairs_le (suc n) (i ∷ is) [] = omega arith
  length_pairs_le (suc n) (i ∷ is) (l ∷ ls) = let h = length_pairs_le n is ls in omega arith

  kept_below : (ks : List Row) → KeptRows s.slots s.id_marks s.locations s.slot_marks ks → Below s.ids ks
  kept_below [] k = tt
  kept_below (r ∷ rs) k =
      (rw (sized_sizes s vs.is_sized).id_marks at (nz_lt s.id_marks r.0 (one_nz k.0.id_held)), kept_below rs k.1)

  pub commit_alike : Same (after_commit s) (after_commit t)
      → Alike (with_carried (after_commit s) (committed_column s.ids (kept s) s.carried))
      (with_carried (after_commit t) (committed_column t.ids (kept t) t.carried))
  unfolding committed_column
  commit_alike p = closed_alike (same_carried _ _ p) rows refl
    where
      rows : Carry width (apply_rows s (kept s)).locations (committed width s.ids (kept s) s.carried) (committed width t.ids (kept t) t.carried)
      rows i n =
          let b = length_pairs_le (pred s.batch.opened) s.batch.kept_ids s.batch.kept_locations in
          let f = vs.few in
          committed_same width (s.ids + most_updates) s.ids s.ids (kept s) s.locations s.carried t.carried long_s long_t
          (kept_below (kept s) vs.good.keeps) (omega arith) (omega arith) e.kept_rows e.rows i
          (subst (λ lo. get_or lo i 0 ≢ 0) (applied_locations s (kept s)) n)
          ∙ λ k. part width (committed width (e.same.ids k) (e.same.batch k) t.carried) i

  -- ---- the rows of a snapshot

  pub entries_alike : entries_of s ≡ entries_of t
  entries_alike =
      map_those (is_stored s) (entry_for width s.locations s.carried) (entry_for width t.locations t.carried) s.ids 0
      (λ i h.
      let n = eqb-false (location_of s i) 0 (not-true _ (and_true (held_id s i) _ h).1) in
      λ k. record { id = i; carried = e.rows i n k; location = loc_same s t e.same vs vt i k })
      ∙ ap (map (entry_for width t.locations t.carried)) (stored_same s t e.same vs vt)
