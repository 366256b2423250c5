-- What each call does to the tallies: granted rises as the held or pending do, freed as they fall, and a commit changes neither, since what it
-- lets go of is pending from then on. Assumes nothing.
use mathlib.Core.Path.{ap, ◌≡◌, ◌∙◌, sym, refl}
use mathlib.Core.Logic.{◌≢◌}
use mathlib.Core.Bool.{Bool, true, cond, false}
use mathlib.Core.List.{List, ◌∷◌, [], map}
use Prim.Native.Nat.{ℕ, ◌<◌, suc, ◌+◌, ◌%◌, ◌*◌, zero}
use native.Mathlib.Nat.{suc-ne-zero, zero-add}
use native.Mathlib.Omega.{arith}
use lib.ListN.{length, get_or, set, replicate}
use Rattle.list_parts.specs.Parts.{part}
use Rattle.list_parts.proofs.Parts.{part_map}
use Rattle.address.specs.Address.{is_location, slabs}
use Rattle.marks.specs.Marks.{count_if, is_taken, is_free, let_go, is_pending}
use Rattle.marks.proofs.LawsCount.{weight, count_if_set}
use Rattle.model.specs.Lending.{every_table}
use Rattle.model.specs.Batches.{after_offer, taken_by, apply_row, apply_rows, after_commit, after_abandon}
use Rattle.model.specs.Ids.{next_id, after_new_id, after_release}
use Rattle.model.specs.Rebuild.{rebuilt}
use Rattle.model.specs.Store.{Update, Store, Row}
use Rattle.model.specs.Tables.{slot_place, write, bump, write_all, locations_of, location_of, kept}
use Rattle.model.proofs.Lists.{nz_lt, one_nz, zeros}
use Rattle.model.proofs.Writes.{bump_other, length_bump}
use Rattle.model.proofs.Sizes.{Sizes, sized_sizes}
use Rattle.histories.specs.Invariant.{Inv}
use Rattle.histories.specs.Statements.{in_slab, held_or_pending, Tally}
use Rattle.histories.proofs.Kept.{GoodS, row_good, rows_frame}
use Rattle.histories.proofs.KeptBatches.{place_free, kept_reserved}
use Rattle.histories.proofs.KeptRebuild.{Apart}
use Rattle.histories.proofs.TalliedCounters.{M, grant_mod, bump_same, free_mod, bump_pending_low, bump_pending_at, bump_each_zero, bump_each_at, Ranged, eq_mod}
use Rattle.histories.proofs.TalliedIds.{ids_new, count_if_let_go, count_held_by, spare_rows, count_zeros}
use Rattle.histories.proofs.TalliedSlots.{live_place, slab_count, live_freed, held_rows, count_slots, open_rows, part_zeros}

-- ---- new id

pub tally_new_id : (s : Store) (rs : List Row) → Sizes every_table s → next_id s < s.ids → Tally s rs → Tally (after_new_id s) rs
tally_new_id s rs z n a = record {
  of_ids = rw (ids_new s.id_marks (next_id s) (omega arith) (rw z.id_marks n))
      (grant_mod (get_or s.tallies.granted 0 0) _ (get_or s.tallies.freed 0 0) (length rs) (held_or_pending s.id_marks) d
      (bump_same s.tallies.granted 0 d (rw z.granted (omega arith))) a.of_ids);
  of_slab = λ k h. rw (bump_other s.tallies.granted 0 d (suc k) (suc-ne-zero k)) (a.of_slab k h);
}
  where
    d : ℕ
    d = cond (is_free (get_or s.id_marks 0 0)) 2 1

-- ---- release

pub tally_release : (s : Store) (rs : List Row) → Sizes every_table s → Tally s rs → Tally (after_release s) rs
tally_release s rs z a = record {
  of_ids = free_mod (get_or s.tallies.granted 0 0) (get_or s.tallies.freed 0 0) _ (length rs) (held_or_pending (map let_go s.id_marks)) (count_if is_pending s.id_marks)
      (ap (λ x. x % M) (bump_pending_low s.slots s.slot_marks slabs 0 freed₁ 0 (omega arith)) ∙ bump_same s.tallies.freed 0
      (count_if is_pending s.id_marks) (rw z.freed (omega arith)))
      (rw (← count_if_let_go s.id_marks) a.of_ids);
  of_slab = λ k h. rw (part_map s.slots let_go s.slot_marks k)
      (free_mod (get_or s.tallies.granted (suc k) 0) (get_or s.tallies.freed (suc k) 0) _ (count_if (in_slab k) (locations_of rs))
      (held_or_pending (map let_go (part s.slots s.slot_marks k))) (count_if is_pending (part s.slots s.slot_marks k))
      (bump_pending_at s.slots s.slot_marks slabs 0 freed₁ k (omega arith) (omega arith) (rw (length_bump, z.freed) (omega arith))
      ∙ ap (λ x. (x + count_if is_pending (part s.slots s.slot_marks k)) % M)
      (bump_other s.tallies.freed 0 (count_if is_pending s.id_marks) (suc k) (suc-ne-zero k)))
      (rw (← count_if_let_go (part s.slots s.slot_marks k)) (a.of_slab k h)));
}
  where
    freed₁ : List ℕ
    freed₁ = bump s.tallies.freed 0 (count_if is_pending s.id_marks)

-- ---- offer

pub tally_offer : (s : Store) (rs : List Row) (us : List Update) → Inv s → Tally s rs → Tally (after_offer s us) rs
tally_offer s rs us v a = record {
  of_ids = rw (bump_each_zero s.slots s.tallies.granted (taken_by s us) ranged) a.of_ids;
  of_slab = λ k h. rw (live_place s.slots s.slot_marks us k v.good.small v.good.full)
      (grant_mod (get_or s.tallies.granted (suc k) 0) _ (get_or s.tallies.freed (suc k) 0) (count_if (in_slab k) (locations_of rs))
      (held_or_pending (part s.slots s.slot_marks k)) (count_if (in_slab k) (taken_by s us))
      (bump_each_at s.slots s.tallies.granted (taken_by s us) k ranged (rw (sized_sizes s v.is_sized).granted (omega arith))) (a.of_slab k h));
}
  where
    ranged : Ranged s.slots (taken_by s us)
    ranged l e n = (place_free s.slots s.slot_marks us v.good.small v.good.full l e n).range

-- ---- commit

row_counts : (s : Store) (i l : ℕ) (ks : List Row) → GoodS s ((i, l) ∷ ks)
    → (held_or_pending (apply_row s i l (location_of s i)).id_marks ≡ held_or_pending s.id_marks)
    × ((k : ℕ) → held_or_pending (part (apply_row s i l (location_of s i)).slots (apply_row s i l (location_of s i)).slot_marks k) ≡ held_or_pending (part s.slots s.slot_marks k))
row_counts s i l ks g = each l
  where
    slot : (o : ℕ) → (o ≢ 0 → (is_location s.slots o ≡ true) × (get_or s.slot_marks (slot_place s.slots o) 0 ≡ 1))
        → (k : ℕ) → held_or_pending (part s.slots (write s.slots o 2 s.slot_marks) k) ≡ held_or_pending (part s.slots s.slot_marks k)
    slot zero f k = refl
    slot (suc o) f k =
        let q = f (suc-ne-zero o) in
        go (in_slab k (suc o)) q.1
        (slab_count s.slots (suc o) 2 s.slot_marks k q.0 (nz_lt s.slot_marks (slot_place s.slots (suc o)) (one_nz q.1)) (in_slab k (suc o)) refl)
      where
        n' : ℕ
        n' = held_or_pending (part s.slots (write s.slots (suc o) 2 s.slot_marks) k)

        n : ℕ
        n = held_or_pending (part s.slots s.slot_marks k)

        go : (b : Bool) → get_or s.slot_marks (slot_place s.slots (suc o)) 0 ≡ 1
            → n' + cond b (weight (is_taken (get_or s.slot_marks (slot_place s.slots (suc o)) 0))) 0 ≡ n + cond b 1 0 → n' ≡ n
        go true e h = let h' : n' + 1 ≡ n + 1 = rw e at h in omega arith
        go false e h = omega arith

    slots_same : (k : ℕ) → held_or_pending (part s.slots (write s.slots (location_of s i) 2 s.slot_marks) k) ≡ held_or_pending (part s.slots s.slot_marks k)
    slots_same = slot (location_of s i) (λ n. let L = g.located i n in (L.range, L.slot_held))

    ids_same : held_or_pending (set s.id_marks i 2) ≡ held_or_pending s.id_marks
    ids_same =
        let e : get_or s.id_marks i 0 ≡ 1 = g.keeps.0.id_held in
        let c = count_if_set is_taken s.id_marks i 2 (nz_lt s.id_marks i (one_nz e)) in
        let c' : held_or_pending (set s.id_marks i 2) + 1 ≡ held_or_pending s.id_marks + 1 = rw e at c in
        omega arith

    each : (n : ℕ) → (held_or_pending (apply_row s i n (location_of s i)).id_marks ≡ held_or_pending s.id_marks)
        × ((k : ℕ) → held_or_pending (part (apply_row s i n (location_of s i)).slots (apply_row s i n (location_of s i)).slot_marks k) ≡ held_or_pending (part s.slots s.slot_marks k))
    each zero = (ids_same, slots_same)
    each (suc n) = (refl, slots_same)

rows_counts : (s : Store) (ks : List Row) → GoodS s ks
    → (held_or_pending (apply_rows s ks).id_marks ≡ held_or_pending s.id_marks)
    × ((k : ℕ) → held_or_pending (part (apply_rows s ks).slots (apply_rows s ks).slot_marks k) ≡ held_or_pending (part s.slots s.slot_marks k))
rows_counts s [] g = (refl, λ k. refl)
rows_counts s (r ∷ rs) g =
    let b = row_counts s r.0 r.1 rs g in
    let a = rows_counts (apply_row s r.0 r.1 (location_of s r.0)) rs (row_good s r.0 r.1 rs g) in
    (a.0 ∙ b.0, λ k. a.1 k ∙ b.1 k)

pub tally_commit : (s : Store) (rs : List Row) → Inv s → Tally s rs → Tally (after_commit s) rs
tally_commit s rs v a =
    let c = rows_counts s (kept s) v.good in
    let f = (rows_frame s (kept s)).tallies in
    record {
      of_ids = rw (f, c.0) a.of_ids;
      of_slab = λ k h. rw (f, c.1 k) (a.of_slab k h);
    }

-- ---- abandon

pub tally_abandon : (s : Store) (rs : List Row) → Inv s → Tally s rs → Tally (after_abandon s) rs
tally_abandon s rs v a = record {
  of_ids = rw (bump_each_zero s.slots s.tallies.freed (locations_of (kept s)) ranged) a.of_ids;
  of_slab = λ k h.
      free_mod (get_or s.tallies.granted (suc k) 0) (get_or s.tallies.freed (suc k) 0) _ (count_if (in_slab k) (locations_of rs))
      (held_or_pending (part s.slots (write_all s.slots (locations_of (kept s)) 0 s.slot_marks) k)) (count_if (in_slab k) (locations_of (kept s)))
      (bump_each_at s.slots s.tallies.freed (locations_of (kept s)) k ranged (rw (sized_sizes s v.is_sized).freed (omega arith)))
      (rw (← live_freed s.slots s.slot_marks (locations_of (kept s)) k
      (held_rows s.slots s.id_marks s.locations s.slot_marks (kept s) v.good.keeps)) (a.of_slab k h));
}
  where
    ranged : Ranged s.slots (locations_of (kept s))
    ranged l e n = (kept_reserved s.slots s.id_marks s.locations s.slot_marks (kept s) v.good.keeps l e n).range

-- ---- rebuild

pub tally_rebuilt : (s : Store) (rs : List Row) → Apart s rs → Tally (rebuilt s.ids s.slots rs) rs
tally_rebuilt s rs a = record {
  of_ids = eq_mod _ _ (sym (ap (λ x. 0 + x)
      (count_held_by rs (replicate s.ids 0) (spare_rows s rs a) ∙ ap (λ x. x + length rs) (count_zeros s.ids) ∙ zero-add (length rs))));
  of_slab = λ k h. eq_mod _ _ (
      let g : get_or {A = ℕ} (replicate 79 0) (suc k) 0 ≡ 0 = zeros 79 (suc k) in
      let c = count_slots s.slots (replicate (slabs * s.slots) 0) rs k (open_rows s rs a) in
      let z = part_zeros s.slots (slabs * s.slots) k in
      omega arith);
}
