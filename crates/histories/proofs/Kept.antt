-- New id, release and commit keep the invariant. Assumes nothing.
use mathlib.Core.Path.{◌≡◌, ◌∙◌, sym, refl}
use mathlib.Core.Bool.{◌&&◌, Bool, cond, true, false}
use mathlib.Core.List.{List, ◌∷◌, [], map}
use Prim.Native.Nat.{ℕ, ◌*◌, ◌≤◌, suc, zero, ◌<◌}
use native.Mathlib.Nat.{suc-ne-zero}
use native.Mathlib.Omega.{arith}
use lib.Dec.{eqb}
use lib.ListN.{length, get_or, length-set, set, get_or-map, length-map}
use lib.Seq.{get_or-set_other}
use Rattle.address.specs.Address.{slabs}
use Rattle.marks.specs.Marks.{hold, let_go, is_pending}
use Rattle.model.specs.Batches.{apply_row, apply_rows, after_commit}
use Rattle.model.specs.Ids.{after_new_id, next_id, bump_pending, after_release}
use Rattle.model.specs.Store.{Store, Row}
use Rattle.model.specs.Tables.{slot_place, kept, most_updates, allocators, capacities, carried_bytes, location_of}
use Rattle.model.specs.Lending.{lent_fit, sized}
use Rattle.model.proofs.Lists.{set_each, set_keeps}
use Rattle.model.proofs.Writes.{length_bump, length_write}
use Rattle.histories.specs.Invariant.{KeptRows, Good, Inv}
use Rattle.histories.proofs.Applied.{apply_free, apply_put}

-- ---- sizes

-- the lengths that `sized` looks at
abbrev pub lengths : Store → List ℕ
lengths s =
    length s.id_marks ∷ length s.locations ∷ length s.slot_marks ∷ length s.owners ∷
    length s.batch.kept_ids ∷ length s.batch.kept_locations ∷
    length s.tallies.granted ∷ length s.tallies.freed ∷ length s.tallies.used ∷ length s.tallies.high ∷ length s.carried ∷ []

pub sized_same : (s t : Store) → s.ids ≡ t.ids → s.slots ≡ t.slots → lengths s ≡ lengths t → sized s ≡ sized t
unfolding sized lent_fit
sized_same s t p q e = λ k.
    capacities (p k) (q k) &&
    (eqb (get_or (e k) 0 0) (p k) && eqb (get_or (e k) 1 0) (p k) && eqb (get_or (e k) 2 0) (slabs * q k) && eqb (get_or (e k) 3 0) (slabs * q k) &&
    (eqb (get_or (e k) 4 0) most_updates && eqb (get_or (e k) 5 0) most_updates) &&
    eqb (get_or (e k) 10 0) (carried_bytes (p k)) &&
    (eqb (get_or (e k) 6 0) allocators && eqb (get_or (e k) 7 0) allocators && eqb (get_or (e k) 8 0) allocators && eqb (get_or (e k) 9 0) slabs))

-- ---- marks of ids change, and held ids above 0 stay held

kept_im : (cap : ℕ) (im im' lo sm : List ℕ) (ks : List Row) → ((i : ℕ) → 0 < i → get_or im i 0 ≡ 1 → get_or im' i 0 ≡ 1)
    → KeptRows cap im lo sm ks → KeptRows cap im' lo sm ks
kept_im cap im im' lo sm [] h t = tt
kept_im cap im im' lo sm (r ∷ rs) h t = (
  record {
    pos = t.0.pos;
    id_held = h r.0 t.0.pos t.0.id_held;
    new_id_lem = t.0.new_id_lem;
    new_loc = t.0.new_loc;
    reserved = t.0.reserved;
  },
  kept_im cap im im' lo sm rs h t.1,
)

good_im : {cap : ℕ} {im lo sm ow : List ℕ} {ks : List Row} (im' : List ℕ) → Good cap im lo sm ow ks → length im' ≡ length im
    → ((i : ℕ) → get_or im' i 0 ≤ 2) → ((i : ℕ) → 0 < i → get_or im i 0 ≡ 1 → get_or im' i 0 ≡ 1) → Good cap im' lo sm ow ks
good_im {cap} {im} {lo} {sm} {ow} {ks} im' g l m h = record {
  small = g.small;
  same_ids = g.same_ids ∙ sym l;
  full = g.full;
  same_slots = g.same_slots;
  id_mark = m;
  slot_mark = g.slot_mark;
  located = λ i n. let L = g.located i n in record {
    pos = L.pos;
    id_held = h i L.pos L.id_held;
    range = L.range;
    slot_held = L.slot_held;
    owner = L.owner;
  };
  accounted = g.accounted;
  keeps = kept_im cap im im' lo sm ks h g.keeps;
}

-- marks of slots change, and the held ones are the same
kept_sm : (cap : ℕ) (im lo sm sm' : List ℕ) (ks : List Row) → ((p : ℕ) → get_or sm p 0 ≡ 1 → get_or sm' p 0 ≡ 1)
    → KeptRows cap im lo sm ks → KeptRows cap im lo sm' ks
kept_sm cap im lo sm sm' [] h t = tt
kept_sm cap im lo sm sm' (r ∷ rs) h t = (
  record {
    pos = t.0.pos;
    id_held = t.0.id_held;
    new_id_lem = t.0.new_id_lem;
    new_loc = t.0.new_loc;
    reserved = λ n. let k = t.0.reserved n in record { range = k.range; slot_held = h (slot_place cap r.1) k.slot_held; nobody = k.nobody };
  },
  kept_sm cap im lo sm sm' rs h t.1,
)

good_sm : {cap : ℕ} {im lo sm ow : List ℕ} {ks : List Row} (sm' : List ℕ) → Good cap im lo sm ow ks → length sm' ≡ length sm
    → ((p : ℕ) → get_or sm' p 0 ≤ 2) → ((p : ℕ) → get_or sm p 0 ≡ 1 → get_or sm' p 0 ≡ 1) → ((p : ℕ) → get_or sm' p 0 ≡ 1 → get_or sm p 0 ≡ 1)
    → Good cap im lo sm' ow ks
good_sm {cap} {im} {lo} {sm} {ow} {ks} sm' g l m h b = record {
  small = g.small;
  same_ids = g.same_ids;
  full = l ∙ g.full;
  same_slots = g.same_slots ∙ sym l;
  id_mark = g.id_mark;
  slot_mark = m;
  located = λ i n. let L = g.located i n in record {
    pos = L.pos;
    id_held = L.id_held;
    range = L.range;
    slot_held = h _ L.slot_held;
    owner = L.owner;
  };
  accounted = λ k v e. g.accounted k v (b _ e);
  keeps = kept_sm cap im lo sm sm' ks h g.keeps;
}

-- ---- new id

hold_le : (m : ℕ) → m ≤ 2 → hold m ≤ 2
hold_le zero h = omega arith
hold_le (suc m) h = h

pub keep_new_id : (s : Store) → Inv s → Inv (after_new_id s)
keep_new_id s v = record {
  is_sized = sized_same (after_new_id s) s refl refl (simp (length-set, length_bump)) ∙ v.is_sized;
  few = v.few;
  tops = v.tops;
  good = good_im _ v.good (simp length-set)
      (set_each (λ x. x ≤ 2) (set s.id_marks (next_id s) 1) 0 (hold (get_or s.id_marks 0 0)) (hold_le _ (v.good.id_mark 0))
      (set_each (λ x. x ≤ 2) s.id_marks (next_id s) 1 (omega arith) v.good.id_mark))
      (λ i p e. get_or-set_other (set s.id_marks (next_id s) 1) 0 i (hold (get_or s.id_marks 0 0)) 0 (omega arith) ∙ set_keeps s.id_marks (next_id s) 1 i e);
}

-- ---- release

let_go_at : (t : List ℕ) (p : ℕ) → get_or (map let_go t) p 0 ≡ let_go (get_or t p 0)
let_go_at t p = get_or-map let_go t p 0

let_go_le : (m : ℕ) → m ≤ 2 → let_go m ≤ 2
let_go_le m h = go (is_pending m)
  where
    go : (b : Bool) → cond b 0 m ≤ 2
    go true = omega arith
    go false = h

let_go_one : (m : ℕ) → m ≡ 1 → let_go m ≡ 1
let_go_one m e = rw e refl

let_go_back : (m : ℕ) → let_go m ≡ 1 → m ≡ 1
let_go_back m = go (is_pending m)
  where
    go : (b : Bool) → cond b 0 m ≡ 1 → m ≡ 1
    go true e = omega arith
    go false e = e

length_bump_pending : (cap : ℕ) (ms : List ℕ) (n k : ℕ) (t : List ℕ) → length (bump_pending cap ms n k t) ≡ length t
unfolding bump_pending
length_bump_pending cap ms zero k t = refl
length_bump_pending cap ms (suc n) k t = length_bump_pending cap ms n (suc k) _ ∙ simp length_bump

pub keep_release : (s : Store) → Inv s → Inv (after_release s)
keep_release s v = record {
  is_sized = sized_same (after_release s) s refl refl (simp (length-map, length_bump_pending, length_bump)) ∙ v.is_sized;
  few = v.few;
  tops = v.tops;
  good = good_sm (map let_go s.slot_marks)
      (good_im (map let_go s.id_marks) v.good (length-map s.id_marks let_go)
      (λ i. rw let_go_at (let_go_le _ (v.good.id_mark i))) (λ i p e. let_go_at s.id_marks i ∙ let_go_one _ e))
      (length-map s.slot_marks let_go)
      (λ p. rw let_go_at (let_go_le _ (v.good.slot_mark p))) (λ p e. let_go_at s.slot_marks p ∙ let_go_one _ e)
      (λ p e. let_go_back _ (sym (let_go_at s.slot_marks p) ∙ e));
}

-- ---- commit

abbrev pub GoodS : Store → List Row → Type 0
GoodS s ks = Good s.slots s.id_marks s.locations s.slot_marks s.owners ks

pub row_good : (s : Store) (i l : ℕ) (rs : List Row) → GoodS s ((i, l) ∷ rs) → GoodS (apply_row s i l (location_of s i)) rs
row_good s i zero rs g = apply_free s.slots s.id_marks s.locations s.slot_marks s.owners i rs g
row_good s i (suc l) rs g = apply_put s.slots s.id_marks s.locations s.slot_marks s.owners i (suc l) rs (suc-ne-zero l) g

rows_good : (s : Store) (ks : List Row) → GoodS s ks → GoodS (apply_rows s ks) []
rows_good s [] g = g
rows_good s (r ∷ rs) g = rows_good (apply_row s r.0 r.1 (location_of s r.0)) rs (row_good s r.0 r.1 rs g)

row_sized : (s : Store) (i l o : ℕ) → sized (apply_row s i l o) ≡ sized s
row_sized s i zero o = sized_same (apply_row s i zero o) s refl refl (simp (length-set, length_write))
row_sized s i (suc l) o = sized_same (apply_row s i (suc l) o) s refl refl (simp (length-set, length_write))

rows_sized : (s : Store) (ks : List Row) → sized (apply_rows s ks) ≡ sized s
rows_sized s [] = refl
rows_sized s (r ∷ rs) = rows_sized (apply_row s r.0 r.1 (location_of s r.0)) rs ∙ row_sized s r.0 r.1 (location_of s r.0)

-- what the applied updates leave alone
pub record Frame (s t : Store) : Type 0 where
  pub ids : s.ids ≡ t.ids
  pub slots : s.slots ≡ t.slots
  pub batch : s.batch ≡ t.batch
  pub tallies : s.tallies ≡ t.tallies
  pub carried : s.carried ≡ t.carried

row_frame : (s : Store) (i l o : ℕ) → Frame (apply_row s i l o) s
row_frame s i zero o = record { ids = refl; slots = refl; batch = refl; tallies = refl; carried = refl }
row_frame s i (suc l) o = record { ids = refl; slots = refl; batch = refl; tallies = refl; carried = refl }

pub rows_frame : (s : Store) (ks : List Row) → Frame (apply_rows s ks) s
rows_frame s [] = record { ids = refl; slots = refl; batch = refl; tallies = refl; carried = refl }
rows_frame s (r ∷ rs) =
    let a = rows_frame (apply_row s r.0 r.1 (location_of s r.0)) rs in
    let b = row_frame s r.0 r.1 (location_of s r.0) in
    record { ids = a.ids ∙ b.ids; slots = a.slots ∙ b.slots; batch = a.batch ∙ b.batch; tallies = a.tallies ∙ b.tallies; carried = a.carried ∙ b.carried }

pub keep_commit : (s : Store) → Inv s → Inv (after_commit s)
keep_commit s v = record {
  is_sized = sized_same (after_commit s) (apply_rows s (kept s)) refl refl (rw (rows_frame s (kept s)).batch) ∙ rows_sized s (kept s) ∙ v.is_sized;
  few = omega arith;
  tops = λ k. let f = rows_frame s (kept s) in rw (f.slots, f.tallies) (v.tops k);
  good = rows_good s (kept s) v.good;
}
