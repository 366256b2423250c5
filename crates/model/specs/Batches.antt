-- Document 01, "Ids, slots, pending": a batch is offered, its slots taken in list order, then committed or abandoned. Assumes nothing.
use Rattle.std.specs.Prelude.{Bool, true, false, not, cond, ◌&&◌, ◌||◌, List, [], ◌∷◌, ◌++◌, map, ℕ, zero, suc, leb, ltb, eqb, length, set, drop}
use Rattle.refusal.specs.Refusals.{too_large, no_such_id, repeated_id, none_free, tables_disagree}
use Rattle.list_parts.specs.Lists.{elem}
use Rattle.list_parts.specs.Parts.{part}
use Rattle.sizes.specs.Sizes.{slab_for}
use Rattle.address.specs.Address.{packing, is_location, slabs}
use Rattle.marks.specs.Marks.{is_free, count_if, first_free}
use Rattle.model.specs.Store.{Store, with_id_marks, with_locations, with_slot_marks, with_owners, with_batch, with_tallies, Update, put, free, Row, Offer}
use Rattle.model.specs.Verdict.{Verdict, ok, ◌⨾◌, test}
use Rattle.model.specs.Tables.{write, write_all, location_of, in_ids, held_id, bad_location, locations_of, kept, shut, bump_each, use_each}

-- ---- offer

-- the updates of three lists
abbrev pub update_of : Bool → ℕ → ℕ → Update
update_of true i n = put i n
update_of false i n = free i

abbrev pub updates_of : List ℕ → List Bool → List ℕ → List Update
updates_of [] ss ns = []
updates_of (i ∷ is) [] ns = []
updates_of (i ∷ is) (s ∷ ss) [] = []
updates_of (i ∷ is) (s ∷ ss) (n ∷ ns) = update_of s i n ∷ updates_of is ss ns

abbrev pub updates_in : Offer → List Update
updates_in o = updates_of o.ids o.stores o.lengths

abbrev pub id_of : Update → ℕ
id_of (put i n) = i
id_of (free i) = i

-- a Store whose object has no class
abbrev pub no_class : Update → Bool
no_class (put i n) = leb slabs (slab_for n)
no_class (free i) = false

-- whether an update asks for a slot of slab k; how many do
abbrev pub asks : ℕ → Update → Bool
asks k (put i n) = eqb (slab_for n) k
asks k (free i) = false

abbrev pub asked : ℕ → List Update → ℕ
asked k [] = 0
asked k (u ∷ us) = cond (asks k u) (suc (asked k us)) (asked k us)

-- per update in list order: `seen` are the ids of those before it, i is its index
abbrev pub updates : Store → List ℕ → ℕ → List Update → Verdict
updates s seen i [] = ok
updates s seen i (u ∷ us) =
    test (not (held_id s (id_of u))) no_such_id i ⨾ test (elem (id_of u) seen) repeated_id i ⨾
    test (no_class u) too_large i ⨾ test (bad_location s (id_of u)) tables_disagree i ⨾ updates s (id_of u ∷ seen) (suc i) us

-- then per slab, n of them from k on: no more slots are asked for than are free
unfoldable pub room : ℕ → List ℕ → List Update → ℕ → ℕ → Verdict
room cap ms us zero k = ok
room cap ms us (suc n) k = test (ltb (count_if is_free (part cap ms k)) (asked k us)) none_free k ⨾ room cap ms us n (suc k)

-- the location of the slab's smallest free slot, and 0 where it has none
abbrev pub spot : ℕ → List ℕ → ℕ → ℕ
spot cap ms k = cond (ltb (first_free (part cap ms k)) (length (part cap ms k))) (packing k (first_free (part cap ms k))) 0

abbrev pub spot_for : ℕ → List ℕ → Update → ℕ
spot_for cap ms (put i n) = spot cap ms (slab_for n)
spot_for cap ms (free i) = 0

-- the location of each update, 0 for a Free: slots are taken in list order
abbrev pub place : ℕ → List ℕ → List Update → List ℕ
place cap ms [] = []
place cap ms (u ∷ us) = spot_for cap ms u ∷ place cap (write cap (spot_for cap ms u) 1 ms) us

abbrev pub taken_by : Store → List Update → List ℕ
taken_by s us = place s.slots s.slot_marks us

-- the slots are held, and the store keeps the batch
abbrev pub after_offer : Store → List Update → Store
after_offer s us = with_tallies (with_batch (with_slot_marks s (write_all s.slots (taken_by s us) 1 s.slot_marks)) (record {
  opened = suc (length us);
  kept_ids = map id_of us ++ drop (length us) s.batch.kept_ids;
  kept_locations = taken_by s us ++ drop (length us) s.batch.kept_locations;
}))
    (record {
      granted = bump_each s.slots s.tallies.granted (taken_by s us);
      freed = s.tallies.freed;
      used = use_each s.slots s.tallies.used (taken_by s us);
      high = s.tallies.high;
    })

-- ---- commit

-- a kept update's id or new location is out of range
abbrev pub bad_row : Store → Row → Bool
bad_row s r = not (in_ids s r.0 && (eqb r.1 0 || is_location s.slots r.1))

-- all updates are checked against the tables as they are found
abbrev pub commit_rows : Store → ℕ → List Row → Verdict
commit_rows s i [] = ok
commit_rows s i (r ∷ rs) = test (bad_row s r || bad_location s r.0) tables_disagree i ⨾ commit_rows s (suc i) rs

-- one kept update of id i, whose old location is o (0: none). A new location 0, a Free: the id and its slot become pending, location and
-- owner entries are cleared. A Store: the id has the new location and owns its slot, the old slot becomes pending and keeps its owner entry
abbrev pub apply_row : Store → ℕ → ℕ → ℕ → Store
apply_row s i zero o =
    with_owners (with_slot_marks (with_locations (with_id_marks s (set s.id_marks i 2)) (set s.locations i 0))
    (write s.slots o 2 s.slot_marks)) (write s.slots o 0 s.owners)
apply_row s i (suc l) o =
    with_owners (with_slot_marks (with_locations s (set s.locations i (suc l)))
    (write s.slots o 2 s.slot_marks)) (write s.slots (suc l) i s.owners)

-- in list order
abbrev pub apply_rows : Store → List Row → Store
apply_rows s [] = s
apply_rows s (r ∷ rs) = apply_rows (apply_row s r.0 r.1 (location_of s r.0)) rs

abbrev pub after_commit : Store → Store
after_commit s = with_batch (apply_rows s (kept s)) (shut s.batch)

-- ---- abandon

abbrev pub abandon_rows : Store → ℕ → List Row → Verdict
abandon_rows s i [] = ok
abandon_rows s i (r ∷ rs) = test (bad_row s r) tables_disagree i ⨾ abandon_rows s (suc i) rs

-- the slots taken are free again
abbrev pub after_abandon : Store → Store
after_abandon s =
    with_tallies (with_batch (with_slot_marks s (write_all s.slots (locations_of (kept s)) 0 s.slot_marks)) (shut s.batch)) (record {
      granted = s.tallies.granted;
      freed = bump_each s.slots s.tallies.freed (locations_of (kept s));
      used = s.tallies.used;
      high = s.tallies.high;
    })
