-- What holds of every store that a history reaches. Assumes nothing.
use Rattle.std.specs.Prelude.{◌≡◌, ◌≢◌, ◌⊎◌, true, false, List, [], ◌∷◌, ℕ, ◌*◌, ◌≤◌, ◌<◌, length, get_or}
use Rattle.list_parts.specs.Lists.{elem}
use Rattle.address.specs.Address.{is_location, slabs}
use Rattle.model.specs.Store.{Store, Row}
use Rattle.model.specs.Tables.{slot_place, most_opened, kept, ids_of, locations_of}
use Rattle.model.specs.Lending.{sized}

-- id i is held, above 0, and owns the slot of its location l, which is held and in range
pub record Located (cap : ℕ) (im sm ow : List ℕ) (i l : ℕ) : Type 0 where
  pub pos : 0 < i
  pub id_held : get_or im i 0 ≡ 1
  pub range : is_location cap l ≡ true
  pub slot_held : get_or sm (slot_place cap l) 0 ≡ 1
  pub owner : get_or ow (slot_place cap l) 0 ≡ i

-- the slot of l is held, in range, and no id's location
pub record Reserved (cap : ℕ) (lo sm : List ℕ) (l : ℕ) : Type 0 where
  pub range : is_location cap l ≡ true
  pub slot_held : get_or sm (slot_place cap l) 0 ≡ 1
  pub nobody : (j : ℕ) → get_or lo j 0 ≢ l

-- a kept update, and those after it: its id is held, and neither id nor new slot comes again
pub record KeptRow (cap : ℕ) (im lo sm : List ℕ) (r : Row) (rs : List Row) : Type 0 where
  pub pos : 0 < r.0
  pub id_held : get_or im r.0 0 ≡ 1
  pub new_id_lem : elem r.0 (ids_of rs) ≡ false
  pub new_loc : r.1 ≢ 0 → elem r.1 (locations_of rs) ≡ false
  pub reserved : r.1 ≢ 0 → Reserved cap lo sm r.1

abbrev pub KeptRows : ℕ → List ℕ → List ℕ → List ℕ → List Row → Type 0
KeptRows cap im lo sm [] = Unit
KeptRows cap im lo sm (r ∷ rs) = KeptRow cap im lo sm r rs × KeptRows cap im lo sm rs

-- the tables, and the kept updates that are still to be applied: each held slot is its owner's location or a kept update's
pub record Good (cap : ℕ) (im lo sm ow : List ℕ) (ks : List Row) : Type 0 where
  pub small : cap ≤ 65536
  pub same_ids : length lo ≡ length im
  pub full : length sm ≡ slabs * cap
  pub same_slots : length ow ≡ length sm
  pub id_mark : (i : ℕ) → get_or im i 0 ≤ 2
  pub slot_mark : (p : ℕ) → get_or sm p 0 ≤ 2
  pub located : (i : ℕ) → get_or lo i 0 ≢ 0 → Located cap im sm ow i (get_or lo i 0)
  pub accounted : (l : ℕ) → is_location cap l ≡ true → get_or sm (slot_place cap l) 0 ≡ 1
      → (get_or lo (get_or ow (slot_place cap l) 0) 0 ≡ l) ⊎ (elem l (locations_of ks) ≡ true)
  pub keeps : KeptRows cap im lo sm ks

pub record Inv (s : Store) : Type 0 where
  pub is_sized : sized s ≡ true
  pub few : s.batch.opened ≤ most_opened
  pub tops : (k : ℕ) → get_or s.tallies.high k 0 < s.slots
  pub good : Good s.slots s.id_marks s.locations s.slot_marks s.owners (kept s)
