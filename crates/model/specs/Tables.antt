-- The tables of a store: where a slot stands, the lengths they must have, and what they say of an id, a slot and the kept batch.
-- Assumes nothing.
use Rattle.std.specs.Prelude.{Bool, false, not, cond, ◌&&◌, ◌||◌, List, [], ◌∷◌, map, ℕ, zero, suc, ◌+◌, ◌*◌, ◌/◌, ◌%◌, ◌^◌, pred, ltb, eqb, length, get_or, set}
use Rattle.list_parts.specs.Parts.{part}
use Rattle.carried.specs.Carried.{width}
use Rattle.address.specs.Address.{unit, is_location, bad_slots, slabs}
use Rattle.marks.specs.Marks.{is_held, tip, count_if, is_taken}
use Rattle.model.specs.Store.{Batch, Store, Row}

-- ---- slots

-- where the tables have a location's slot
abbrev pub slot_place : ℕ → ℕ → ℕ
slot_place cap l = pred (l / unit) * cap + l % unit

-- a number is stored at a location's slot; a number that is no location stores nothing
abbrev pub write : ℕ → ℕ → ℕ → List ℕ → List ℕ
write cap l v t = cond (is_location cap l) (set t (slot_place cap l) v) t

abbrev pub write_all : ℕ → List ℕ → ℕ → List ℕ → List ℕ
write_all cap [] v t = t
write_all cap (l ∷ ls) v t = write_all cap ls v (write cap l v t)

-- the tip of a slab, whose slots are a part of the slot tables, and its live slots
abbrev pub slab_tip : Store → ℕ → ℕ
slab_tip s k = tip (part s.slots s.slot_marks k) (get_or s.tallies.used (suc k) 0)

abbrev pub live : Store → ℕ → ℕ
live s k = count_if is_taken (part s.slots s.slot_marks k)

-- ---- lengths

abbrev pub most_updates : ℕ
most_updates = 256

-- the opened word of a batch of as many
abbrev pub most_opened : ℕ
most_opened = suc most_updates

-- the ids' allocator, then the slabs'
abbrev pub allocators : ℕ
allocators = suc slabs

-- an id capacity is 2 to 65,536
unfoldable pub bad_ids : ℕ → Bool
bad_ids n = ltb n 2 || ltb 65536 n

abbrev pub capacities : ℕ → ℕ → Bool
capacities n m = not (bad_ids n) && not (bad_slots m)

-- each table by itself: a call is lent only those that it uses
abbrev pub id_marks_fit : Store → Bool
id_marks_fit s = eqb (length s.id_marks) s.ids

abbrev pub locations_fit : Store → Bool
locations_fit s = eqb (length s.locations) s.ids

abbrev pub slot_marks_fit : Store → Bool
slot_marks_fit s = eqb (length s.slot_marks) (slabs * s.slots)

abbrev pub owners_fit : Store → Bool
owners_fit s = eqb (length s.owners) (slabs * s.slots)

abbrev pub batch_fits : Store → Bool
batch_fits s = eqb (length s.batch.kept_ids) most_updates && eqb (length s.batch.kept_locations) most_updates

abbrev pub tallies_fit : Store → Bool
tallies_fit s =
    eqb (length s.tallies.granted) allocators && eqb (length s.tallies.freed) allocators &&
    eqb (length s.tallies.used) allocators && eqb (length s.tallies.high) slabs

-- the column of what rows carry, for so many ids
abbrev pub carried_bytes : ℕ → ℕ
carried_bytes n = (n + most_updates) * width

abbrev pub carried_fits : Store → Bool
carried_fits s = eqb (length s.carried) (carried_bytes s.ids)

-- ---- ids

abbrev pub location_of : Store → ℕ → ℕ
location_of s i = get_or s.locations i 0

abbrev pub carried_of : Store → ℕ → List ℕ
carried_of s i = part width s.carried i

-- an id in range: above 0, below the capacity
abbrev pub in_ids : Store → ℕ → Bool
in_ids s i = ltb 0 i && ltb i s.ids

-- a held id above 0
abbrev pub held_id : Store → ℕ → Bool
held_id s i = in_ids s i && is_held (get_or s.id_marks i 0)

-- refusal 13: an id's location is out of range, its slot not held, or its owner not this id. Zero is no location, and fine
abbrev pub bad_at : Store → ℕ → ℕ → Bool
bad_at s i zero = false
bad_at s i (suc l) =
    not (is_location s.slots (suc l) && is_held (get_or s.slot_marks (slot_place s.slots (suc l)) 0) &&
    eqb (get_or s.owners (slot_place s.slots (suc l)) 0) i)

abbrev pub bad_location : Store → ℕ → Bool
bad_location s i = bad_at s i (location_of s i)

-- ---- rows

-- the first n rows of two lists
abbrev pub pairs : ℕ → List ℕ → List ℕ → List Row
pairs zero is ls = []
pairs (suc n) [] ls = []
pairs (suc n) (i ∷ is) [] = []
pairs (suc n) (i ∷ is) (l ∷ ls) = (i, l) ∷ pairs n is ls

abbrev pub ids_of : List Row → List ℕ
ids_of rs = map (λ (r : Row). r.0) rs

abbrev pub locations_of : List Row → List ℕ
locations_of rs = map (λ (r : Row). r.1) rs

-- ---- the kept batch

abbrev pub is_open : Store → Bool
is_open s = ltb 0 s.batch.opened

abbrev pub kept : Store → List Row
kept s = pairs (pred s.batch.opened) s.batch.kept_ids s.batch.kept_locations

abbrev pub shut : Batch → Batch
shut b = record { opened = 0; kept_ids = b.kept_ids; kept_locations = b.kept_locations }

-- ---- counters

-- n more for allocator a, modulo 2^64; nothing is written where n is 0
abbrev pub bump : List ℕ → ℕ → ℕ → List ℕ
bump t a zero = t
bump t a (suc n) = set t a ((get_or t a 0 + suc n) % 2 ^ 64)

-- one more for the slab of each location
abbrev pub bump_each : ℕ → List ℕ → List ℕ → List ℕ
bump_each cap t [] = t
bump_each cap t (l ∷ ls) = bump_each cap (cond (is_location cap l) (bump t (l / unit) 1) t) ls

-- the slab of each location is used
abbrev pub use_each : ℕ → List ℕ → List ℕ → List ℕ
use_each cap t [] = t
use_each cap t (l ∷ ls) = use_each cap (cond (is_location cap l) (set t (l / unit) 1) t) ls
