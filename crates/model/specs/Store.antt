-- Document 01, "Ids, slots, pending": what a store holds, what it can be asked, what it answers. Assumes nothing.
use Rattle.std.specs.Prelude.{Bool, List, ℕ, Float, Result, ⊤}
use Rattle.refusal.specs.Outcomes.{Outcome, finished_as}
use Rattle.refusal.specs.declared.Refusal.{Refusal}

-- ---- the store

-- The batch that is offered and neither committed nor abandoned. Room for 256 updates.
pub record Batch : Type 0 where
  -- 0: no batch is open; n + 1: one of n updates is
  pub opened : ℕ
  -- of each kept update its id, and its new location or 0 for a Free
  pub kept_ids : List ℕ
  pub kept_locations : List ℕ

-- Of each of the 79 allocators (the ids' first, then the slabs'): numbers granted and freed since fresh or rebuild, modulo 2^64, and
-- whether any was allocated or held by a row since then (0: none). Of each slab its high mark.
pub record Tallies : Type 0 where
  pub granted : List ℕ
  pub freed : List ℕ
  pub used : List ℕ
  pub high : List ℕ

-- A capacity of ids, one of slots in each slab, and the tables. Marks: 0 free, 2 pending, any other number held.
-- Slab k's slot j stands at k × slots + j. What rows carry stands in one column (crate carried): a row for each id, then one for each kept update.
pub record Store : Type 0 where
  pub ids : ℕ
  pub slots : ℕ
  pub id_marks : List ℕ
  pub locations : List ℕ
  pub slot_marks : List ℕ
  pub owners : List ℕ
  pub batch : Batch
  pub tallies : Tallies
  pub carried : List ℕ

-- ---- made of its parts, and with one table changed

abbrev pub batch_from : ℕ → List ℕ → List ℕ → Batch
batch_from n is ls = record { opened = n; kept_ids = is; kept_locations = ls }

abbrev pub tallies_from : List ℕ → List ℕ → List ℕ → List ℕ → Tallies
tallies_from g f u h = record { granted = g; freed = f; used = u; high = h }

abbrev pub store_of : ℕ → ℕ → List ℕ → List ℕ → List ℕ → List ℕ → Batch → Tallies → List ℕ → Store
store_of n m im lo sm ow b t c = record { ids = n; slots = m; id_marks = im; locations = lo; slot_marks = sm; owners = ow; batch = b; tallies = t; carried = c }

abbrev pub with_id_marks : Store → List ℕ → Store
with_id_marks s t = store_of s.ids s.slots t s.locations s.slot_marks s.owners s.batch s.tallies s.carried

abbrev pub with_locations : Store → List ℕ → Store
with_locations s t = store_of s.ids s.slots s.id_marks t s.slot_marks s.owners s.batch s.tallies s.carried

abbrev pub with_slot_marks : Store → List ℕ → Store
with_slot_marks s t = store_of s.ids s.slots s.id_marks s.locations t s.owners s.batch s.tallies s.carried

abbrev pub with_owners : Store → List ℕ → Store
with_owners s t = store_of s.ids s.slots s.id_marks s.locations s.slot_marks t s.batch s.tallies s.carried

abbrev pub with_batch : Store → Batch → Store
with_batch s b = store_of s.ids s.slots s.id_marks s.locations s.slot_marks s.owners b s.tallies s.carried

abbrev pub with_tallies : Store → Tallies → Store
with_tallies s t = store_of s.ids s.slots s.id_marks s.locations s.slot_marks s.owners s.batch t s.carried

abbrev pub with_carried : Store → List ℕ → Store
with_carried s c = store_of s.ids s.slots s.id_marks s.locations s.slot_marks s.owners s.batch s.tallies c

-- ---- calls and answers

-- an object of so many bytes is stored under an id, or the id is freed
pub data Update : Type 0 where
  put : ℕ → ℕ → Update
  free : ℕ → Update

-- an id and a location
abbrev pub Row : Type 0
Row = ℕ × ℕ

-- A batch as it is offered: of each update its id, whether it is a Store, the object's length, and what its row is to carry, these one after the
-- other; and the lent list for the locations.
pub record Offer : Type 0 where
  pub ids : List ℕ
  pub stores : List Bool
  pub lengths : List ℕ
  pub carried : List ℕ
  pub placed : List ℕ

-- the rows of a rebuild, and what they carry, one after the other
pub record Rows : Type 0 where
  pub ids : List ℕ
  pub locations : List ℕ
  pub carried : List ℕ

-- Request 2026-09: ids in the order asked, and the lent lists for what is told of each: its number, its location, and what its row carries, these
-- one after the other.
pub record Page : Type 0 where
  pub ids : List ℕ
  pub numbers : List ℕ
  pub locations : List ℕ
  pub carried : List ℕ

-- Request 2026-08: where a stored object stands, its slab and slot; how many smaller slots of its slab are held or pending, how many slots in all,
-- and the slab's tip.
pub record Standing : Type 0 where
  pub slab : ℕ
  pub slot : ℕ
  pub smaller : ℕ
  pub live : ℕ
  pub tip : ℕ

-- Why an object is on the defrag list of a ratio, or is not. The line is the slot from which on its slab is listed.
pub data Reason : Type 0 where
  not_stored : Reason
  full_enough : Standing → Reason
  before_line : Standing → ℕ → Reason
  listed : Standing → ℕ → Reason

-- What only looks, and leaves the store as it is. Lending says of each what it is lent, Questions when it is refused and what it grants.
pub data Question : Type 0 where
  -- an id, and the lent list for what its row carries
  lookup : ℕ → List ℕ → Question
  lookups : Page → Question
  counters : Question
  -- the fill ratio, and the lent lists for ids and locations
  defrag : Float → List ℕ → List ℕ → Question
  -- an id, and the fill ratio
  why : ℕ → Float → Question
  -- how many bytes a snapshot takes; and the lent file for one
  snapshot_length : Question
  snapshot : List ℕ → Question

pub data Call : Type 0 where
  new_id : Call
  release : Call
  offer : Offer → Call
  commit : Call
  abandon : Call
  fresh : Call
  rebuild : Rows → Call
  ask : Question → Call
  -- a slab, and t
  truncation : ℕ → ℕ → Call
  report : ℕ → ℕ → Call

-- the sums that the Rust's `stats` gives
pub record Sums : Type 0 where
  pub objects_allocated : ℕ
  pub objects_freed : ℕ
  pub heap_slots_allocated : ℕ
  pub heap_slots_freed : ℕ

-- what becomes of a slab's file
pub data Cut : Type 0 where
  keep : Cut
  -- the new length, and the bytes given back
  cut : ℕ → ℕ → Cut

-- what a page is told of an id: 0, its location and what its row carries; or the number that a lookup of it is refused with, and zeros
pub record Told : Type 0 where
  pub number : ℕ
  pub location : ℕ
  pub carried : List ℕ

-- what a call grants
pub data Grant : Type 0 where
  done : Grant
  -- a new id; a number of bytes
  gave : ℕ → Grant
  -- a location, and what the row carries
  found : ℕ → List ℕ → Grant
  -- of each id of a page, in the order asked
  told : List Told → Grant
  -- the location of each update
  placed : List ℕ → Grant
  -- granted and freed of each allocator
  counts : List ℕ → List ℕ → Sums → Grant
  moves : List Row → Grant
  because : Reason → Grant
  -- the bytes of a snapshot
  wrote : List ℕ → Grant
  truncated : Cut → Grant

-- refused with a number and an index, or granted
abbrev pub Answer : Type 0
Answer = Outcome Grant

-- the answer of a call that grants nothing but that it was done
abbrev pub finished_answer : Result ⊤ Refusal → Answer
finished_answer f = finished_as done f
