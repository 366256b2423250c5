-- The seven tables as they are lent, for any contents, and the store that they stand for: `read`. Assumes nothing.
use Rattle.std.specs.Prelude.{List, [], ◌++◌, ℕ, zero, suc, ◌+◌, ◌*◌, get_or, set, take, drop}
use Rattle.list_parts.specs.Parts.{part}
use Rattle.address.specs.Address.{slabs}
use Rattle.id_allocator.specs.Counted.{counted}
use Rattle.model.specs.Store.{Batch, Tallies, Store}
use Rattle.model.specs.Tables.{most_updates, allocators}

-- The capacities, and the tables in the order in which calls take them.
--   id marks, locations     one for each id
--   slot marks, owners      one for each slot, slab by slab
--   batch                   the opened word; 256 ids; 256 new locations
--   tallies                 79 each of granted, freed, used, hint and waiting (the ids' allocator, then the slabs'); 78 high marks
--   carried                 what rows carry: a row for each id, then one for each of 256 kept updates
-- A table that a call is not lent is [].
pub record Memory : Type 0 where
  pub ids : ℕ
  pub slots : ℕ
  pub id_marks : List ℕ
  pub locations : List ℕ
  pub slot_marks : List ℕ
  pub owners : List ℕ
  pub batch : List ℕ
  pub tallies : List ℕ
  pub carried : List ℕ

-- without what rows carry, which few calls are lent
abbrev pub memory_of : ℕ → ℕ → List ℕ → List ℕ → List ℕ → List ℕ → List ℕ → List ℕ → Memory
memory_of n m im lo sm ow b g = record { ids = n; slots = m; id_marks = im; locations = lo; slot_marks = sm; owners = ow; batch = b; tallies = g; carried = [] }

-- with it
abbrev pub carrying : Memory → List ℕ → Memory
carrying m c = record {
  ids = m.ids;
  slots = m.slots;
  id_marks = m.id_marks;
  locations = m.locations;
  slot_marks = m.slot_marks;
  owners = m.owners;
  batch = m.batch;
  tallies = m.tallies;
  carried = c;
}

-- ---- the words of the batch

-- where the kept ids start, and the kept locations
abbrev pub kept_ids_at : ℕ
kept_ids_at = 1

abbrev pub kept_locations_at : ℕ
kept_locations_at = kept_ids_at + most_updates

abbrev pub batch_words : ℕ
batch_words = kept_locations_at + most_updates

-- ---- the words of the tallies

abbrev pub granted_words : ℕ
granted_words = 0

abbrev pub freed_words : ℕ
freed_words = 1

abbrev pub used_words : ℕ
used_words = 2

abbrev pub hint_words : ℕ
hint_words = 3

abbrev pub waiting_words : ℕ
waiting_words = 4

abbrev pub high_words : ℕ
high_words = 5

abbrev pub tally_words : ℕ
tally_words = high_words * allocators + slabs

-- where the word of a kind stands that belongs to an allocator, or, of the high marks, to a slab
abbrev pub word_at : ℕ → ℕ → ℕ
word_at kind a = kind * allocators + a

abbrev pub get_word : List ℕ → ℕ → ℕ → ℕ
get_word g kind a = get_or g (word_at kind a) 0

abbrev pub put_word : List ℕ → ℕ → ℕ → ℕ → List ℕ
put_word g kind a v = set g (word_at kind a) v

-- ---- the store that the tables stand for

abbrev pub batch_of : List ℕ → Batch
batch_of b = record { opened = get_or b 0 0; kept_ids = take most_updates (drop kept_ids_at b); kept_locations = drop kept_locations_at b }

abbrev pub tallies_of : List ℕ → Tallies
tallies_of g = record {
  granted = part allocators g granted_words;
  freed = part allocators g freed_words;
  used = part allocators g used_words;
  high = drop (high_words * allocators) g;
}

-- the marks of an allocator as they count, by its hint and waiting words
abbrev pub counted_by : List ℕ → ℕ → List ℕ → List ℕ
counted_by g a ms = counted (get_word g hint_words a) (get_word g waiting_words a) ms

-- those of n slabs from k on, whose marks stand one slab after the other
unfoldable pub counted_slabs : ℕ → List ℕ → ℕ → ℕ → List ℕ → List ℕ
counted_slabs cap g zero k t = t
counted_slabs cap g (suc n) k t = counted_by g (suc k) (take cap t) ++ counted_slabs cap g n (suc k) (drop cap t)

unfoldable pub read : Memory → Store
read m = record {
  ids = m.ids;
  slots = m.slots;
  id_marks = counted_by m.tallies 0 m.id_marks;
  locations = m.locations;
  slot_marks = counted_slabs m.slots m.tallies slabs 0 m.slot_marks;
  owners = m.owners;
  batch = batch_of m.batch;
  tallies = tallies_of m.tallies;
  carried = m.carried;
}
