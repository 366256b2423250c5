-- The slots that an offer takes, as the code finds them in the lent tables. Nothing here has to be believed: LawsPlaces of crate offer shows
-- that they are the model's. Assumes nothing.
use Rattle.std.specs.Prelude.{cond, List, [], ◌∷◌, ℕ, ◌+◌, ltb}
use Rattle.address.specs.Address.{packed, location_in, slabs}
use Rattle.marks.specs.Marks.{smallest_free}
use Rattle.id_allocator.specs.Counted.{hinted}
use Rattle.model.specs.Memory.{get_word, hint_words}
use Rattle.model.specs.MemoryAfter.{Slots, take_slot}
use Rattle.tables.specs.Entries.{slab_part}

abbrev pub slots_in : List ℕ → List ℕ → Slots
slots_in marks words = record { marks = marks; words = words }

-- slab k's smallest free slot
abbrev pub next_in : ℕ → Slots → ℕ → ℕ
next_in cap s k = smallest_free 0 (hinted (get_word s.words hint_words (k + 1)) (slab_part cap s.marks k))

-- its location; 0 where there is none
unfoldable pub spot_in : ℕ → Slots → ℕ → ℕ
spot_in cap s k = cond (ltb k slabs) (location_in (packed cap (record { slab = k; slot = next_in cap s k }))) 0

-- of each slab of a list, each slot taken before the next is looked for
unfoldable pub place_in : ℕ → Slots → List ℕ → List ℕ
place_in cap s [] = []
place_in cap s (k ∷ ks) = spot_in cap s k ∷ place_in cap (take_slot cap s (spot_in cap s k)) ks
