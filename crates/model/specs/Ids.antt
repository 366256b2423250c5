-- Document 01, "Ids, slots, pending": new ids, release, and the counters. Assumes nothing.
use Rattle.std.specs.Prelude.{cond, List, [], ◌∷◌, map, ℕ, zero, suc, ◌+◌, ◌%◌, ◌^◌, get_or, set, drop}
use Rattle.list_parts.specs.Parts.{part}
use Rattle.address.specs.Address.{slabs}
use Rattle.marks.specs.Marks.{is_free, is_pending, count_if, smallest_free, hold, let_go}
use Rattle.model.specs.Store.{Tallies, Store, with_id_marks, with_slot_marks, with_tallies, Sums}
use Rattle.model.specs.Tables.{bump}

-- ---- new id

-- the smallest free number above 0; where there is none, the capacity
abbrev pub next_id : Store → ℕ
next_id s = smallest_free 1 s.id_marks

-- the new id is held; so is 0 if it was free, counted as one more allocation
abbrev pub after_new_id : Store → Store
after_new_id s = with_tallies (with_id_marks s (set (set s.id_marks (next_id s) 1) 0 (hold (get_or s.id_marks 0 0)))) (record {
  granted = bump s.tallies.granted 0 (cond (is_free (get_or s.id_marks 0 0)) 2 1);
  freed = s.tallies.freed;
  used = set s.tallies.used 0 1;
  high = s.tallies.high;
})

-- ---- release

-- for n slabs from k on: as many more freed as the slab has pending slots
unfoldable pub bump_pending : ℕ → List ℕ → ℕ → ℕ → List ℕ → List ℕ
bump_pending cap ms zero k t = t
bump_pending cap ms (suc n) k t = bump_pending cap ms n (suc k) (bump t (suc k) (count_if is_pending (part cap ms k)))

-- all that is pending is free
abbrev pub after_release : Store → Store
after_release s = with_tallies (with_slot_marks (with_id_marks s (map let_go s.id_marks)) (map let_go s.slot_marks)) (record {
  granted = s.tallies.granted;
  freed = bump_pending s.slots s.slot_marks slabs 0 (bump s.tallies.freed 0 (count_if is_pending s.id_marks));
  used = s.tallies.used;
  high = s.tallies.high;
})

-- ---- counters

abbrev pub sum : List ℕ → ℕ
sum [] = 0
sum (n ∷ ns) = (n + sum ns) % 2 ^ 64

abbrev pub sums_of : Tallies → Sums
sums_of t = record {
  objects_allocated = get_or t.granted 0 0;
  objects_freed = get_or t.freed 0 0;
  heap_slots_allocated = sum (drop 1 t.granted);
  heap_slots_freed = sum (drop 1 t.freed);
}
