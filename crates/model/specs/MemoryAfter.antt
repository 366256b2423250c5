-- What the lent tables hold after each call, word for word. A refusal leaves them. proofs/Read has the law of each call: what is
-- read from them afterwards is the store after the call. Assumes nothing.
use Rattle.std.specs.Prelude.{cond, List, [], ◌∷◌, map, ℕ, zero, suc, ◌+◌, ◌*◌, ◌/◌, ◌%◌, max, min, pred, length, get_or, set, replicate}
use Rattle.std.proofs.lemmas.List.Edits.{sets}
use Rattle.list_parts.specs.Parts.{part, put_part}
use Rattle.address.specs.Address.{unit, is_location, slabs}
use Rattle.marks.specs.Marks.{is_free, is_pending, count_if, hold, let_go}
use Rattle.id_allocator.specs.Counted.{settle, hinted}
use Rattle.id_allocator.specs.Written.{given_back, hint_back}
use Rattle.model.specs.Store.{Row, Call, new_id, release, offer, commit, abandon, fresh, rebuild, ask, truncation, report}
use Rattle.model.specs.Tables.{carried_bytes, write, write_all, slab_tip, locations_of, kept, bump}
use Rattle.model.specs.Ids.{next_id}
use Rattle.model.specs.Batches.{updates_in, taken_by}
use Rattle.model.specs.Rebuild.{rows_in, held_by, located_by, owned_by}
use Rattle.model.specs.Columns.{offered_column, committed_column, rebuilt_column}
use Rattle.model.specs.Step.{refusal, unless}
use Rattle.model.specs.Memory.{Memory, memory_of, carrying, kept_ids_at, kept_locations_at, batch_words, tally_words, granted_words, freed_words}
use Rattle.model.specs.Memory.{used_words, hint_words, waiting_words, high_words, word_at, get_word, put_word, read}

-- ---- one table changed

abbrev pub with_ids : Memory → List ℕ → List ℕ → Memory
with_ids m t g = carrying (memory_of m.ids m.slots t m.locations m.slot_marks m.owners m.batch g) m.carried

abbrev pub with_owned : Memory → List ℕ → List ℕ → Memory
with_owned m l o = carrying (memory_of m.ids m.slots m.id_marks l m.slot_marks o m.batch m.tallies) m.carried

abbrev pub with_kept : Memory → List ℕ → Memory
with_kept m b = carrying (memory_of m.ids m.slots m.id_marks m.locations m.slot_marks m.owners b m.tallies) m.carried

-- the slots' marks and the words, which change together
pub record Slots : Type 0 where
  pub marks : List ℕ
  pub words : List ℕ

abbrev pub slots_of : Memory → Slots
slots_of m = record { marks = m.slot_marks; words = m.tallies }

abbrev pub with_slots : Memory → Slots → Memory
with_slots m s = carrying (memory_of m.ids m.slots m.id_marks m.locations s.marks m.owners m.batch s.words) m.carried

-- ---- new id: the mark is written, and the hint moves past it

abbrev pub new_id_words : List ℕ → ℕ → ℕ → List ℕ
new_id_words g n more = put_word (put_word (bump g (word_at granted_words 0) more) used_words 0 1) hint_words 0 (n + 1)

abbrev pub memory_new_id : Memory → Memory
memory_new_id m =
    with_ids m (set (set m.id_marks (next_id (read m)) 1) 0 (hold (get_or m.id_marks 0 0)))
    (new_id_words m.tallies (next_id (read m)) (cond (is_free (get_or (read m).id_marks 0 0)) 2 1))

-- ---- release: allocators with nothing waiting are left alone; of the others the marks are written as they count with the pending ones
-- freed, and hint and waiting are 0

abbrev pub released_marks : ℕ → ℕ → List ℕ → List ℕ
released_marks hint zero ms = ms
released_marks hint (suc w) ms = map let_go (hinted hint ms)

abbrev pub released_words : List ℕ → ℕ → ℕ → List ℕ → List ℕ
released_words g a zero ms = g
released_words g a (suc w) ms =
    put_word (put_word (bump g (word_at freed_words a) (count_if is_pending (hinted (get_word g hint_words a) ms))) hint_words a 0) waiting_words a 0

abbrev pub release_slab : ℕ → ℕ → Slots → Slots
release_slab cap k s = record {
  marks = put_part cap s.marks k (released_marks (get_word s.words hint_words (suc k)) (get_word s.words waiting_words (suc k)) (part cap s.marks k));
  words = released_words s.words (suc k) (get_word s.words waiting_words (suc k)) (part cap s.marks k);
}

-- n slabs from k on
unfoldable pub release_slabs : ℕ → ℕ → ℕ → Slots → Slots
release_slabs cap zero k s = s
release_slabs cap (suc n) k s = release_slabs cap n (suc k) (release_slab cap k s)

abbrev pub release_ids : Memory → Memory
release_ids m =
    with_ids m (released_marks (get_word m.tallies hint_words 0) (get_word m.tallies waiting_words 0) m.id_marks)
    (released_words m.tallies 0 (get_word m.tallies waiting_words 0) m.id_marks)

abbrev pub memory_release : Memory → Memory
memory_release m = with_slots (release_ids m) (release_slabs m.slots slabs 0 (slots_of (release_ids m)))

-- ---- offer: the marks are written in list order, each slab's hint moves past its last one, and the batch is written

-- slot j of allocator a's slab
abbrev pub took_slot : ℕ → Slots → ℕ → ℕ → Slots
took_slot cap s a j = record {
  marks = set s.marks (pred a * cap + j) 1;
  words = put_word (put_word (bump s.words (word_at granted_words a) 1) used_words a 1) hint_words a (j + 1);
}

-- a number that is no location takes nothing
abbrev pub take_slot : ℕ → Slots → ℕ → Slots
take_slot cap s l = cond (is_location cap l) (took_slot cap s (l / unit) (l % unit)) s

abbrev pub take_slots : ℕ → Slots → List ℕ → Slots
take_slots cap s [] = s
take_slots cap s (l ∷ ls) = take_slots cap (take_slot cap s l) ls

abbrev pub kept_words : List ℕ → List ℕ → List ℕ → List ℕ
kept_words b is ls = set (sets (sets b kept_ids_at is) kept_locations_at ls) 0 (suc (length is))

abbrev pub memory_offer : Memory → List ℕ → List ℕ → Memory
memory_offer m is ls = with_kept (with_slots m (take_slots m.slots (slots_of m) ls)) (kept_words m.batch is ls)

-- ---- commit: where nothing waits in an allocator, its old 2s become 1 and its waiting word 1 before a mark becomes pending

abbrev pub ready_by : ℕ → ℕ → Slots → ℕ → Slots
ready_by cap k s zero = record { marks = put_part cap s.marks k (map settle (part cap s.marks k)); words = put_word s.words waiting_words (suc k) 1 }
ready_by cap k s (suc w) = s

abbrev pub ready_slab : ℕ → ℕ → Slots → Slots
ready_slab cap k s = ready_by cap k s (get_word s.words waiting_words (suc k))

abbrev pub set_slot : ℕ → Slots → ℕ → ℕ → ℕ → Slots
set_slot cap s k j v = record { marks = set s.marks (k * cap + j) v; words = s.words }

-- slot j of allocator a's slab becomes pending
abbrev pub pended_slot : ℕ → Slots → ℕ → ℕ → Slots
pended_slot cap s a j = set_slot cap (ready_slab cap (pred a) s) (pred a) j 2

abbrev pub pend_slot : ℕ → Slots → ℕ → Slots
pend_slot cap s l = cond (is_location cap l) (pended_slot cap s (l / unit) (l % unit)) s

abbrev pub ready_marks : ℕ → List ℕ → List ℕ
ready_marks zero ms = map settle ms
ready_marks (suc w) ms = ms

abbrev pub ready_words : List ℕ → ℕ → ℕ → List ℕ
ready_words g a zero = put_word g waiting_words a 1
ready_words g a (suc w) = g

abbrev pub pend_id : Memory → ℕ → Memory
pend_id m i =
    with_ids m (set (ready_marks (get_word m.tallies waiting_words 0) m.id_marks) i 2) (ready_words m.tallies 0 (get_word m.tallies waiting_words 0))

abbrev pub pend_old : Memory → ℕ → Memory
pend_old m o = with_slots m (pend_slot m.slots (slots_of m) o)

-- one kept update of id i with new location l and old location o, as in Batches
abbrev pub commit_row : Memory → ℕ → ℕ → ℕ → Memory
commit_row m i zero o = with_owned (pend_old (pend_id m i) o) (set m.locations i 0) (write m.slots o 0 m.owners)
commit_row m i (suc l) o = with_owned (pend_old m o) (set m.locations i (suc l)) (write m.slots (suc l) i m.owners)

abbrev pub commit_all : Memory → List Row → Memory
commit_all m [] = m
commit_all m (r ∷ rs) = commit_all (commit_row m r.0 r.1 (get_or m.locations r.0 0)) rs

abbrev pub memory_commit : Memory → Memory
memory_commit m = with_kept (commit_all m (kept (read m))) (set m.batch 0 0)

-- ---- abandon: each slot is given back

abbrev pub gave_slot : ℕ → Slots → ℕ → ℕ → Slots
gave_slot cap s a j = record {
  marks = put_part cap s.marks (pred a) (given_back (get_word s.words hint_words a) j (part cap s.marks (pred a)));
  words = put_word (bump s.words (word_at freed_words a) 1) hint_words a (hint_back (get_word s.words hint_words a) j (part cap s.marks (pred a)));
}

abbrev pub give_slot : ℕ → Slots → ℕ → Slots
give_slot cap s l = cond (is_location cap l) (gave_slot cap s (l / unit) (l % unit)) s

abbrev pub give_slots : ℕ → Slots → List ℕ → Slots
give_slots cap s [] = s
give_slots cap s (l ∷ ls) = give_slots cap (give_slot cap s l) ls

abbrev pub memory_abandon : Memory → Memory
memory_abandon m = with_kept (with_slots m (give_slots m.slots (slots_of m) (locations_of (kept (read m))))) (set m.batch 0 0)

-- ---- rebuild and fresh: every word is written

abbrev pub use_slots : ℕ → List ℕ → List ℕ → List ℕ
use_slots cap g [] = g
use_slots cap g (l ∷ ls) = use_slots cap (cond (is_location cap l) (put_word g used_words (l / unit) 1) g) ls

abbrev pub memory_rebuilt : ℕ → ℕ → List Row → Memory
memory_rebuilt n m rs = record {
  ids = n;
  slots = m;
  id_marks = held_by rs (replicate n 0);
  locations = located_by rs (replicate n 0);
  slot_marks = write_all m (locations_of rs) 1 (replicate (slabs * m) 0);
  owners = owned_by m rs (replicate (slabs * m) 0);
  batch = replicate batch_words 0;
  tallies = use_slots m (put_word (replicate tally_words 0) used_words 0 (min 1 (length rs))) (locations_of rs);
  carried = replicate (carried_bytes n) 0;
}

-- ---- truncation and cut report: a high mark

abbrev pub raise_word : List ℕ → ℕ → ℕ → List ℕ
raise_word g k zero = g
raise_word g k (suc top) = put_word g high_words k (max (get_word g high_words k) top)

abbrev pub with_words : Memory → List ℕ → Memory
with_words m g = with_ids m m.id_marks g

-- ---- every call

unfoldable pub memory_effect : Memory → Call → Memory
memory_effect m new_id = memory_new_id m
memory_effect m release = memory_release m
memory_effect m (offer o) = carrying (memory_offer m o.ids (taken_by (read m) (updates_in o))) (offered_column m.ids o m.carried)
memory_effect m commit = carrying (memory_commit m) (committed_column m.ids (kept (read m)) m.carried)
memory_effect m abandon = memory_abandon m
memory_effect m fresh = memory_rebuilt m.ids m.slots []
memory_effect m (rebuild rs) = carrying (memory_rebuilt m.ids m.slots (rows_in rs)) (rebuilt_column m.ids rs)
memory_effect m (ask q) = m
memory_effect m (truncation k t) = with_words m (raise_word m.tallies k (slab_tip (read m) k))
memory_effect m (report k t) = with_words m (put_word m.tallies high_words k (pred (slab_tip (read m) k)))

unfoldable pub memory_after : Memory → Call → Memory
memory_after m c = unless (refusal (read m) c) m (memory_effect m c)
