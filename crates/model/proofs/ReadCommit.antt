-- What is read after a commit: each kept row is a step on the slots, on the id's mark or on both, and the batch is shut. Assumes nothing.
use mathlib.Core.Path.{ap, ◌∙◌, ◌≡◌, sym, refl}
use mathlib.Core.Bool.{true, cond, Bool, false}
use mathlib.Core.List.{List, [], ◌∷◌, map}
use Prim.Native.Nat.{ℕ, ◌<◌, ◌/◌, suc, ◌%◌, pred, zero}
use native.Mathlib.Omega.{arith}
use lib.ListN.{set, length, get_or, length-set}
use Rattle.address.specs.Address.{is_location, unit, slabs}
use Rattle.id_allocator.specs.Counted.{counted, settle}
use Rattle.id_allocator.proofs.LawsCounted.{counted_first_pending, counted_pending}
use Rattle.model.specs.Batches.{apply_row, apply_rows, after_commit}
use Rattle.model.specs.Memory.{get_word, read, tallies_of, word_at, put_word, batch_of, Memory, waiting_words, hint_words}
use Rattle.model.specs.MemoryAfter.{Slots, slots_of, pend_slot, pended_slot, ready_by, pend_id, with_ids, ready_marks, ready_words, pend_old, commit_row, commit_all, memory_commit}
use Rattle.model.specs.Store.{store_of, with_id_marks, with_slot_marks, Row, with_owners, with_locations, with_batch}
use Rattle.model.specs.Tables.{write, kept}
use Rattle.model.proofs.Slabs.{counted_slabs_words}
use Rattle.model.proofs.Steps.{Stepped, slots_read, Fits, fits_on, pended_read}
use Rattle.model.proofs.Locations.{is_location_says}
use Rattle.model.proofs.Words.{tallies_waiting, word_other, word_same}
use Rattle.model.proofs.ReadSteps.{guarded, at_location, batch_shut}

-- ---- slots and ids that become pending

pend_one : (cap : ℕ) (s : Slots) (l : ℕ) → Fits cap s → Stepped cap s (pend_slot cap s l) (write cap l 2 (slots_read cap s))
pend_one cap s l f = guarded cap s l 2 (pended_slot cap s) (λ e. at_location cap s l 2 (pended_slot cap s) e (λ k h a j. pended_read cap s k (l % unit) f h j))

pend_tallies : (cap : ℕ) (s : Slots) (l : ℕ) → tallies_of (pend_slot cap s l).words ≡ tallies_of s.words
pend_tallies cap s l = go (is_location cap l) refl
  where
    ready : (k w : ℕ) → k < 78 → tallies_of (ready_by cap k s w).words ≡ tallies_of s.words
    ready k zero h = tallies_waiting s.words (suc k) 1 (omega arith)
    ready k (suc w) h = refl

    go : (b : Bool) → is_location cap l ≡ b → tallies_of (cond b (pended_slot cap s (l / unit) (l % unit)) s).words ≡ tallies_of s.words
    go true e =
        let v = is_location_says cap l e in
        ready (pred (l / unit)) (get_word s.words waiting_words (suc (pred (l / unit)))) (omega (arith, v.low, v.high))
    go false e = refl

-- an id becomes pending
pend_id_lem : (m : Memory) (i : ℕ) → length m.tallies ≡ 473 → read (pend_id m i) ≡ with_id_marks (read m) (set (read m).id_marks i 2)
unfolding read
pend_id_lem m i lg = go (get_word g waiting_words 0) refl
  where
    g : List ℕ
    g = m.tallies

    h : ℕ
    h = get_word g hint_words 0

    go : (w : ℕ) → get_word g waiting_words 0 ≡ w → read (with_ids m (set (ready_marks w m.id_marks) i 2) (ready_words g 0 w)) ≡ with_id_marks (read m)
        (set (read m).id_marks i 2)
    go zero e = λ j. store_of m.ids m.slots
        (((λ q. counted (word_other g waiting_words 0 1 hint_words 0 (omega arith) q) (word_same g waiting_words 0 1 (rw lg (omega arith)) q)
        (set (map settle m.id_marks) i 2)) ∙ counted_first_pending h m.id_marks i ∙ λ q. set (counted h (sym e q) m.id_marks) i 2) j)
        m.locations (counted_slabs_words m.slots g (put_word g waiting_words 0 1) slabs 0 m.slot_marks
        (λ a b. (word_other g waiting_words 0 1 hint_words (suc a) (omega arith), word_other g waiting_words 0 1 waiting_words (suc a) (omega arith))) j)
        m.owners (batch_of m.batch) (tallies_waiting g 0 1 (omega arith) j) m.carried
    go (suc w) e = λ j. store_of m.ids m.slots
        (((λ q. counted h (e q) (set m.id_marks i 2)) ∙ counted_pending h w m.id_marks i ∙ λ q. set (counted h (sym e q) m.id_marks) i 2) j)
        m.locations (read m).slot_marks m.owners (batch_of m.batch) (tallies_of g) m.carried

pend_id_fits : (m : Memory) (i : ℕ) → Fits m.slots (slots_of m) → Fits m.slots (slots_of (pend_id m i))
pend_id_fits m i f = record { low = f.low; high = f.high; marks_long = f.marks_long; words_long = go (get_word m.tallies waiting_words 0) ∙ f.words_long }
  where
    go : (w : ℕ) → length (ready_words m.tallies 0 w) ≡ length m.tallies
    go zero = length-set m.tallies (word_at waiting_words 0) 1
    go (suc w) = refl

pend_old_lem : (m : Memory) (o : ℕ) → Fits m.slots (slots_of m) → read (pend_old m o) ≡ with_slot_marks (read m) (write m.slots o 2 (read m).slot_marks)
unfolding read
pend_old_lem m o f =
    let q = pend_one m.slots (slots_of m) o f in
    λ i. store_of m.ids m.slots (counted (q.ids_hint i) (q.ids_waiting i) m.id_marks) m.locations (q.slots_read_lem i) m.owners
    (batch_of m.batch) (pend_tallies m.slots (slots_of m) o i) m.carried

-- ---- rows

row_read : (m : Memory) (i l o : ℕ) → Fits m.slots (slots_of m) → read (commit_row m i l o) ≡ apply_row (read m) i l o
unfolding read
row_read m i zero o f =
    ap (λ t. with_owners (with_locations t (set m.locations i 0)) (write m.slots o 0 m.owners))
    (pend_old_lem (pend_id m i) o (pend_id_fits m i f) ∙ ap (λ t. with_slot_marks t (write m.slots o 2 t.slot_marks)) (pend_id_lem m i f.words_long))
row_read m i (suc l) o f = ap (λ t. with_owners (with_locations t (set m.locations i (suc l))) (write m.slots (suc l) i m.owners)) (pend_old_lem m o f)

row_fits : (m : Memory) (i l o : ℕ) → Fits m.slots (slots_of m) → Fits (commit_row m i l o).slots (slots_of (commit_row m i l o))
row_fits m i zero o f = let g = pend_id_fits m i f in fits_on g (pend_one m.slots (slots_of (pend_id m i)) o g)
row_fits m i (suc l) o f = fits_on f (pend_one m.slots (slots_of m) o f)

rows_read : (m : Memory) (rs : List Row) → Fits m.slots (slots_of m) → read (commit_all m rs) ≡ apply_rows (read m) rs
unfolding read
rows_read m [] f = refl
rows_read m (r ∷ rs) f =
    let o = get_or m.locations r.0 0 in
    rows_read (commit_row m r.0 r.1 o) rs (row_fits m r.0 r.1 o f) ∙ ap (λ t. apply_rows t rs) (row_read m r.0 r.1 o f)

pub read_commit : (m : Memory) → Fits m.slots (slots_of m) → read (memory_commit m) ≡ after_commit (read m)
unfolding read
read_commit m f = λ i. with_batch (rows_read m (kept (read m)) f i) (batch_shut m.batch i)
