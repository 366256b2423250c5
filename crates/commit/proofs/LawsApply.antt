-- What the steps of a commit write: an allocator made ready, one row, all rows. Assumes nothing.
use mathlib.Core.Path.{◌≡◌, refl, sym, ap, ◌∙◌}
use mathlib.Core.List.{List, ◌++◌}
use Prim.Native.Nat.{ℕ, zero, suc, ◌+◌, ◌-◌, ◌*◌, ◌≤◌, ◌<◌}
use native.Mathlib.Nat.{zero-add}
use native.Mathlib.Numerals.{add-one}
use native.Mathlib.Omega.{arith}
use lib.ListN.{get_or, set, take, drop}
use borrow.Rule.Slice.PartMut.{put_mid}
use Rattle.std.proofs.lemmas.List.{take-append-drop}
use Rattle.list_parts.specs.Parts.{part, put_part}
use Rattle.list_parts.proofs.Parts.{part_range, put_part_range}
use Rattle.carried.specs.Carried.{put_row, kept_row, committed}
use Rattle.model.specs.Tables.{write}
use Rattle.model.specs.Memory.{Memory, kept_ids_at, kept_locations_at, get_word, waiting_words}
use Rattle.model.specs.MemoryAfter.{Slots, slots_of, with_slots, with_owned, ready_by, ready_slab, pend_slot, ready_marks, ready_words, pend_old, commit_row, commit_all}
use Rattle.batch_kept.specs.Kept.{kept_from}
use Rattle.batch_kept.proofs.Laws.{kept_from_next, kept_from_none}

-- ---- ready
pub ready_marks_busy : (w : ℕ) (ms : List ℕ) → (w ≡ 0 → ⊥) → ready_marks w ms ≡ ms
ready_marks_busy zero ms h = absurd (h refl)
ready_marks_busy (suc w) ms h = refl

pub ready_words_busy : (g : List ℕ) (a w : ℕ) → (w ≡ 0 → ⊥) → ready_words g a w ≡ g
ready_words_busy g a zero h = absurd (h refl)
ready_words_busy g a (suc w) h = refl

module _ (cap k : ℕ) (s : Slots) where
  -- a part that is written as it was
  same_part : put_part cap s.marks k (part cap s.marks k) ≡ s.marks
  same_part = ap (λ r. take (k * cap) s.marks ++ r) (take-append-drop cap (drop (k * cap) s.marks)) ∙ take-append-drop (k * cap) s.marks

  -- a slab's part of the marks made ready, by the waiting word
  ready_part : (w : ℕ) → ◌≡◌ {A = Slots} (record { marks = put_part cap s.marks k (ready_marks w (part cap s.marks k)); words = ready_words s.words (suc k) w }) (ready_by cap k s w)
  ready_part zero = refl
  ready_part (suc w) = λ i. record { marks = same_part i; words = s.words }

  pub slab_ready : (p g : List ℕ) → p ≡ ready_marks (get_word s.words waiting_words (k + 1)) (take (k * cap + cap - k * cap) (drop (k * cap) s.marks))
      → g ≡ ready_words s.words (k + 1) (get_word s.words waiting_words (k + 1))
      → ◌≡◌ {A = Slots} (record { marks = put_mid (k * cap) (k * cap + cap - k * cap) s.marks p; words = g }) (ready_slab cap k s)
  slab_ready p g e f =
      rw (put_part_range cap s.marks k p, e, f, part_range cap s.marks k, add-one k) (ready_part (get_word s.words waiting_words (suc k)))

-- ---- one row
commit_row_store : (m : Memory) (i l o : ℕ) → (l ≡ 0 → ⊥)
    → commit_row m i l o ≡ with_owned (pend_old m o) (set m.locations i l) (write m.slots l i m.owners)
commit_row_store m i zero o h = absurd (h refl)
commit_row_store m i (suc l) o h = refl

-- the kept update j, as it stands in the batch: id, new location, old location
abbrev kept_applied : Memory → List ℕ → ℕ → Memory
kept_applied m b j = commit_row m (get_or b (kept_ids_at + j) 0) (get_or b (kept_locations_at + j) 0) (get_or m.locations (get_or b (kept_ids_at + j) 0) 0)

row_read : (m : Memory) (b : List ℕ) (j i l o : ℕ) → i ≡ get_or b (kept_ids_at + j) 0 → l ≡ get_or b (kept_locations_at + j) 0 → o ≡ get_or m.locations (0 + i) 0
    → commit_row m i l o ≡ kept_applied m b j
row_read m b j i l o ei el eo =
    let old = eo ∙ ap (λ x. get_or m.locations x 0) (zero-add i ∙ ei) in
    λ k. commit_row m (ei k) (el k) (old k)

module _ (m : Memory) (b : List ℕ) (j i l o : ℕ) (ri : i ≡ get_or b (kept_ids_at + j) 0) (rl : l ≡ get_or b (kept_locations_at + j) 0)
    (ro : o ≡ get_or m.locations (0 + i) 0) (locations marks words owners : List ℕ) where
  abbrev Row : Memory
  Row = kept_applied m b j

  pub row_store : (l ≡ 0 → ⊥) → locations ≡ set m.locations (0 + i) l → ◌≡◌ {A = Slots} (record { marks = marks; words = words }) (pend_slot m.slots (slots_of m) o)
      → owners ≡ write m.slots l i m.owners
      → with_owned (with_slots m (record { marks = marks; words = words })) locations owners ≡ Row
  row_store nz el es eo =
      let at = el ∙ ap (λ x. set m.locations x l) (zero-add i) in
      (λ k. with_owned (with_slots m (es k)) (at k) (eo k)) ∙ sym (commit_row_store m i l o nz) ∙ row_read m b j i l o ri rl ro

  pub row_free : (id_marks ready before : List ℕ) → l ≡ 0 → locations ≡ set m.locations (0 + i) l
      → id_marks ≡ set ready i 2 → ready ≡ ready_marks (get_word m.tallies waiting_words 0) m.id_marks → before ≡ ready_words m.tallies 0 (get_word m.tallies waiting_words 0)
      → ◌≡◌ {A = Slots} (record { marks = marks; words = words }) (pend_slot m.slots (record { marks = m.slot_marks; words = before }) o)
      → owners ≡ write m.slots o 0 m.owners
      → ◌≡◌ {A = Memory} (record {
        ids = m.ids;
        slots = m.slots;
        id_marks = id_marks;
        locations = locations;
        slot_marks = marks;
        owners = owners;
        batch = m.batch;
        tallies = words;
        carried = m.carried;
      }) Row
  row_free id_marks ready before z el ei er ew es eo =
      let at = el ∙ (λ k. set m.locations (zero-add i k) (z k)) in
      let both = es ∙ ap (λ g. pend_slot m.slots (record { marks = m.slot_marks; words = g }) o) ew in
      (λ k. record {
        ids = m.ids;
        slots = m.slots;
        id_marks = (ei ∙ ap (λ x. set x i 2) er) k;
        locations = at k;
        slot_marks = (both k).marks;
        owners = eo k;
        batch = m.batch;
        tallies = (both k).words;
        carried = m.carried;
      }) ∙ sym (ap (λ x. commit_row m i x o) z) ∙ row_read m b j i l o ri rl ro

-- ---- what the rows carry
module _ (w ids : ℕ) (b : List ℕ) (n i : ℕ) (t : List ℕ) where
  settle_next : i < n → committed w (ids + i) (kept_from b (n - i) i) t
      ≡ committed w (ids + (i + 1)) (kept_from b (n - (i + 1)) (i + 1))
      (put_row w t (get_or b (kept_ids_at + i) 0) (kept_row w t (ids + i) (get_or b (kept_locations_at + i) 0)))
  unfolding committed
  settle_next h =
      let e : ids + (i + 1) ≡ suc (ids + i) = omega arith in
      rw (kept_from_next b n i h, e)

  -- the rows left, after the row at i, leave what the rows from i on leave
  pub settle_turn : (id location : ℕ) (x whole : List ℕ) → i < n → id ≡ get_or b (kept_ids_at + i) 0 → location ≡ get_or b (kept_locations_at + i) 0
      → x ≡ put_row w t id (kept_row w t (ids + i) location)
      → committed w (ids + i) (kept_from b (n - i) i) t ≡ whole → committed w (ids + (i + 1)) (kept_from b (n - (i + 1)) (i + 1)) x ≡ whole
  settle_turn id location x whole h p q e all =
      let f : x ≡ put_row w t (get_or b (kept_ids_at + i) 0) (kept_row w t (ids + i) (get_or b (kept_locations_at + i) 0)) =
      e ∙ (λ k. put_row w t (p k) (kept_row w t (ids + i) (q k))) in
      ap (committed w (ids + (i + 1)) (kept_from b (n - (i + 1)) (i + 1))) f ∙ sym (settle_next h) ∙ all

  pub settle_none : n ≤ i → committed w (ids + i) (kept_from b (n - i) i) t ≡ t
  unfolding committed
  settle_none h = rw (kept_from_none b n i h)

-- ---- all rows
module _ (m : Memory) (b : List ℕ) (n i : ℕ) where
  commit_next : i < n → commit_all m (kept_from b (n - i) i)
      ≡ commit_all (kept_applied m b i) (kept_from b (n - (i + 1)) (i + 1))
  commit_next h = ap (commit_all m) (kept_from_next b n i h)

  -- the rows left, after the row at i, make what the rows from i on make
  pub commit_turn : (x whole : Memory) → i < n → x ≡ kept_applied m b i
      → commit_all m (kept_from b (n - i) i) ≡ whole → commit_all x (kept_from b (n - (i + 1)) (i + 1)) ≡ whole
  commit_turn x whole h e all = ap (λ (y : Memory). commit_all y (kept_from b (n - (i + 1)) (i + 1))) e ∙ sym (commit_next h) ∙ all

  pub commit_none : n ≤ i → commit_all m (kept_from b (n - i) i) ≡ m
  commit_none h = ap (commit_all m) (kept_from_none b n i h)
