-- A slab by its own marks and words: its live slots, those of the first, and its tip are what the model says of the store. Neither tells pending from held.
-- Assumes nothing.
use Rattle.std.proofs.Common.{◌≡◌, ℕ, suc, ◌+◌, ◌*◌, ◌<◌, List, length, take, ap, ◌∙◌, arith}
use Rattle.list_parts.specs.Parts.{part}
use Rattle.list_parts.proofs.Parts.{part_at}
use Rattle.address.specs.Address.{slabs}
use Rattle.marks.specs.Marks.{count_if, is_taken, tip}
use Rattle.id_allocator.specs.Counted.{hinted}
use Rattle.id_allocator.proofs.LawsCounted.{counted_live, counted_tip, counted_front}
use Rattle.model.specs.Memory.{Memory, read, counted_by, get_word, hint_words, waiting_words, used_words}
use Rattle.model.specs.Reasons.{smaller_slots}
use Rattle.model.specs.Tables.{allocators, live, slab_tip}
use Rattle.model.proofs.Slabs.{part_counted_slabs}

module _ (m : Memory) (k : ℕ) (h : k < slabs) (l : length m.slot_marks ≡ slabs * m.slots) where
  abbrev marks : List ℕ
  marks = part m.slots m.slot_marks k

  abbrev hint : ℕ
  hint = get_word m.tallies hint_words (suc k)

  abbrev waiting : ℕ
  waiting = get_word m.tallies waiting_words (suc k)

  marks_read : part m.slots (read m).slot_marks k ≡ counted_by m.tallies (suc k) marks
  unfolding read
  marks_read =
      let z : 0 + k ≡ k = omega arith in
      rw z at (part_counted_slabs m.slots m.tallies slabs 0 m.slot_marks k l h)

  pub live_read : live (read m) k ≡ count_if is_taken (hinted hint marks)
  unfolding read
  live_read = ap (count_if is_taken) marks_read ∙ counted_live hint waiting marks

  pub smaller_read : (j : ℕ) → smaller_slots (read m) k j ≡ count_if is_taken (hinted hint (take j marks))
  unfolding read
  smaller_read j =
      ap (λ (x : List ℕ). count_if is_taken (take j x)) marks_read
      ∙ ap (count_if is_taken) (counted_front hint waiting marks j)
      ∙ counted_live hint waiting (take j marks)

  pub tip_read : slab_tip (read m) k ≡ tip (hinted hint marks) (get_word m.tallies used_words (suc k))
  unfolding read
  tip_read =
      (λ i. tip (marks_read i) (part_at allocators m.tallies used_words (suc k) 0 (omega arith) i))
      ∙ counted_tip hint waiting marks (get_word m.tallies used_words (suc k))
