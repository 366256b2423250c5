-- Abandon in what the code reads: its refusal by lengths, the opened word and the kept rows; its slots one after the other. Assumes nothing.
use mathlib.Core.Bool.{Bool, true}
use mathlib.Core.Path.{◌≡◌, ap, ◌∙◌}
use mathlib.Core.List.{List}
use Prim.Native.Nat.{ℕ, suc, ◌+◌, ◌-◌, ◌*◌, ◌≤◌, ◌<◌, pred}
use native.Mathlib.Numerals.{add-one}
use lib.ListN.{get_or, set, take, drop}
use borrow.Rule.Slice.PartMut.{put_mid}
use Rattle.refusal.specs.Outcomes.{granted}
use Rattle.refusal.specs.declared.Refusal.{Refusal}
use Rattle.list_parts.proofs.Parts.{part_range, put_part_range}
use Rattle.id_allocator.specs.Written.{given_back, hint_back}
use Rattle.model.specs.Store as S
use Rattle.model.specs.Store.{Row}
use Rattle.model.specs.Verdict.{ok, ◌⨾◌}
use Rattle.model.specs.Tables.{bump, kept, locations_of}
use Rattle.model.specs.Lending.{slab_tables}
use Rattle.model.specs.Lent.{fits}
use Rattle.model.specs.Memory.{Memory, read, word_at, get_word, put_word, freed_words, hint_words, kept_locations_at}
use Rattle.model.specs.MemoryAfter.{Slots, gave_slot, give_slot, give_slots, slots_of, memory_effect, memory_after, with_kept, with_slots}
use Rattle.model.specs.Step.{refusal_of, refusal, grant, answer}
use Rattle.model.specs.Tests.{one_open}
use Rattle.model.proofs.Granted.{granted_fits}
use Rattle.model.proofs.Sizes.{fits_range, fits_batch}
use Rattle.batch_kept.specs.Kept.{count_of, kept_from, rows_as, first_bad, bad_kept_row}
use Rattle.batch_kept.proofs.Laws.{abandon_rows_first, bad_row_read, kept_from_next, kept_from_none}
use Rattle.batch_kept.proofs.Checked.{check_count, check_refused, check_kept, granted_answer, granted_after}
use Rattle.std.specs.Prelude.{Ok, Err}

-- ---- the refusal
module _ (m : Memory) where
  abbrev bad : Row → Bool
  bad = bad_kept_row m.ids m.slots

  abandon_rows : fits slab_tables m ≡ true → refusal_of (read m) S.abandon ≡ (one_open (read m) ⨾ first_bad bad 0 (kept (read m)))
  unfolding refusal_of
  abandon_rows e =
      ap (λ v. one_open (read m) ⨾ v) (abandon_rows_first (read m) bad (λ r. bad_row_read m r (fits_range slab_tables m e).slots_good) 0 (kept (read m)))

  pub abandon_count : fits slab_tables m ≡ true → (n : ℕ) → count_of m.batch ≡ Ok n
      → rows_as (first_bad bad 0 (kept_from m.batch n 0)) n ≡ rows_as (refusal (read m) S.abandon) (pred (get_or m.batch 0 0))
  abandon_count e n q = check_count m S.abandon bad e (fits_batch slab_tables m e) (abandon_rows e) n q

  pub abandon_refused : fits slab_tables m ≡ true → (r : Refusal) (p : ℕ) → count_of m.batch ≡ Err r
      → Err r ≡ rows_as (refusal (read m) S.abandon) p
  abandon_refused e r p q = check_refused m S.abandon bad e (fits_batch slab_tables m e) (abandon_rows e) r p q

  -- ---- where nothing is refused
  module _ (e : refusal (read m) S.abandon ≡ ok) where
    pub abandon_done : answer (read m) S.abandon ≡ granted S.done
    unfolding grant
    abandon_done = granted_answer m S.abandon e

    pub abandon_after : (n : ℕ) → n ≡ pred (get_or m.batch 0 0)
        → memory_after m S.abandon ≡ with_kept (with_slots m (give_slots m.slots (slots_of m) (locations_of (kept_from m.batch n 0)))) (set m.batch 0 0)
    unfolding memory_effect
    abandon_after n q =
        let f = granted_fits m S.abandon e in
        granted_after m S.abandon e
        ∙ ap (λ (rs : List Row). with_kept (with_slots m (give_slots m.slots (slots_of m) (locations_of rs))) (set m.batch 0 0))
        (check_kept m S.abandon bad f (fits_batch slab_tables m f) (abandon_rows f) e n q)

-- ---- one slot
pub gave_is : (cap k j : ℕ) (s : Slots) (hint back : ℕ) (p : List ℕ) → hint ≡ get_word s.words hint_words (k + 1)
    → back ≡ hint_back hint j (take (k * cap + cap - k * cap) (drop (k * cap) s.marks))
    → p ≡ given_back hint j (take (k * cap + cap - k * cap) (drop (k * cap) s.marks))
    → ◌≡◌ {A = Slots} (record { marks = put_mid (k * cap) (k * cap + cap - k * cap) s.marks p; words = put_word (bump s.words (word_at freed_words (k + 1)) 1) hint_words (k + 1) back })
    (gave_slot cap s (suc k) j)
gave_is cap k j s hint back p eh eb ep =
    rw (put_part_range cap s.marks k p, ep, eb, part_range cap s.marks k, eh, add-one k)

-- ---- all of them
module _ (cap : ℕ) (s : Slots) (b : List ℕ) (n i : ℕ) where
  pub give_next : i < n → give_slots cap s (locations_of (kept_from b (n - i) i))
      ≡ give_slots cap (give_slot cap s (get_or b (kept_locations_at + i) 0)) (locations_of (kept_from b (n - (i + 1)) (i + 1)))
  give_next h = ap (λ rs. give_slots cap s (locations_of rs)) (kept_from_next b n i h)

  pub give_none : n ≤ i → give_slots cap s (locations_of (kept_from b (n - i) i)) ≡ s
  give_none h = ap (λ rs. give_slots cap s (locations_of rs)) (kept_from_none b n i h)
