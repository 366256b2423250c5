-- The room in the slabs as the model has it: what is asked for is counted, and what is free is what the tables count as free. Assumes nothing.
use mathlib.Core.Bool.{Bool, true, false, cond}
use mathlib.Core.List.{List, [], ◌∷◌}
use mathlib.Core.Path.{◌≡◌, refl, sym, ap, ◌∙◌}
use Prim.Native.Nat.{ℕ, zero, suc, ◌+◌, ◌%◌, ◌^◌, ◌≤◌, ◌<◌}
use native.Mathlib.Nat.{suc-ne-zero}
use native.Mathlib.Numerals.{add-one}
use native.Mathlib.Omega.{arith}
use lib.Dec.{ltb, eqb}
use lib.ListN.{length, get_or, replicate}
use lib.Seq.{get_or-set_same}
use borrow.Author.Tests.{eqb-true, eqb-false, ne_eqb}
use Rattle.refusal.specs.Refusals.{none_free}
use Rattle.refusal.proofs.Tests.{by_test}
use Rattle.list_parts.specs.Parts.{part}
use Rattle.address.specs.Address.{bad_slots, slabs}
use Rattle.marks.specs.Marks.{is_free, count_if}
use Rattle.id_allocator.specs.Counted.{hinted}
use Rattle.marks.specs.Turned.{is_mark}
use Rattle.id_allocator.proofs.LawsCounted.{counted_free}
use Rattle.model.specs.Batches.{update_of, updates_of, asks, asked, room}
use Rattle.model.specs.Memory.{get_word, hint_words, waiting_words}
use Rattle.model.specs.MemoryAfter.{Slots}
use Rattle.model.specs.Tables.{most_updates, bump}
use Rattle.model.specs.Verdict.{test, ◌⨾◌}
use Rattle.model.proofs.Steps.{Fits, slots_read, slab_read}
use Rattle.model.proofs.Lists.{zeros}
use Rattle.model.proofs.Writes.{length_bump, bump_other}
use Rattle.tables.proofs.LawsEntries.{slab_part_is}
use Rattle.offer_updates.specs.Kinds.{free_kind, kind_of, kinds_of}
use Rattle.offer_room.specs.Room.{none_asked, tallied, free_in, room_in}
use Rattle.offer.proofs.LawsUpdates.{length_kinds_of}

-- ---- how many are asked for
tallied_at : (ks t : List ℕ) (k : ℕ) → k < length t → get_or t k 0 + length ks < 2 ^ 64 → get_or (tallied t ks) k 0 ≡ get_or t k 0 + count_if (is_mark k) ks
tallied_at [] t k h b = omega arith
tallied_at (x ∷ ks) t k h b =
    by_test (eqb x k)
    (λ e.
    let p : k ≡ x = sym (eqb-true x k e) in
    let v : get_or (bump t x 1) k 0 ≡ get_or t k 0 + 1 = rw (← p) (get_or-set_same t k ((get_or t k 0 + 1) % 2 ^ 64) 0 h ∙ omega arith) in
    let r = tallied_at ks (bump t x 1) k (rw length_bump h) (omega arith) in
    rw e (r ∙ omega arith))
    (λ e.
    let v : get_or (bump t x 1) k 0 ≡ get_or t k 0 = bump_other t x 1 k (λ p. eqb-false x k e (sym p)) in
    let r = tallied_at ks (bump t x 1) k (rw length_bump h) (omega arith) in
    rw e (r ∙ omega arith))

asked_kinds : (k : ℕ) → k < slabs → (is : List ℕ) (ss : List Bool) (ns : List ℕ) → length ss ≡ length is → length ns ≡ length is
    → count_if (is_mark k) (kinds_of ss ns) ≡ asked k (updates_of is ss ns)
asked_kinds k h [] [] ns p q = refl
asked_kinds k h [] (b ∷ ss) ns p q = absurd (suc-ne-zero (length ss) p)
asked_kinds k h (x ∷ is) [] ns p q = absurd (suc-ne-zero (length is) (sym p))
asked_kinds k h (x ∷ is) (b ∷ ss) [] p q = absurd (suc-ne-zero (length is) (sym q))
asked_kinds k h (x ∷ is) (b ∷ ss) (n ∷ ns) p q = by b ∙ ap (λ r. cond (asks k (update_of b x n)) (suc r) r) (asked_kinds k h is ss ns (omega arith) (omega arith))
  where
    by : (b : Bool) → cond (is_mark k (kind_of b n)) (suc (count_if (is_mark k) (kinds_of ss ns))) (count_if (is_mark k) (kinds_of ss ns))
        ≡ cond (asks k (update_of b x n)) (suc (count_if (is_mark k) (kinds_of ss ns))) (count_if (is_mark k) (kinds_of ss ns))
    by true = refl
    by false = rw (ne_eqb free_kind k (λ (e : free_kind ≡ k). omega arith))

tallied_asked : (is : List ℕ) (ss : List Bool) (ns : List ℕ) → length ss ≡ length is → length ns ≡ length is → length is ≤ most_updates → (k : ℕ) → k < slabs
    → get_or (tallied none_asked (kinds_of ss ns)) k 0 ≡ asked k (updates_of is ss ns)
unfolding none_asked
tallied_asked is ss ns p q few k h =
    let z : get_or {A = ℕ} (replicate slabs 0) k 0 ≡ 0 = zeros slabs k in
    let l : length (kinds_of ss ns) ≤ most_updates = omega (arith, length_kinds_of ss ns (q ∙ sym p)) in
    let e = tallied_at (kinds_of ss ns) (replicate slabs 0) k h (omega arith) in
    let w : get_or {A = ℕ} (replicate slabs 0) k 0 + count_if (is_mark k) (kinds_of ss ns) ≡ count_if (is_mark k) (kinds_of ss ns) = omega arith in
    e ∙ w ∙ asked_kinds k h is ss ns p q

-- ---- the test slab by slab
module _ (cap : ℕ) (s : Slots) (f : Fits cap s) (good : bad_slots cap ≡ false) where
  free_in_read : (k : ℕ) → k < slabs → free_in cap s.marks s.words k ≡ count_if is_free (part cap (slots_read cap s) k)
  unfolding free_in
  free_in_read k h =
      ap (λ x. count_if is_free (hinted (get_word s.words hint_words (k + 1)) x)) (slab_part_is cap k s.marks h good)
      ∙ ap (λ a. count_if is_free (hinted (get_word s.words hint_words a) (part cap s.marks k))) (add-one k)
      ∙ sym (counted_free (get_word s.words hint_words (suc k)) (get_word s.words waiting_words (suc k)) (part cap s.marks k))
      ∙ ap (count_if is_free) (sym (slab_read cap s f k h))

  pub room_read : (is : List ℕ) (ss : List Bool) (ns : List ℕ) → length ss ≡ length is → length ns ≡ length is → length is ≤ most_updates → (n k : ℕ) → k + n ≤ slabs
      → room_in cap s.marks s.words (tallied none_asked (kinds_of ss ns)) n k ≡ room cap (slots_read cap s) (updates_of is ss ns) n k
  unfolding room_in room
  room_read is ss ns p q few zero k h = refl
  room_read is ss ns p q few (suc n) k h =
      let r = room_read is ss ns p q few n (suc k) (omega arith) in
      let a = free_in_read k (omega arith) in
      let b = tallied_asked is ss ns p q few k (omega arith) in
      λ i. test (ltb (a i) (b i)) none_free k ⨾ r i
