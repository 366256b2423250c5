-- The slots that are found as the model has them: what the code finds with the hint is the model's spot, so that taking it in the tables is
-- writing it in the marks as they count (Steps), and slot after slot the places are the model's. Assumes nothing.
use mathlib.Core.Bool.{Bool, true, false, cond}
use mathlib.Core.List.{List, [], ◌∷◌, ◌++◌, append-nil}
use mathlib.Core.Logic.{◌⊎◌, inl, inr, ⊎_elim}
use mathlib.Core.Path.{◌≡◌, refl, sym, ap, ◌∙◌, subst}
use Prim.Native.Nat.{ℕ, suc, ◌+◌, ◌*◌, ◌/◌, ◌%◌, ◌≤◌, ◌<◌}
use native.Mathlib.Nat.{suc-ne-zero, zero-add, mul-le-mul_right}
use native.Mathlib.Numerals.{add-one}
use native.Mathlib.Omega.{arith}
use lib.Dec.{ltb}
use lib.ListN.{length, take, set, drop_of_length-le}
use lib.Seq.{sets, sets-eq, take-nil}
use borrow.Author.Tests.{lt-leb, le-leb, ltb-true, ltb-false}
use Rattle.refusal.proofs.Tests.{by_test}
use Rattle.list_parts.specs.Parts.{part}
use Rattle.sizes.specs.Sizes.{slab_for}
use Rattle.address.specs.Address.{unit, packing, bad_slots, packed, slabs}
use Rattle.marks.specs.Marks.{first_free, smallest_free}
use Rattle.id_allocator.specs.Counted.{hinted, counted}
use Rattle.id_allocator.proofs.LawsCounted.{counted_length, counted_smallest_free}
use Rattle.model.specs.Batches.{update_of, updates_of, spot, spot_for, place}
use Rattle.model.specs.Memory.{get_word, hint_words, waiting_words}
use Rattle.model.specs.MemoryAfter.{Slots, took_slot, take_slot}
use Rattle.model.specs.Tables.{write}
use Rattle.model.proofs.Slabs.{length_counted_slabs}
use Rattle.model.proofs.Steps.{Fits, Stepped, slots_read, still, fits_on, slab_read, part_long, took_read}
use Rattle.model.proofs.Locations.{is_location_packing, slot_place_packing}
use Rattle.model.proofs.Writes.{write_set}
use Rattle.tables.proofs.LawsEntries.{slab_part_is}
use Rattle.offer_updates.specs.Kinds.{free_kind, kind_of, kinds_of}
use Rattle.offer_places.specs.Places.{next_in, spot_in, place_in}
use Rattle.offer_places.proofs.Laws.{spot_in_none}

-- a list written whole
pub sets_whole : (l vs : List ℕ) → length vs ≡ length l → sets l 0 vs ≡ vs
sets_whole l vs h =
    sets-eq vs l 0 (omega arith) ∙ ap (λ x. vs ++ x) (drop_of_length-le l {i = 0 + length vs} (omega arith)) ∙ append-nil vs

-- ---- a slab's spot
module _ (cap : ℕ) (s : Slots) (f : Fits cap s) (good : bad_slots cap ≡ false) (k : ℕ) where
  abbrev t : List ℕ
  t = slots_read cap s

  abbrev j : ℕ
  j = next_in cap s k

  next_first : k < slabs → first_free (part cap t k) ≡ j
  next_first h = sym (
      ap (λ x. smallest_free 0 (hinted (get_word s.words hint_words (k + 1)) x)) (slab_part_is cap k s.marks h good)
      ∙ ap (λ a. smallest_free 0 (hinted (get_word s.words hint_words a) (part cap s.marks k))) (add-one k)
      ∙ sym (counted_smallest_free (get_word s.words hint_words (suc k)) (get_word s.words waiting_words (suc k)) (part cap s.marks k) 0)
      ∙ zero-add (first_free (counted (get_word s.words hint_words (suc k)) (get_word s.words waiting_words (suc k)) (part cap s.marks k)))
      ∙ ap first_free (sym (slab_read cap s f k h)))

  part_cap : k < slabs → length (part cap t k) ≡ cap
  part_cap h =
      ap length (slab_read cap s f k h) ∙ counted_length (get_word s.words hint_words (suc k)) (get_word s.words waiting_words (suc k)) (part cap s.marks k)
      ∙ (part_long cap s f k h).1

  -- a slot of the slab is found by both
  record Found : Type 0 where
    slab : k < slabs
    slot : j < cap
    code : spot_in cap s k ≡ packing k j
    model : spot cap t k ≡ packing k j

  spots : ((spot_in cap s k ≡ 0) × (spot cap t k ≡ 0)) ⊎ Found
  unfolding spot_in packed
  spots = by_test (ltb k slabs)
      (λ e.
      let h : k < slabs = ltb-true k slabs e in
      let n = next_first h in
      let l = part_cap h in
      let m : spot cap t k ≡ cond (ltb j cap) (packing k j) 0 = λ i. cond (ltb (n i) (l i)) (packing k (n i)) 0 in
      by_test (ltb j cap)
      (λ b.
      let hj : j < cap = ltb-true j cap b in
      inr (record {
        slab = h;
        slot = hj;
        code = simp (e, good, lt-leb slabs k h, lt-leb cap j hj);
        model = m ∙ ap (λ x. cond x (packing k j) 0) b;
      }))
      (λ b. inl (simp (e, good, lt-leb slabs k h, le-leb cap j (ltb-false j cap b)), m ∙ ap (λ x. cond x (packing k j) 0) b)))
      (λ e.
      let h : slabs ≤ k = ltb-false k slabs e in
      let z : part cap t k ≡ [] =
      ap (take cap) (drop_of_length-le t {i = k * cap} (omega (arith, mul-le-mul_right cap h, length_counted_slabs cap s.words slabs 0 s.marks, f.marks_long))) ∙ take-nil cap in
      inl (rw e, λ i. cond (ltb (first_free (z i)) (length (z i))) (packing k (first_free (z i))) 0))

  pub spot_in_spot : spot_in cap s k ≡ spot cap t k
  spot_in_spot = ⊎_elim (λ z. z.0 ∙ sym z.1) (λ (q : Found). q.code ∙ sym q.model) spots

  -- taking it is writing it
  pub spot_taken : Stepped cap s (take_slot cap s (spot_in cap s k)) (write cap (spot_in cap s k) 1 t)
  spot_taken = ⊎_elim (λ z. at_spot 0 z.0 (still cap s)) (λ (q : Found). at_spot (packing k j) q.code (found q)) spots
    where
      at_spot : (l : ℕ) → spot_in cap s k ≡ l → Stepped cap s (take_slot cap s l) (write cap l 1 t) → Stepped cap s (take_slot cap s (spot_in cap s k)) (write cap (spot_in cap s k) 1 t)
      at_spot l e r = subst (λ x. Stepped cap s (take_slot cap s x) (write cap x 1 t)) (sym e) r

      found : Found → Stepped cap s (take_slot cap s (packing k j)) (write cap (packing k j) 1 t)
      found q =
          let hj : j < cap = q.slot in
          let hk : k < slabs = q.slab in
          let c : cap ≤ 65536 = f.high in
          let v = is_location_packing cap k j c hk hj in
          let d : packing k j / unit ≡ suc k = omega arith in
          let r : packing k j % unit ≡ j = omega arith in
          let te : take_slot cap s (packing k j) ≡ took_slot cap s (suc k) j =
          ap (λ b. cond b (took_slot cap s (packing k j / unit) (packing k j % unit)) s) v ∙ (λ i. took_slot cap s (d i) (r i)) in
          let we : write cap (packing k j) 1 t ≡ set t (k * cap + j) 1 = write_set cap (packing k j) 1 t v ∙ ap (λ p. set t p 1) (slot_place_packing cap k j c hj) in
          let x = took_read cap s k j f hk hj (sym (next_first hk)) in
          subst (λ y. Stepped cap s y (write cap (packing k j) 1 t)) (sym te) (subst (λ y. Stepped cap s (took_slot cap s (suc k) j) y) (sym we) x)

spot_kind : (cap : ℕ) (s : Slots) → Fits cap s → bad_slots cap ≡ false → (b : Bool) (x n : ℕ) → spot_in cap s (kind_of b n) ≡ spot_for cap (slots_read cap s) (update_of b x n)
spot_kind cap s f good true x n = spot_in_spot cap s f good (slab_for n)
spot_kind cap s f good false x n = spot_in_none cap s free_kind (omega arith)

pub place_read : (cap : ℕ) → bad_slots cap ≡ false → (is : List ℕ) (ss : List Bool) (ns : List ℕ) (s : Slots) → Fits cap s → length ss ≡ length is → length ns ≡ length is
    → place_in cap s (kinds_of ss ns) ≡ place cap (slots_read cap s) (updates_of is ss ns)
unfolding place_in
place_read cap good [] [] ns s f p q = refl
place_read cap good [] (b ∷ ss) ns s f p q = absurd (suc-ne-zero (length ss) p)
place_read cap good (x ∷ is) [] ns s f p q = absurd (suc-ne-zero (length is) (sym p))
place_read cap good (x ∷ is) (b ∷ ss) [] s f p q = absurd (suc-ne-zero (length is) (sym q))
place_read cap good (x ∷ is) (b ∷ ss) (n ∷ ns) s f p q =
    let e = spot_kind cap s f good b x n in
    let o = spot_taken cap s f good (kind_of b n) in
    let r = place_read cap good is ss ns (take_slot cap s (spot_in cap s (kind_of b n))) (fits_on f o) (omega arith) (omega arith) in
    let w : slots_read cap (take_slot cap s (spot_in cap s (kind_of b n))) ≡ write cap (spot_for cap (slots_read cap s) (update_of b x n)) 1 (slots_read cap s) =
    o.slots_read_lem ∙ ap (λ y. write cap y 1 (slots_read cap s)) e in
    let m = r ∙ ap (λ y. place cap y (updates_of is ss ns)) w in
    λ i. e i ∷ m i
