-- Laws of an offer: its refusals in their order, each told by what the code tests, and what it leaves where it is refused and where it is granted.
-- Assumes nothing.
use mathlib.Core.Bool.{Bool, true, false, not, cond, ◌&&◌, ◌||◌}
use mathlib.Core.List.{List, [], ◌++◌, append-nil}
use mathlib.Core.Path.{◌≡◌, refl, sym, ap, ◌∙◌}
use Prim.Native.Nat.{ℕ, ◌+◌, ◌*◌, ◌≤◌, ◌<◌}
use native.Mathlib.Numerals.{add-one}
use native.Mathlib.Omega.{arith}
use lib.Dec.{eqb, ltb}
use lib.ListN.{length, get_or, take, drop, set}
use lib.Seq.{sets, drop-length}
use borrow.Author.Tests.{eqb-true, eq-eqb, ne_eqb, not-true, not-false, lt-ltb, le-ltb}
use Rattle.refusal.specs.declared.Kind.{Kind}
use Rattle.refusal.specs.Refusals.{refusal as refusal_at, wrong_shape, batch_open, too_many, key_too_long}
use Rattle.refusal.specs.declared.Refusal.{Refusal}
use Rattle.refusal.proofs.Tests.{and_true}
use Rattle.carried.specs.Carried.{width, put_rows, up_from}
use Rattle.keys.specs.Keys.{long_in, normal_rows, stores_of, first_met}
use Rattle.keys.proofs.Laws.{length_stores_of}
use Rattle.address.specs.Address.{bad_slots, slabs}
use Rattle.model.specs.Batches.{updates_in, updates, room, taken_by}
use Rattle.model.specs.Outcomes.{over}
use Rattle.model.specs.Memory.{Memory, read, kept_ids_at, kept_locations_at}
use Rattle.model.specs.MemoryAfter.{Slots, slots_of, take_slots, kept_words, memory_effect, memory_after}
use Rattle.model.specs.Columns.{carries_for, before_keys, with_offered_keys, offered_column}
use Rattle.model.specs.Lending.{every_table}
use Rattle.model.specs.Lent.{fits}
use Rattle.model.specs.Step.{refusal_of, refusal, grant, answer}
use Rattle.model.specs.Tests.{as_long}
use Rattle.model.specs.Store.{Offer, offer, placed}
use Rattle.refusal.specs.Outcomes.{granted, refused}
use Rattle.model.specs.Tables.{most_updates}
use Rattle.model.specs.Verdict.{Verdict, ok, refuse, test, earlier, ◌⨾◌, judged_verdict}
use Rattle.model.proofs.Batches.{length_updates_of, length_place}
use Rattle.model.proofs.Keyed.{first_long_lem}
use Rattle.model.proofs.Read.{slots_fit}
use Rattle.model.proofs.Sizes.{shape_read, fits_range, fits_slot_marks}
use Rattle.model.proofs.Steps.{Fits}
use Rattle.model.proofs.Verdicts.{tests_join, earlier_alone}
use Rattle.offer_updates.specs.Kinds.{no_kinds, kinds_of, check_in}
use Rattle.offer.specs.Outcome.{offer_leaves}
use Rattle.offer.specs.Verdicts.{offer_fits, keys_in}
use Rattle.offer_places.specs.Places.{slots_in, place_in}
use Rattle.offer_room.specs.Room.{none_asked, tallied, room_in}
use Rattle.offer.proofs.LawsPlaces.{sets_whole, place_read}
use Rattle.offer.proofs.LawsRoom.{room_read}
use Rattle.offer.proofs.LawsUpdates.{length_kinds_of, kinds_front, unkept, check_read, check_lent}
use Rattle.std.specs.Prelude.{Result, Ok, Err, ⊤}

-- ---- one test after another
pub seq_stop : (o : Result ⊤ Refusal) (v w : Verdict) (r : Refusal) → judged_verdict o ≡ v → o ≡ Err r → judged_verdict o ≡ (v ⨾ w)
unfolding ◌⨾◌
seq_stop o v w r e p = let q : refuse r.kind r.index ≡ v = sym (ap judged_verdict p) ∙ e in ap judged_verdict p ∙ ap (λ x. x ⨾ w) q

pub seq_on : (o : Result ⊤ Refusal) (v w : Verdict) → judged_verdict o ≡ v → o ≡ (Ok tt) → w ≡ (v ⨾ w)
unfolding ◌⨾◌
seq_on o v w e p = let q : ok ≡ v = sym (ap judged_verdict p) ∙ e in ap (λ x. x ⨾ w) q

-- ---- two orders of tests made one: whether a refusal n of update i comes before that of the key of update k
module _ (n : Kind) (i k : ℕ) where
  abbrev Decides : Bool
  Decides = ltb i k || (eqb i k && before_keys n)

  pub decides_other : (i ≡ k → ⊥) → ltb i k ≡ Decides
  decides_other h = rw (ne_eqb i k h) (by (ltb i k))
    where
      by : (b : Bool) → b ≡ (b || false)
      by true = refl
      by false = refl

  pub decides_here : i ≡ k → before_keys n ≡ Decides
  decides_here e = rw (le-ltb i k (omega arith), eq-eqb i k e) refl

module _ (j : Result ⊤ Refusal) (k n : ℕ) where
  abbrev Keyed : Verdict
  Keyed = earlier before_keys (judged_verdict j) (test (ltb k n) key_too_long k)

  pub keys_short : n ≤ k → judged_verdict j ≡ Keyed
  unfolding test
  keys_short h = rw (le-ltb k n h) (earlier_alone before_keys (judged_verdict j))

  module _ (h : k < n) where
    pub keys_alone : j ≡ (Ok tt) → refuse key_too_long k ≡ Keyed
    unfolding earlier test
    keys_alone p = rw (p, lt-ltb k n h)

    module _ (r : Refusal) (b : Bool) (p : j ≡ Err r) (e : b ≡ Decides r.kind r.index k) where
      both_refuse : Keyed ≡ cond b (refuse r.kind r.index) (refuse key_too_long k)
      unfolding earlier test
      both_refuse = rw (p, lt-ltb k n h, e)

      pub keys_after : b ≡ true → refuse r.kind r.index ≡ Keyed
      keys_after t = sym (both_refuse ∙ ap (λ x. cond x (refuse r.kind r.index) (refuse key_too_long k)) t)

      pub keys_before : b ≡ false → refuse key_too_long k ≡ Keyed
      keys_before t = sym (both_refuse ∙ ap (λ x. cond x (refuse r.kind r.index) (refuse key_too_long k)) t)

-- there are as many updates as bytes
module _ (bs rows : List ℕ) where
  -- the first key that is too long, of n updates
  abbrev LongBy : ℕ → ℕ
  LongBy n = cond (eqb (length rows) (n * width)) (first_met (long_in (stores_of bs) rows)) n

  pub keys_told : (v w : Verdict) (k : ℕ) → v ≡ w → k ≡ LongBy (length bs)
      → earlier before_keys v (test (ltb k (length bs)) key_too_long k) ≡ earlier before_keys w (keys_in (stores_of bs) rows)
  keys_told v w k p q =
      (λ i. earlier before_keys (p i) (test (ltb (q i) (length bs)) key_too_long (q i)))
      ∙ ap (λ n. earlier before_keys w (test (ltb (LongBy n) n) key_too_long (LongBy n))) (sym (length_stores_of bs))

-- ---- what an offer leaves
module _ (m : Memory) (o : Offer) where
  pub leaves_refused : (n : Kind) (i : ℕ) → refusal (read m) (offer o) ≡ refuse n i
      → record { answer = refused n i; slot_marks = m.slot_marks; batch = m.batch; tallies = m.tallies; carried = m.carried; placed = o.placed } ≡ offer_leaves m o
  unfolding offer_leaves answer memory_after
  leaves_refused n i e = rw e

  pub leaves_as : (r : Refusal) (n : Kind) → r ≡ refusal_at n 0 → refusal (read m) (offer o) ≡ refuse n 0
      → record { answer = refused r.kind r.index; slot_marks = m.slot_marks; batch = m.batch; tallies = m.tallies; carried = m.carried; placed = o.placed } ≡ offer_leaves m o
  leaves_as r n p e =
      (λ i. record { answer = refused (p i).kind (p i).index; slot_marks = m.slot_marks; batch = m.batch; tallies = m.tallies; carried = m.carried; placed = o.placed }) ∙ leaves_refused n 0 e

  pub leaves_verdict : (j : Result ⊤ Refusal) (r : Refusal) → j ≡ Err r → refusal (read m) (offer o) ≡ judged_verdict j
      → record { answer = refused r.kind r.index; slot_marks = m.slot_marks; batch = m.batch; tallies = m.tallies; carried = m.carried; placed = o.placed } ≡ offer_leaves m o
  leaves_verdict j r p e = leaves_refused r.kind r.index (e ∙ ap judged_verdict p)

  abbrev NewLocations : List ℕ
  NewLocations = taken_by (read m) (updates_in o)

  leaves_granted : refusal (read m) (offer o) ≡ ok → record {
    answer = granted (placed NewLocations);
    slot_marks = (take_slots m.slots (slots_of m) NewLocations).marks;
    batch = kept_words m.batch o.ids NewLocations;
    tallies = (take_slots m.slots (slots_of m) NewLocations).words;
    carried = offered_column m.ids o m.carried;
    placed = over NewLocations o.placed;
  } ≡ offer_leaves m o
  unfolding offer_leaves answer memory_after memory_effect grant
  leaves_granted e = rw e

  -- ---- refusal 1
  abbrev lists_long : Bool
  lists_long = as_long o.ids o.stores && as_long o.ids o.lengths && as_long o.ids o.placed && carries_for o.ids o.carried

  abbrev FitBy : ℕ → Bool
  FitBy n = offer_fits m.ids m.slots (length m.id_marks) (length m.locations) (length m.slot_marks) (length m.owners) (length m.batch) (length m.tallies)
      (length m.carried) (length o.ids) n (length o.lengths) (length o.carried) (length o.placed)

  abbrev Fit : Bool
  Fit = FitBy (length o.stores)

  -- the chain of tests, the first of them on lengths
  chain : refusal (read m) (offer o)
      ≡ (test (not Fit) wrong_shape 0 ⨾ test (ltb 0 (get_or m.batch 0 0)) batch_open 0 ⨾ test (ltb most_updates (length o.ids)) too_many 0 ⨾
      with_offered_keys o (updates (read m) [] 0 (updates_in o)) ⨾ room (read m).slots (read m).slot_marks (updates_in o) slabs 0)
  unfolding offer_fits refusal refusal_of read
  chain =
      (λ i. shape_read (offer o) m i ⨾ test (not lists_long) wrong_shape 0 ⨾ rest)
      ∙ tests_join (fits every_table m) lists_long wrong_shape 0 rest
    where
      rest : Verdict
      rest = test (ltb 0 (get_or m.batch 0 0)) batch_open 0 ⨾ test (ltb most_updates (length o.ids)) too_many 0 ⨾
          with_offered_keys o (updates (read m) [] 0 (updates_in o)) ⨾ room (read m).slots (read m).slot_marks (updates_in o) slabs 0

  -- the test of the lengths, with that of the updates' bytes, and whether it was passed
  pub fits_told : (f : Bool) {n : ℕ} → n ≡ length o.stores → f ≡ FitBy n → not f ≡ false → Fit ≡ true
  fits_told f p e h = sym (e ∙ ap FitBy p) ∙ not-false f h

  pub fits_failed : (f : Bool) {n : ℕ} → n ≡ length o.stores → f ≡ FitBy n → not f ≡ true → Fit ≡ false
  fits_failed f p e h = sym (e ∙ ap FitBy p) ∙ not-true f h

  pub refused_shape : Fit ≡ false → refusal (read m) (offer o) ≡ refuse wrong_shape 0
  unfolding test ◌⨾◌
  refused_shape e = chain ∙ rw e

  -- ---- what a shape that fits says
  pub record Shaped : Type 0 where
    pub fit : fits every_table m ≡ true
    pub stores : length o.stores ≡ length o.ids
    pub lengths : length o.lengths ≡ length o.ids
    pub list : length o.placed ≡ length o.ids
    pub rows : length o.carried ≡ length o.ids * width

  pub shaped : Fit ≡ true → Shaped
  unfolding offer_fits
  shaped e =
      let a = and_true (fits every_table m) lists_long e in
      let w = and_true _ (carries_for o.ids o.carried) a.1 in
      let b = and_true _ (as_long o.ids o.placed) w.0 in
      let d = and_true (as_long o.ids o.stores) (as_long o.ids o.lengths) b.0 in
      record { fit = a.0; stores = eqb-true _ _ d.0; lengths = eqb-true _ _ d.1; list = eqb-true _ _ b.1; rows = eqb-true _ _ w.1 }

  -- the column with the rows that were offered, of n updates
  abbrev KeptRows : ℕ → List ℕ
  KeptRows n = put_rows width (up_from m.ids n) (normal_rows o.stores o.carried) m.carried

  abbrev pub Keeps : ℕ → List ℕ → Type 0
  Keeps n t = t ≡ cond (eqb (length o.carried) (n * width)) (KeptRows n) m.carried

  rows_many : Fit ≡ true → length o.carried ≡ length o.stores * width
  rows_many e = let s = shaped e in s.rows ∙ ap (λ n. n * width) (sym s.stores)

  column : Fit ≡ true → {n : ℕ} → n ≡ length o.stores → (t : List ℕ) → Keeps n t → t ≡ offered_column m.ids o m.carried
  unfolding offered_column
  column e q t p =
      p ∙ ap (λ n. cond (eqb (length o.carried) (n * width)) (KeptRows n) m.carried) q
      ∙ ap (λ b. cond b (KeptRows (length o.stores)) m.carried) (eq-eqb _ _ (rows_many e))
      ∙ ap KeptRows (shaped e).stores

  good : Fit ≡ true → bad_slots m.slots ≡ false
  good e = (fits_range every_table m (shaped e).fit).slots_good

  -- the slab of each update is in front of a longer list
  kinds_many : Fit ≡ true → length (kinds_of o.stores o.lengths) ≡ length o.ids
  kinds_many e = let s = shaped e in length_kinds_of o.stores o.lengths (s.lengths ∙ sym s.stores) ∙ s.stores

  pub kinds_told : Fit ≡ true → length o.ids ≤ most_updates → (r : List ℕ) → r ≡ sets no_kinds 0 (kinds_of o.stores o.lengths) → take (length o.ids) r ≡ kinds_of o.stores o.lengths
  kinds_told e few r k = ap (take (length o.ids)) k ∙ kinds_front (kinds_of o.stores o.lengths) (length o.ids) (kinds_many e) few

  pub kinds_long : Fit ≡ true → length o.ids ≤ most_updates → (r : List ℕ) → r ≡ sets no_kinds 0 (kinds_of o.stores o.lengths) → length (take (length o.ids) r) ≡ length o.ids
  kinds_long e few r k = ap length (kinds_told e few r k) ∙ kinds_many e

  -- ---- the other refusals
  pub refused_open : Fit ≡ true → (get_or m.batch (0 + 0) 0 ≡ 0 → ⊥) → refusal (read m) (offer o) ≡ refuse batch_open 0
  unfolding test ◌⨾◌
  refused_open e z = let w : ltb 0 (get_or m.batch 0 0) ≡ true = lt-ltb 0 (get_or m.batch 0 0) (omega (arith, z)) in chain ∙ rw (e, w)

  pub refused_many : Fit ≡ true → get_or m.batch (0 + 0) 0 ≡ 0 → most_updates < length o.ids → refusal (read m) (offer o) ≡ refuse too_many 0
  unfolding test ◌⨾◌
  refused_many e z h = let w : ltb 0 (get_or m.batch 0 0) ≡ false = le-ltb 0 (get_or m.batch 0 0) (omega (arith, z)) in chain ∙ rw (e, w, lt-ltb most_updates (length o.ids) h)

  module _ (e : Fit ≡ true) (z : get_or m.batch (0 + 0) 0 ≡ 0) (few : length o.ids ≤ most_updates) where
    fit : Fits m.slots (slots_of m)
    fit = slots_fit every_table m (shaped e).fit refl refl

    pub refused_rest : refusal (read m) (offer o)
        ≡ (earlier before_keys (check_in m [] 0 o.ids (kinds_of o.stores o.lengths)) (keys_in o.stores o.carried) ⨾
        room_in m.slots m.slot_marks m.tallies (tallied none_asked (kinds_of o.stores o.lengths)) slabs 0)
    unfolding test ◌⨾◌ read
    refused_rest =
        let s = shaped e in
        let w : ltb 0 (get_or m.batch 0 0) ≡ false = le-ltb 0 (get_or m.batch 0 0) (omega (arith, z)) in
        let u = sym (check_read m (good e) (fits_slot_marks every_table m s.fit) [] 0 o.ids o.stores o.lengths) in
        let r = sym (room_read m.slots (slots_of m) fit (good e) o.ids o.stores o.lengths s.stores s.lengths few slabs 0 (omega arith)) in
        let k = first_long_lem o.stores o.carried _ refl (rows_many e) in
        chain ∙ rw (e, w, le-ltb most_updates (length o.ids) few) (λ i. earlier before_keys (u i) (k i) ⨾ r i)

    module _ (ks : List ℕ) (κ : ks ≡ kinds_of o.stores o.lengths) where
      pub rest_told : (v : Verdict)
          → v ≡ (earlier before_keys (check_in (unkept m) [] 0 o.ids ks) (keys_in o.stores o.carried) ⨾
          room_in m.slots m.slot_marks m.tallies (tallied none_asked ks) slabs 0)
          → refusal (read m) (offer o) ≡ v
      rest_told v p =
          let u : check_in m [] 0 o.ids (kinds_of o.stores o.lengths) ≡ check_in (unkept m) [] 0 o.ids ks =
          ap (check_in m [] 0 o.ids) (sym κ) ∙ sym (check_lent m [] 0 o.ids ks) in
          refused_rest
          ∙ (λ i. earlier before_keys (u i) (keys_in o.stores o.carried) ⨾ room_in m.slots m.slot_marks m.tallies (tallied none_asked (sym κ i)) slabs 0) ∙ sym p

      pub leaves_done : (ls marks words b t : List ℕ) → refusal (read m) (offer o) ≡ ok → ls ≡ sets o.placed 0 (place_in m.slots (slots_of m) ks)
          → slots_in marks words ≡ take_slots m.slots (slots_of m) (place_in m.slots (slots_of m) ks) → b ≡ set (sets (sets m.batch kept_ids_at o.ids) kept_locations_at ls) 0 (length o.ids + 1)
          → {n : ℕ} → n ≡ length o.stores → Keeps n t
          → record { answer = granted (placed ls); slot_marks = marks; batch = b; tallies = words; carried = t; placed = ls } ≡ offer_leaves m o
      unfolding read
      leaves_done ls marks words b c g p q k y h =
          let s = shaped e in
          let r : place_in m.slots (slots_of m) ks ≡ NewLocations =
          ap (place_in m.slots (slots_of m)) κ ∙ place_read m.slots (good e) o.ids o.stores o.lengths (slots_of m) fit s.stores s.lengths in
          let w : slots_in marks words ≡ take_slots m.slots (slots_of m) NewLocations = q ∙ ap (take_slots m.slots (slots_of m)) r in
          let l : length NewLocations ≡ length o.placed = length_place m.slots (read m).slot_marks (updates_in o) ∙ length_updates_of o.ids o.stores o.lengths s.stores s.lengths ∙ sym s.list in
          let t : ls ≡ NewLocations = p ∙ ap (sets o.placed 0) r ∙ sets_whole o.placed NewLocations l in
          let v : NewLocations ≡ over NewLocations o.placed = sym (ap (λ n. NewLocations ++ drop n o.placed) l ∙ ap (λ x. NewLocations ++ x) (drop-length o.placed) ∙ append-nil NewLocations) in
          (λ i. record {
            answer = granted (placed (t i));
            slot_marks = ap (λ (x : Slots). x.marks) w i;
            batch = (k ∙ (λ j. set (sets (sets m.batch kept_ids_at o.ids) kept_locations_at ls) 0 (add-one (length o.ids) j)) ∙ ap (kept_words m.batch o.ids) t) i;
            tallies = ap (λ (x : Slots). x.words) w i;
            carried = column e y c h i;
            placed = (t ∙ v) i;
          }) ∙ leaves_granted g
