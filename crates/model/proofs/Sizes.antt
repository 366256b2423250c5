-- That the tables have their lengths: one record, for the tables that are lent. A granted call has it (Granted), a test of lengths tells it
-- (sizes_read), and of a memory it says how long the lent words are. Assumes nothing.
use mathlib.Core.Path.{◌≡◌, refl, ap, ◌∙◌}
use mathlib.Core.Bool.{Bool, true, false, not, ◌&&◌}
use mathlib.Core.List.{List}
use Prim.Native.Nat.{ℕ, zero, suc, ◌≤◌, ◌*◌, max}
use native.Mathlib.Omega.{arith}
use lib.Dec.{ltb, eqb}
use lib.ListN.{length, get_or, drop, length-drop, length-set}
use lib.Seq.{length-take-le}
use borrow.Author.Tests.{not-true, ltb-false, eqb-true, eq-eqb}
use Rattle.refusal.specs.Refusals.{wrong_shape}
use Rattle.refusal.proofs.Tests.{and_true, or_false, both_ways, all}
use Rattle.list_parts.specs.Parts.{part}
use Rattle.list_parts.proofs.Parts.{length_part}
use Rattle.address.specs.Address.{bad_slots, slabs}
use Rattle.address.proofs.Laws.{slots_range}
use Rattle.marks.specs.Marks.{last_taken, tip_of}
use Rattle.marks.proofs.LawsCount.{last_taken_le}
use Rattle.id_allocator.proofs.LawsCounted.{counted_length}
use Rattle.model.specs.Lending.{Lending, every_table, if_lent, lent_fit, lending_of, sized}
use Rattle.model.specs.Lent.{lengths_fit, fits}
use Rattle.model.specs.Memory.{Memory, read, get_word, hint_words, waiting_words, kept_ids_at, kept_locations_at, batch_words, high_words, tally_words}
use Rattle.model.specs.Store.{Store, Call}
use Rattle.model.specs.Tables.{most_updates, allocators, bad_ids, capacities, id_marks_fit, locations_fit, slot_marks_fit, owners_fit, batch_fits, tallies_fit, carried_bytes, carried_fits, slab_tip}
use Rattle.model.specs.Tests.{shape}
use Rattle.model.specs.Truncation.{raise}
use Rattle.model.specs.Verdict.{ok, test}
use Rattle.model.proofs.Slabs.{length_counted_slabs}

-- ---- capacities

pub record Ranges (ids slots : ℕ) : Type 0 where
  pub ids_from : 2 ≤ ids
  pub ids_to : ids ≤ 65536
  pub slots_from : 1 ≤ slots
  pub slots_to : slots ≤ 65536
  pub slots_good : bad_slots slots ≡ false

pub capacities_range : (ids slots : ℕ) → capacities ids slots ≡ true → Ranges ids slots
unfolding bad_ids
capacities_range ids slots e =
    let b = and_true (not (bad_ids ids)) (not (bad_slots slots)) e in
    let i = or_false (ltb ids 2) (ltb 65536 ids) (not-true _ b.0) in
    let s = slots_range slots (not-true _ b.1) in
    record { ids_from = ltb-false _ _ i.0; ids_to = ltb-false _ _ i.1; slots_from = s.0; slots_to = s.1; slots_good = not-true _ b.1 }

-- ---- the record

-- what is known of a table where it is lent
abbrev pub When : Bool → Type 0 → Type 0
When true A = A
When false A = Unit

pub record Sizes (l : Lending) (s : Store) : Type 0 where
  pub caps : capacities s.ids s.slots ≡ true
  pub range : Ranges s.ids s.slots
  pub id_marks : When l.id_marks (length s.id_marks ≡ s.ids)
  pub locations : When l.locations (length s.locations ≡ s.ids)
  pub slot_marks : When l.slot_marks (length s.slot_marks ≡ slabs * s.slots)
  pub owners : When l.owners (length s.owners ≡ slabs * s.slots)
  pub kept_ids : When l.batch (length s.batch.kept_ids ≡ most_updates)
  pub kept_locations : When l.batch (length s.batch.kept_locations ≡ most_updates)
  pub granted : When l.tallies (length s.tallies.granted ≡ allocators)
  pub freed : When l.tallies (length s.tallies.freed ≡ allocators)
  pub used : When l.tallies (length s.tallies.used ≡ allocators)
  pub high : When l.tallies (length s.tallies.high ≡ slabs)
  pub carried : When l.carried (length s.carried ≡ carried_bytes s.ids)

-- the lists of a batch, and of the tallies
batch_says : (s : Store) → batch_fits s ≡ true → (length s.batch.kept_ids ≡ most_updates) × (length s.batch.kept_locations ≡ most_updates)
batch_says s e =
    let a = and_true (eqb (length s.batch.kept_ids) most_updates) (eqb (length s.batch.kept_locations) most_updates) e in
    (eqb-true _ _ a.0, eqb-true _ _ a.1)

tallies_say : (s : Store) → tallies_fit s ≡ true
    → (length s.tallies.granted ≡ allocators) × (length s.tallies.freed ≡ allocators)
    × (length s.tallies.used ≡ allocators) × (length s.tallies.high ≡ slabs)
tallies_say s e =
    let g = eqb (length s.tallies.granted) allocators in
    let f = eqb (length s.tallies.freed) allocators in
    let u = eqb (length s.tallies.used) allocators in
    let a = and_true (g && f && u) (eqb (length s.tallies.high) slabs) e in
    let b = and_true (g && f) u a.0 in
    let c = and_true g f b.0 in
    (eqb-true _ _ c.0, eqb-true _ _ c.1, eqb-true _ _ b.1, eqb-true _ _ a.1)

when : (lent fit : Bool) {A : Type 0} → if_lent lent fit ≡ true → (fit ≡ true → A) → When lent A
when true fit e f = f e
when false fit e f = tt

pub sizes : (l : Lending) (s : Store) → capacities s.ids s.slots ≡ true → lent_fit l s ≡ true → Sizes l s
unfolding lent_fit
sizes l s c e =
    let t = and_true _ (if_lent l.tallies (tallies_fit s)) e in
    let k = and_true _ (if_lent l.carried (carried_fits s)) t.0 in
    let b = and_true _ (if_lent l.batch (batch_fits s)) k.0 in
    let o = and_true _ (if_lent l.owners (owners_fit s)) b.0 in
    let m = and_true _ (if_lent l.slot_marks (slot_marks_fit s)) o.0 in
    let i = and_true (if_lent l.id_marks (id_marks_fit s)) (if_lent l.locations (locations_fit s)) m.0 in
    record {
      caps = c;
      range = capacities_range s.ids s.slots c;
      id_marks = when l.id_marks (id_marks_fit s) i.0 (λ h. eqb-true _ _ h);
      locations = when l.locations (locations_fit s) i.1 (λ h. eqb-true _ _ h);
      slot_marks = when l.slot_marks (slot_marks_fit s) m.1 (λ h. eqb-true _ _ h);
      owners = when l.owners (owners_fit s) o.1 (λ h. eqb-true _ _ h);
      kept_ids = when l.batch (batch_fits s) b.1 (λ h. (batch_says s h).0);
      kept_locations = when l.batch (batch_fits s) b.1 (λ h. (batch_says s h).1);
      granted = when l.tallies (tallies_fit s) t.1 (λ h. (tallies_say s h).0);
      freed = when l.tallies (tallies_fit s) t.1 (λ h. (tallies_say s h).1);
      used = when l.tallies (tallies_fit s) t.1 (λ h. (tallies_say s h).2);
      high = when l.tallies (tallies_fit s) t.1 (λ h. (tallies_say s h).3);
      carried = when l.carried (carried_fits s) k.1 (λ h. eqb-true _ _ h);
    }

pub sized_sizes : (s : Store) → sized s ≡ true → Sizes every_table s
unfolding sized
sized_sizes s e = let a = and_true (capacities s.ids s.slots) (lent_fit every_table s) e in sizes every_table s a.0 a.1

-- ---- a store whose seven tables fit refuses no call with 1 for its tables

asked : (lent fit : Bool) → fit ≡ true → if_lent lent fit ≡ true
asked true fit e = e
asked false fit e = refl

lent_fit_any : (s : Store) → lent_fit every_table s ≡ true → (l : Lending) → lent_fit l s ≡ true
unfolding lent_fit
lent_fit_any s e l =
    let t = and_true _ (tallies_fit s) e in
    let k = and_true _ (carried_fits s) t.0 in
    let b = and_true _ (batch_fits s) k.0 in
    let o = and_true _ (owners_fit s) b.0 in
    let m = and_true _ (slot_marks_fit s) o.0 in
    let i = and_true (id_marks_fit s) (locations_fit s) m.0 in
    all (all (all (all (all (all (asked l.id_marks _ i.0) (asked l.locations _ i.1)) (asked l.slot_marks _ m.1)) (asked l.owners _ o.1))
    (asked l.batch _ b.1)) (asked l.carried _ k.1)) (asked l.tallies _ t.1)

pub sized_shape : (s : Store) → sized s ≡ true → (c : Call) → shape s c ≡ ok
unfolding sized test
sized_shape s e c =
    let a = and_true (capacities s.ids s.slots) (lent_fit every_table s) e in
    ap (λ b. test (not b) wrong_shape 0) (all a.0 (lent_fit_any s a.1 (lending_of c)))

-- ---- of a memory, by its words

module _ (m : Memory) where
  caps_read : capacities (read m).ids (read m).slots ≡ capacities m.ids m.slots
  unfolding read
  caps_read = refl

  id_marks_fit_read : id_marks_fit (read m) ≡ eqb (length m.id_marks) m.ids
  unfolding read
  id_marks_fit_read = ap (λ n. eqb n m.ids) (counted_length (get_word m.tallies hint_words 0) (get_word m.tallies waiting_words 0) m.id_marks)

  locations_fit_read : locations_fit (read m) ≡ eqb (length m.locations) m.ids
  unfolding read
  locations_fit_read = refl

  slot_marks_fit_read : slot_marks_fit (read m) ≡ eqb (length m.slot_marks) (slabs * m.slots)
  unfolding read
  slot_marks_fit_read = ap (λ n. eqb n (slabs * m.slots)) (length_counted_slabs m.slots m.tallies slabs 0 m.slot_marks)

  owners_fit_read : owners_fit (read m) ≡ eqb (length m.owners) (slabs * m.slots)
  unfolding read
  owners_fit_read = refl

  batch_fits_read : batch_fits (read m) ≡ eqb (length m.batch) batch_words
  unfolding read
  batch_fits_read = both_ways (batch_fits (read m)) (eqb (length m.batch) batch_words)
      (λ e.
      let h : length (drop kept_locations_at m.batch) ≡ most_updates = (batch_says (read m) e).1 in
      eq-eqb (length m.batch) batch_words (omega (arith, length-drop kept_locations_at m.batch)))
      (λ e.
      let h = eqb-true (length m.batch) batch_words e in
      all (eq-eqb _ _ (length-take-le most_updates (drop kept_ids_at m.batch) (rw (length-drop kept_ids_at m.batch) (omega arith))))
      (eq-eqb _ _ (length-drop kept_locations_at m.batch ∙ omega arith)))

  tallies_fit_read : tallies_fit (read m) ≡ eqb (length m.tallies) tally_words
  unfolding read
  tallies_fit_read = both_ways (tallies_fit (read m)) (eqb (length m.tallies) tally_words)
      (λ e.
      let h : length (drop (high_words * allocators) m.tallies) ≡ slabs = (tallies_say (read m) e).3 in
      eq-eqb (length m.tallies) tally_words (omega (arith, length-drop (high_words * allocators) m.tallies)))
      (λ e.
      let h = eqb-true (length m.tallies) tally_words e in
      let kind : (k : ℕ) → k ≤ 4 → eqb (length (part allocators m.tallies k)) allocators ≡ true =
      λ k b. eq-eqb _ _ (length-take-le allocators (drop (k * allocators) m.tallies) (rw (length-drop (k * allocators) m.tallies) (omega arith))) in
      all (all (all (kind 0 (omega arith)) (kind 1 (omega arith))) (kind 2 (omega arith)))
      (eq-eqb _ _ (length-drop (high_words * allocators) m.tallies ∙ omega arith)))

  carried_fits_read : carried_fits (read m) ≡ eqb (length m.carried) (carried_bytes m.ids)
  unfolding read
  carried_fits_read = refl

-- refusal 1 by lengths, whatever is lent
pub fits_read : (l : Lending) (m : Memory) → (capacities (read m).ids (read m).slots && lent_fit l (read m)) ≡ fits l m
unfolding lent_fit lengths_fit
fits_read l m = λ i.
    caps_read m i &&
    (if_lent l.id_marks (id_marks_fit_read m i) && if_lent l.locations (locations_fit_read m i) && if_lent l.slot_marks (slot_marks_fit_read m i) &&
    if_lent l.owners (owners_fit_read m i) && if_lent l.batch (batch_fits_read m i) && if_lent l.carried (carried_fits_read m i) &&
    if_lent l.tallies (tallies_fit_read m i))

pub shape_read : (c : Call) (m : Memory) → shape (read m) c ≡ test (not (fits (lending_of c) m)) wrong_shape 0
shape_read c m = ap (λ b. test (not b) wrong_shape 0) (fits_read (lending_of c) m)

pub sizes_read : (l : Lending) (m : Memory) → fits l m ≡ true → Sizes l (read m)
sizes_read l m e = let a = and_true (capacities (read m).ids (read m).slots) (lent_fit l (read m)) (fits_read l m ∙ e) in sizes l (read m) a.0 a.1

pub sized_read : (m : Memory) → fits every_table m ≡ true → sized (read m) ≡ true
unfolding sized
sized_read m e = fits_read every_table m ∙ e

-- ---- the lengths of the lent tables themselves

module _ (l : Lending) (m : Memory) (e : fits l m ≡ true) where
  record Tests : Type 0 where
    caps : capacities m.ids m.slots ≡ true
    id_marks : if_lent l.id_marks (eqb (length m.id_marks) m.ids) ≡ true
    locations : if_lent l.locations (eqb (length m.locations) m.ids) ≡ true
    slot_marks : if_lent l.slot_marks (eqb (length m.slot_marks) (slabs * m.slots)) ≡ true
    owners : if_lent l.owners (eqb (length m.owners) (slabs * m.slots)) ≡ true
    batch : if_lent l.batch (eqb (length m.batch) batch_words) ≡ true
    tallies : if_lent l.tallies (eqb (length m.tallies) tally_words) ≡ true
    carried : if_lent l.carried (eqb (length m.carried) (carried_bytes m.ids)) ≡ true

  tests : Tests
  unfolding lengths_fit
  tests =
      let a = and_true (capacities m.ids m.slots) _ e in
      let t = and_true _ (if_lent l.tallies _) a.1 in
      let k = and_true _ (if_lent l.carried _) t.0 in
      let b = and_true _ (if_lent l.batch _) k.0 in
      let o = and_true _ (if_lent l.owners _) b.0 in
      let s = and_true _ (if_lent l.slot_marks _) o.0 in
      let i = and_true (if_lent l.id_marks _) (if_lent l.locations _) s.0 in
      record { caps = a.0; id_marks = i.0; locations = i.1; slot_marks = s.1; owners = o.1; batch = b.1; tallies = t.1; carried = k.1 }

  pub fits_range : Ranges m.ids m.slots
  fits_range = capacities_range m.ids m.slots tests.caps

  pub fits_id_marks : When l.id_marks (length m.id_marks ≡ m.ids)
  fits_id_marks = when l.id_marks _ tests.id_marks (λ h. eqb-true _ _ h)

  pub fits_locations : When l.locations (length m.locations ≡ m.ids)
  fits_locations = when l.locations _ tests.locations (λ h. eqb-true _ _ h)

  pub fits_slot_marks : When l.slot_marks (length m.slot_marks ≡ slabs * m.slots)
  fits_slot_marks = when l.slot_marks _ tests.slot_marks (λ h. eqb-true _ _ h)

  pub fits_owners : When l.owners (length m.owners ≡ slabs * m.slots)
  fits_owners = when l.owners _ tests.owners (λ h. eqb-true _ _ h)

  pub fits_batch : When l.batch (length m.batch ≡ batch_words)
  fits_batch = when l.batch _ tests.batch (λ h. eqb-true _ _ h)

  pub fits_tallies : When l.tallies (length m.tallies ≡ tally_words)
  fits_tallies = when l.tallies _ tests.tallies (λ h. eqb-true _ _ h)

  pub fits_carried : When l.carried (length m.carried ≡ carried_bytes m.ids)
  fits_carried = when l.carried _ tests.carried (λ h. eqb-true _ _ h)

-- ---- tips and high marks

-- the tip is at most the slots, of which there is one
pub slab_tip_le : (s : Store) → 1 ≤ s.slots → (k : ℕ) → slab_tip s k ≤ s.slots
slab_tip_le s low k = go (last_taken (part s.slots s.slot_marks k)) (get_or s.tallies.used (suc k) 0)
    (last_taken_le (part s.slots s.slot_marks k)) (length_part s.slots s.slot_marks k)
  where
    go : (n u : ℕ) {m : ℕ} → n ≤ m → m ≤ s.slots → tip_of n u ≤ s.slots
    go zero zero a b = omega arith
    go zero (suc u) a b = omega arith
    go (suc n) u a b = omega arith

pub length_raise : (h : List ℕ) (k tip : ℕ) → length (raise h k tip) ≡ length h
length_raise h k zero = refl
length_raise h k (suc top) = length-set h k (max (get_or h k 0) top)
