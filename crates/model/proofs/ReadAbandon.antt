-- What is read after an abandon: each slot of the kept batch is given back, one step after the other, and the batch is shut. Assumes nothing.
use mathlib.Core.Path.{ap, ◌∙◌, ◌≡◌, subst, refl}
use mathlib.Core.Bool.{true, cond, Bool, false}
use mathlib.Core.List.{List, [], ◌∷◌}
use Prim.Native.Nat.{ℕ, ◌<◌, ◌/◌, ◌%◌}
use native.Mathlib.Omega.{arith}
use Rattle.address.specs.Address.{is_location, unit}
use Rattle.id_allocator.specs.Counted.{counted}
use Rattle.model.specs.Batches.{after_abandon}
use Rattle.model.specs.Memory.{read, tallies_of, word_at, Memory, freed_words}
use Rattle.model.specs.MemoryAfter.{Slots, slots_of, give_slot, gave_slot, give_slots, memory_abandon}
use Rattle.model.specs.Store.{tallies_from, Tallies, store_of}
use Rattle.model.specs.Tables.{write, write_all, bump_each, bump, kept, locations_of}
use Rattle.model.proofs.Steps.{Stepped, slots_read, still, Fits, fits_on, gave_read}
use Rattle.model.proofs.Locations.{is_location_says}
use Rattle.model.proofs.Words.{tallies_hint, tallies_free}
use Rattle.model.proofs.ReadSteps.{guarded, at_location, stepped_trans, batch_shut}

give_one : (cap : ℕ) (s : Slots) (l : ℕ) → Fits cap s → Stepped cap s (give_slot cap s l) (write cap l 0 (slots_read cap s))
give_one cap s l f = guarded cap s l 0 (gave_slot cap s) (λ e. at_location cap s l 0 (gave_slot cap s) e (λ k h a j. gave_read cap s k (l % unit) f h j))

give_all : (cap : ℕ) (ls : List ℕ) (s : Slots) → Fits cap s → Stepped cap s (give_slots cap s ls) (write_all cap ls 0 (slots_read cap s))
give_all cap [] s f = still cap s
give_all cap (l ∷ ls) s f =
    let e = give_one cap s l f in
    stepped_trans e (subst (λ x. Stepped cap (give_slot cap s l) (give_slots cap (give_slot cap s l) ls) (write_all cap ls 0 x)) e.slots_read_lem
    (give_all cap ls (give_slot cap s l) (fits_on f e)))

gave_tallies : (cap : ℕ) (s : Slots) (ls : List ℕ) → tallies_of (give_slots cap s ls).words ≡ tallies_from (tallies_of s.words).granted
    (bump_each cap (tallies_of s.words).freed ls) (tallies_of s.words).used (tallies_of s.words).high
gave_tallies cap s [] = refl
gave_tallies cap s (l ∷ ls) =
    gave_tallies cap (give_slot cap s l) ls
    ∙ ap (λ (t : Tallies). tallies_from t.granted (bump_each cap t.freed ls) t.used t.high) (go (is_location cap l) refl)
  where
    g : List ℕ
    g = s.words

    go : (b : Bool) → is_location cap l ≡ b → tallies_of (cond b (gave_slot cap s (l / unit) (l % unit)) s).words ≡ tallies_from
        (tallies_of g).granted (cond b (bump (tallies_of g).freed (l / unit) 1) (tallies_of g).freed) (tallies_of g).used (tallies_of g).high
    go true e =
        let h : l / unit < 79 = omega (arith, (is_location_says cap l e).high) in
        tallies_hint (bump g (word_at freed_words (l / unit)) 1) (l / unit) _ h ∙ tallies_free g (l / unit) 1 h
    go false e = refl

pub read_abandon : (m : Memory) → Fits m.slots (slots_of m) → read (memory_abandon m) ≡ after_abandon (read m)
unfolding read
read_abandon m f =
    let ls = locations_of (kept (read m)) in
    let q = give_all m.slots ls (slots_of m) f in
    λ i. store_of m.ids m.slots (counted (q.ids_hint i) (q.ids_waiting i) m.id_marks) m.locations (q.slots_read_lem i) m.owners
    (batch_shut m.batch i) (gave_tallies m.slots (slots_of m) ls i) m.carried
