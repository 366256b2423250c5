-- What is read after an offer: each slot taken is the least free one of its slab as it is read, and the kept batch is read back as it was
-- written. Assumes nothing.
use mathlib.Core.Path.{ap, ◌∙◌, ◌≡◌, subst, sym, refl}
use mathlib.Core.Logic.{◌⊎◌, ◌≢◌, inr, inl}
use mathlib.Core.Bool.{true, cond, Bool, false}
use mathlib.Core.List.{List, [], ◌∷◌, ◌++◌, map}
use Prim.Native.Nat.{◌-◌, ℕ, ◌<◌, ◌/◌, suc, ◌%◌, ◌*◌, ◌+◌, ◌≤◌, zero}
use native.Mathlib.Nat.{not-suc-le-zero, add-zero, le_of_suc-le-suc}
use native.Mathlib.Decide.{dec_lt}
use native.Mathlib.Omega.{arith}
use lib.Dec.{ltb}
use lib.ListN.{set, length, take, get_or, length-set, drop, length-append, length-drop, get_or-append, length-take, get_or-eq_default, length-map}
use lib.Seq.{sets, get_or-set_other, get_or-set_same, ext_get_or, get_or-drop, get_or-append-add, length-sets, get_or-take}
use borrow.Author.Tests.{ltb-true}
use Rattle.list_parts.specs.Parts.{part}
use Rattle.list_parts.proofs.Parts.{length_part}
use Rattle.sizes.specs.Sizes.{slab_for}
use Rattle.address.specs.Address.{is_location, unit, packing, slabs}
use Rattle.id_allocator.specs.Counted.{counted}
use Rattle.marks.specs.Marks.{first_free}
use Rattle.model.specs.Batches.{spot, spot_for, place, id_of, taken_by, after_offer}
use Rattle.model.specs.Memory.{read, tallies_of, word_at, granted_words, put_word, used_words, batch_of, Memory}
use Rattle.model.specs.MemoryAfter.{Slots, take_slot, took_slot, take_slots, kept_words, slots_of, memory_offer}
use Rattle.model.specs.Store.{Update, put, free, tallies_from, Tallies, batch_from, store_of}
use Rattle.model.specs.Tables.{write, write_all, bump_each, bump, use_each}
use Rattle.model.proofs.Batches.{length_place}
use Rattle.model.proofs.Slabs.{length_counted_slabs}
use Rattle.model.proofs.Steps.{Stepped, slots_read, still, Fits, took_read, fits_on}
use Rattle.model.proofs.Locations.{is_location_says}
use Rattle.model.proofs.Spots.{spot_is, Spot}
use Rattle.model.proofs.Words.{tallies_hint, tallies_used, tallies_grant}
use Rattle.model.proofs.ReadSteps.{guarded, at_location, stepped_trans}

-- ---- slots

-- a spot is 0, or a location whose slot is the first free one of its slab
pub record Least (cap : ℕ) (t : List ℕ) (l : ℕ) : Type 0 where
  pub range : is_location cap l ≡ true
  pub least : (k : ℕ) → l / unit ≡ suc k → l % unit ≡ first_free (part cap t k)

spot_least : (cap : ℕ) (t : List ℕ) (k : ℕ) → cap ≤ 65536 → length t ≡ slabs * cap → (spot cap t k ≡ 0) ⊎ Least cap t (spot cap t k)
spot_least cap t k c len = go (ltb j (length (part cap t k))) refl (spot_is cap t k c len)
  where
    j : ℕ
    j = first_free (part cap t k)

    go : (b : Bool) → ltb j (length (part cap t k)) ≡ b → (cond b (packing k j) 0 ≢ 0 → Spot cap t (cond b (packing k j) 0))
        → (cond b (packing k j) 0 ≡ 0) ⊎ Least cap t (cond b (packing k j) 0)
    go true e f =
        let j_lt : j < cap = omega (arith, ltb-true j (length (part cap t k)) e, length_part cap t k) in
        inr (record {
          range = (f (omega arith)).range;
          least = λ i q.
              let same : k ≡ i = omega arith in
              let r : packing k j % unit ≡ j = omega arith in
              r ∙ ap (λ x. first_free (part cap t x)) same;
        })
    go false e f = inl refl

spot_for_least : (cap : ℕ) (t : List ℕ) (u : Update) → cap ≤ 65536 → length t ≡ slabs * cap → (spot_for cap t u ≡ 0) ⊎ Least cap t (spot_for cap t u)
spot_for_least cap t (put i n) c len = spot_least cap t (slab_for n) c len
spot_for_least cap t (free i) c len = inl refl

read_long : (cap : ℕ) (s : Slots) → Fits cap s → length (slots_read cap s) ≡ slabs * cap
read_long cap s f = length_counted_slabs cap s.words slabs 0 s.marks ∙ f.marks_long

take_one : (cap : ℕ) (s : Slots) (l : ℕ) → Fits cap s → (l ≡ 0) ⊎ Least cap (slots_read cap s) l → Stepped cap s (take_slot cap s l) (write cap l 1 (slots_read cap s))
take_one cap s l f (inl e) = subst (λ x. Stepped cap s (take_slot cap s x) (write cap x 1 (slots_read cap s))) (sym e) (still cap s)
take_one cap s l f (inr q) = guarded cap s l 1 (took_slot cap s) (λ e. at_location cap s l 1 (took_slot cap s) e
    (λ k h a j. took_read cap s k (l % unit) f h j (q.least k a)))

take_all : (cap : ℕ) (us : List Update) (s : Slots) → Fits cap s
    → Stepped cap s (take_slots cap s (place cap (slots_read cap s) us)) (write_all cap (place cap (slots_read cap s) us) 1 (slots_read cap s))
take_all cap [] s f = still cap s
take_all cap (u ∷ us) s f =
    let l = spot_for cap (slots_read cap s) u in
    let e = take_one cap s l f (spot_for_least cap (slots_read cap s) u f.high (read_long cap s f)) in
    let r = take_all cap us (take_slot cap s l) (fits_on f e) in
    stepped_trans e (subst (λ x. Stepped cap (take_slot cap s l) (take_slots cap (take_slot cap s l) (place cap x us))
    (write_all cap (place cap x us) 1 x)) e.slots_read_lem r)

-- ---- tallies

took_tallies : (cap : ℕ) (s : Slots) (ls : List ℕ) → tallies_of (take_slots cap s ls).words ≡ tallies_from
    (bump_each cap (tallies_of s.words).granted ls) (tallies_of s.words).freed (use_each cap (tallies_of s.words).used ls) (tallies_of s.words).high
took_tallies cap s [] = refl
took_tallies cap s (l ∷ ls) =
    took_tallies cap (take_slot cap s l) ls
    ∙ ap (λ (t : Tallies). tallies_from (bump_each cap t.granted ls) t.freed (use_each cap t.used ls) t.high) (go (is_location cap l) refl)
  where
    g : List ℕ
    g = s.words

    go : (b : Bool) → is_location cap l ≡ b → tallies_of (cond b (took_slot cap s (l / unit) (l % unit)) s).words ≡ tallies_from
        (cond b (bump (tallies_of g).granted (l / unit) 1) (tallies_of g).granted) (tallies_of g).freed
        (cond b (set (tallies_of g).used (l / unit) 1) (tallies_of g).used) (tallies_of g).high
    go true e =
        let h : l / unit < 79 = omega (arith, (is_location_says cap l e).high) in
        let g₁ = bump g (word_at granted_words (l / unit)) 1 in
        tallies_hint (put_word g₁ used_words (l / unit) 1) (l / unit) (l % unit + 1) h ∙ tallies_used g₁ (l / unit) 1 h
        ∙ ap (λ (t : Tallies). tallies_from t.granted t.freed (set t.used (l / unit) 1) t.high) (tallies_grant g (l / unit) 1 h)
    go false e = refl

-- ---- the kept batch

get_d_sets_below : (vs l : List ℕ) (i p : ℕ) → p < i → get_or (sets l i vs) p 0 ≡ get_or l p 0
get_d_sets_below [] l i p h = refl
get_d_sets_below (a ∷ vs) l i p h = get_d_sets_below vs (set l i a) (suc i) p (omega arith) ∙ get_or-set_other l i p a 0 (omega arith)

get_d_sets_in : (vs l : List ℕ) (i j : ℕ) → j < length vs → i + length vs ≤ length l → get_or (sets l i vs) (i + j) 0 ≡ get_or vs j 0
get_d_sets_in [] l i j h b = absurd (not-suc-le-zero h)
get_d_sets_in (a ∷ vs) l i zero h b =
    rw (add-zero i) (get_d_sets_below vs (set l i a) (suc i) i (omega arith) ∙ get_or-set_same l i a 0 (omega arith))
get_d_sets_in (a ∷ vs) l i (suc j) h b =
    let e : i + suc j ≡ suc i + j = omega arith in
    rw e (get_d_sets_in vs (set l i a) (suc i) j (le_of_suc-le-suc h) (rw length-set (omega arith)))

get_d_sets_above : (vs l : List ℕ) (i p : ℕ) → i + length vs ≤ p → get_or (sets l i vs) p 0 ≡ get_or l p 0
get_d_sets_above [] l i p h = refl
get_d_sets_above (a ∷ vs) l i p h = get_d_sets_above vs (set l i a) (suc i) p (omega arith) ∙ get_or-set_other l i p a 0 (omega arith)

-- a list that holds xs in front, and then what t holds
front : (xs t u : List ℕ) → length u ≡ length t → length xs ≤ length t → ((p : ℕ) → p < length xs → get_or u p 0 ≡ get_or xs p 0)
    → ((p : ℕ) → length xs ≤ p → get_or u p 0 ≡ get_or t p 0) → u ≡ xs ++ drop (length xs) t
front xs t u l b low high = ext_get_or 0 u _ (simp (length-append, length-drop) (omega arith)) (λ p h. go p (dec_lt p (length xs)))
  where
    go : (p : ℕ) → Dec (p < length xs) → get_or u p 0 ≡ get_or (xs ++ drop (length xs) t) p 0
    go p (yes q) = low p q ∙ sym (get_or-append xs (drop (length xs) t) 0 p q)
    go p (no q) =
        let e : length xs + (p - length xs) ≡ p = omega arith in
        high p (omega arith) ∙ ap (λ x. get_or t x 0) (sym e) ∙ sym (get_or-drop (length xs) t (p - length xs) 0)
        ∙ sym (get_or-append-add xs (drop (length xs) t) (p - length xs) 0) ∙ ap (λ x. get_or (xs ++ drop (length xs) t) x 0) e

module _ (b is ls : List ℕ) (lb : length b ≡ 513) (few : length is ≤ 256) (many : length ls ≡ length is) where
  abbrev x : List ℕ
  x = sets (sets b 1 is) 257 ls

  x_long : length x ≡ 513
  x_long = simp length-sets lb

  kept_ids : take 256 (drop 1 (kept_words b is ls)) ≡ is ++ drop (length is) (take 256 (drop 1 b))
  kept_ids = front is (take 256 (drop 1 b)) (take 256 (drop 1 (kept_words b is ls)))
      (simp (length-take, length-drop, length-set, length-sets)) (simp (length-take, length-drop, lb) (omega arith))
      (λ p h. first p (omega arith) ∙ get_d_sets_below ls (sets b 1 is) 257 (1 + p) (omega arith) ∙ get_d_sets_in is b 1 p h (omega arith))
      (λ p h. go p h (dec_lt p 256))
    where
      first : (p : ℕ) → p < 256 → get_or (take 256 (drop 1 (kept_words b is ls))) p 0 ≡ get_or x (1 + p) 0
      first p h = get_or-take 256 (drop 1 (kept_words b is ls)) p 0 h ∙ get_or-drop 1 (kept_words b is ls) p 0 ∙ get_or-set_other x 0 (1 + p) (suc (length is)) 0 (omega arith)

      go : (p : ℕ) → length is ≤ p → Dec (p < 256) → get_or (take 256 (drop 1 (kept_words b is ls))) p 0 ≡ get_or (take 256 (drop 1 b)) p 0
      go p h (yes q) = first p q ∙ get_d_sets_below ls (sets b 1 is) 257 (1 + p) (omega arith) ∙ get_d_sets_above is b 1 (1 + p) (omega arith)
          ∙ sym (get_or-take 256 (drop 1 b) p 0 q ∙ get_or-drop 1 b p 0)
      go p h (no q) =
          get_or-eq_default (take 256 (drop 1 (kept_words b is ls))) 0 (simp (length-take) (omega arith))
          ∙ sym (get_or-eq_default (take 256 (drop 1 b)) 0 (simp (length-take) (omega arith)))

  kept_locations : drop 257 (kept_words b is ls) ≡ ls ++ drop (length ls) (drop 257 b)
  kept_locations = front ls (drop 257 b) (drop 257 (kept_words b is ls)) (simp (length-drop, length-set, length-sets)) (simp (length-drop, lb) (omega arith))
      (λ p h. past p ∙ get_d_sets_in ls (sets b 1 is) 257 p h (simp (length-sets, lb) (omega arith)))
      (λ p h. past p ∙ get_d_sets_above ls (sets b 1 is) 257 (257 + p) (omega arith) ∙ get_d_sets_above is b 1 (257 + p) (omega arith) ∙ sym (get_or-drop 257 b p 0))
    where
      past : (p : ℕ) → get_or (drop 257 (kept_words b is ls)) p 0 ≡ get_or x (257 + p) 0
      past p = get_or-drop 257 (kept_words b is ls) p 0 ∙ get_or-set_other x 0 (257 + p) (suc (length is)) 0 (omega arith)

  pub batch_kept : batch_of (kept_words b is ls) ≡ batch_from (suc (length is)) (is ++ drop (length is) (batch_of b).kept_ids)
      (ls ++ drop (length is) (batch_of b).kept_locations)
  batch_kept = λ i. batch_from (get_or-set_same x 0 (suc (length is)) 0 (rw x_long (omega arith)) i) (kept_ids i)
      ((kept_locations ∙ ap (λ n. ls ++ drop n (drop 257 b)) many) i)

-- ---- the whole

pub read_offer : (m : Memory) (is : List ℕ) (us : List Update) → Fits m.slots (slots_of m) → length m.batch ≡ 513 → length is ≤ 256
    → map id_of us ≡ is → read (memory_offer m is (taken_by (read m) us)) ≡ after_offer (read m) us
unfolding read
read_offer m is us f lb few e =
    let ls = taken_by (read m) us in
    let q = take_all m.slots us (slots_of m) f in
    let n : length us ≡ length is = sym (length-map us id_of) ∙ ap length e in
    let e' = sym e in
    let n' = sym n in
    let many : length ls ≡ length is = length_place m.slots (read m).slot_marks us ∙ n in
    λ i. store_of m.ids m.slots (counted (q.ids_hint i) (q.ids_waiting i) m.id_marks) m.locations (q.slots_read_lem i) m.owners
    ((batch_kept m.batch is ls lb few many ∙ λ j. batch_from (suc (n' j)) (e' j ++ drop (n' j) (take 256 (drop 1 m.batch)))
    (ls ++ drop (n' j) (drop 257 m.batch))) i) (took_tallies m.slots (slots_of m) ls i) m.carried
