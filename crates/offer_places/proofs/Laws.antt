-- Laws of the slots that are taken, a turn at a time: a slab's spot, what taking it writes, and the words that are kept. Assumes nothing.
use mathlib.Core.Bool.{Bool, true, false, cond}
use mathlib.Core.List.{List, [], ◌∷◌}
use mathlib.Core.Path.{◌≡◌, refl, sym, ap, ◌∙◌}
use Prim.Native.Nat.{ℕ, suc, ◌+◌, ◌*◌, ◌/◌, ◌%◌, ◌≤◌, ◌<◌, pred}
use native.Mathlib.Numerals.{add-one}
use native.Mathlib.Omega.{arith}
use lib.Dec.{ltb, eqb}
use lib.ListN.{length, get_or, drop, set, drop_of_length-le}
use lib.Seq.{sets, drop-cons}
use borrow.Author.Tests.{lt-ltb, le-ltb, ne_eqb}
use Rattle.refusal.proofs.Tests.{by_test}
use Rattle.address.specs.Address.{unit, packing, is_location, bad_slots, packed, unpacked, location_in, slabs}
use Rattle.address.specs.declared.SlabAddress.{SlabAddress}
use Rattle.address.proofs.Laws.{unpacked_at, slots_range}
use Rattle.marks.specs.Marks.{smallest_free}
use Rattle.id_allocator.specs.Counted.{hinted}
use Rattle.model.specs.Memory.{kept_ids_at, kept_locations_at, granted_words, used_words, hint_words, word_at, get_word, put_word}
use Rattle.model.specs.MemoryAfter.{Slots, took_slot, take_slot, take_slots}
use Rattle.model.specs.Tables.{bump}
use Rattle.model.proofs.Locations.{is_location_packing, is_location_nz}
use Rattle.tables.specs.Entries.{slab_part}
use Rattle.offer_places.specs.Places.{slots_in, next_in, spot_in, place_in}
use Rattle.std.specs.Prelude.{Result, Ok, Err, Option, Some, None}
use Rattle.refusal.specs.declared.Refusal.{Refusal}

-- ---- spot_in
pub spot_in_none : (cap : ℕ) (s : Slots) (k : ℕ) → slabs ≤ k → spot_in cap s k ≡ 0
unfolding spot_in
spot_in_none cap s k h = rw (le-ltb k slabs h)

pub spot_in_at : (cap : ℕ) (s : Slots) (k j hint : ℕ) (p : List ℕ) (q : Result ℕ Refusal) → k < slabs → hint ≡ get_word s.words hint_words (k + 1)
    → p ≡ slab_part cap s.marks k → j ≡ smallest_free 0 (hinted hint p) → q ≡ packed cap (record { slab = k; slot = j }) → spot_in cap s k ≡ location_in q
unfolding spot_in
spot_in_at cap s k j hint p q h a b c d =
    let e : j ≡ next_in cap s k = c ∙ (λ i. smallest_free 0 (hinted (a i) (b i))) in
    rw (lt-ltb k slabs h) (sym (ap location_in (d ∙ ap (λ x. packed cap (record { slab = k; slot = x })) e)))

-- a capacity that is none has no location
pub spot_in_good : (cap : ℕ) (s : Slots) (k : ℕ) → is_location cap (spot_in cap s k) ≡ true → bad_slots cap ≡ false
unfolding spot_in packed
spot_in_good cap s k h = by_test (bad_slots cap) (λ b. absurd (is_location_nz cap (spot_in cap s k) h (rw b (same (ltb k slabs))))) (λ b. b)
  where
    same : (t : Bool) → ◌≡◌ {A = ℕ} (cond t 0 0) 0
    same true = refl
    same false = refl

-- ---- take_slot
abbrev pub is_at : Result (Option SlabAddress) Refusal → ℕ
is_at (Ok (Some a)) = 1
is_at (Ok None) = 0
is_at (Err r) = 0

pub take_slot_none : (cap l : ℕ) (s : Slots) → (is_location cap l ≡ true → bad_slots cap ≡ false) → is_at (unpacked cap l) ≡ 0 → s ≡ take_slot cap s l
unfolding unpacked
take_slot_none cap l s good e =
    by_test (is_location cap l)
    (λ h.
    let nz : eqb l 0 ≡ false = ne_eqb l 0 (is_location_nz cap l h) in
    let z : is_at (unpacked cap l) ≡ 1 = simp (good h, nz, h) in
    absurd (omega arith))
    (λ h. rw h)

pub take_slot_at : (cap l : ℕ) (s : Slots) (a : SlabAddress) (ms g₁ g₂ g₃ : List ℕ) → unpacked cap l ≡ Ok (Some a)
    → ms ≡ set s.marks (a.slab * cap + a.slot) 1 → g₁ ≡ bump s.words (word_at granted_words (a.slab + 1)) 1
    → g₂ ≡ put_word g₁ used_words (a.slab + 1) 1 → g₃ ≡ put_word g₂ hint_words (a.slab + 1) (a.slot + 1) → slots_in ms g₃ ≡ take_slot cap s l
take_slot_at cap l s a ms g₁ g₂ g₃ e em e₁ e₂ e₃ =
    let u = unpacked_at cap l a e in
    let c = slots_range cap u.capacity in
    let w : packing a.slab a.slot ≡ l = u.whole in
    let hk : a.slab < slabs = u.slab_lt in
    let hj : a.slot < cap = u.slot_lt in
    let v : is_location cap l ≡ true = ap (is_location cap) (sym w) ∙ is_location_packing cap a.slab a.slot c.1 hk hj in
    let d : l / unit ≡ a.slab + 1 = omega arith in
    let r : l % unit ≡ a.slot = omega arith in
    let p : pred (a.slab + 1) ≡ a.slab = omega arith in
    let t : take_slot cap s l ≡ took_slot cap s (a.slab + 1) a.slot =
    ap (λ b. cond b (took_slot cap s (l / unit) (l % unit)) s) v ∙ (λ i. took_slot cap s (d i) (r i)) in
    let m : ms ≡ set s.marks (pred (a.slab + 1) * cap + a.slot) 1 = em ∙ ap (λ x. set s.marks (x * cap + a.slot) 1) (sym p) in
    let g : g₃ ≡ put_word (put_word (bump s.words (word_at granted_words (a.slab + 1)) 1) used_words (a.slab + 1) 1) hint_words (a.slab + 1) (a.slot + 1) =
    e₃ ∙ ap (λ x. put_word x hint_words (a.slab + 1) (a.slot + 1)) (e₂ ∙ ap (λ x. put_word x used_words (a.slab + 1) 1) e₁) in
    (λ i. slots_in (m i) (g i)) ∙ sym t

-- ---- a turn
place_in_turn : (cap : ℕ) (s : Slots) (ks : List ℕ) (i : ℕ) → i < length ks
    → place_in cap s (drop i ks) ≡ spot_in cap s (get_or ks i 0) ∷ place_in cap (take_slot cap s (spot_in cap s (get_or ks i 0))) (drop (i + 1) ks)
unfolding place_in
place_in_turn cap s ks i h = rw (drop-cons ks i 0 h, add-one i)

module _ (cap : ℕ) (s s' : Slots) (ks : List ℕ) (i l : ℕ) (h : i < length ks) (e : l ≡ spot_in cap s (get_or ks i 0)) (e' : s' ≡ take_slot cap s l) where
  next : place_in cap s (drop i ks) ≡ l ∷ place_in cap s' (drop (i + 1) ks)
  next =
      let t : take_slot cap s (spot_in cap s (get_or ks i 0)) ≡ s' = ap (take_slot cap s) (sym e) ∙ sym e' in
      place_in_turn cap s ks i h ∙ λ j. sym e j ∷ place_in cap (t j) (drop (i + 1) ks)

  pub place_turn : (out out' : List ℕ) → out' ≡ set out (0 + i) l → sets out' (i + 1) (place_in cap s' (drop (i + 1) ks)) ≡ sets out i (place_in cap s (drop i ks))
  place_turn out out' o =
      let z : 0 + i ≡ i = omega arith in
      let w : out' ≡ set out i l = o ∙ ap (λ x. set out x l) z in
      (λ j. sets (w j) (add-one i j) (place_in cap s' (drop (i + 1) ks))) ∙ ap (sets out i) (sym next)

  pub take_turn : take_slots cap s' (place_in cap s' (drop (i + 1) ks)) ≡ take_slots cap s (place_in cap s (drop i ks))
  take_turn = ap (λ x. take_slots cap x (place_in cap s' (drop (i + 1) ks))) e' ∙ ap (take_slots cap s) (sym next)

pub place_in_end : (cap : ℕ) (s : Slots) (ks : List ℕ) (i : ℕ) → length ks ≤ i → place_in cap s (drop i ks) ≡ []
unfolding place_in
place_in_end cap s ks i h = rw (drop_of_length-le ks h)

pub placed_end : (cap : ℕ) (s : Slots) (ks out : List ℕ) (i : ℕ) → length ks ≤ i → sets out i (place_in cap s (drop i ks)) ≡ out
placed_end cap s ks out i h = ap (sets out i) (place_in_end cap s ks i h)

pub taken_end : (cap : ℕ) (s : Slots) (ks : List ℕ) (i : ℕ) → length ks ≤ i → take_slots cap s (place_in cap s (drop i ks)) ≡ s
taken_end cap s ks i h = ap (take_slots cap s) (place_in_end cap s ks i h)

-- words copied
pub sets_end : (l vs : List ℕ) (p i : ℕ) → length vs ≤ i → sets l p (drop i vs) ≡ l
sets_end l vs p i h = rw (drop_of_length-le vs h)

pub sets_turn : (l l' vs : List ℕ) (base i : ℕ) → i < length vs → l' ≡ set l (base + i) (get_or vs i 0)
    → sets l' (base + (i + 1)) (drop (i + 1) vs) ≡ sets l (base + i) (drop i vs)
sets_turn l l' vs base i h e =
    let p : base + (i + 1) ≡ suc (base + i) = omega arith in
    rw (drop-cons vs i 0 h) (λ j. sets (e j) (p j) (drop (add-one i j) vs))

pub kept_is : (b b₁ b₂ b₃ is ls : List ℕ) (n : ℕ) → b₁ ≡ sets b kept_ids_at is → b₂ ≡ sets b₁ kept_locations_at ls → b₃ ≡ set b₂ (0 + 0) n
    → b₃ ≡ set (sets (sets b kept_ids_at is) kept_locations_at ls) 0 n
kept_is b b₁ b₂ b₃ is ls n e₁ e₂ e₃ = e₃ ∙ ap (λ x. set x 0 n) (e₂ ∙ ap (λ x. sets x kept_locations_at ls) e₁)
