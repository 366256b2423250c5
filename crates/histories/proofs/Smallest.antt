-- A new id is the smallest free number above 0, and each Store of a granted offer takes the smallest free slot of its slab, in list order.
-- A search finds the first free mark; an offer that is granted finds as many free slots in each slab as it asks for. Assumes nothing.
use mathlib.Core.Path.{◌≡◌, refl, ap, ◌∙◌, sym, subst}
use mathlib.Core.Logic.{◌≢◌}
use mathlib.Core.Bool.{false, cond, Bool, true}
use mathlib.Core.List.{List, [], ◌∷◌}
use Prim.Native.Nat.{◌-◌, ℕ, ◌<◌, zero, suc, suc-le-suc, ◌≤◌, ◌+◌, min, ◌*◌, zero-le}
use native.Mathlib.Nat.{not-suc-le-zero}
use native.Mathlib.Decide.{ℕ_discrete}
use native.Mathlib.Omega.{arith}
use lib.Dec.{eqb-suc-zero}
use lib.ListN.{length, set, drop, length-take, get_or}
use lib.Seq.{get_or-drop}
use borrow.Author.Tests.{ltb-false, leb-false, eq-eqb, lt-ltb, ne_eqb, leb-true}
use Rattle.refusal.specs.Refusals.{wrong_shape, batch_open, none_free}
use Rattle.list_parts.specs.Parts.{part}
use Rattle.list_parts.proofs.Parts.{part_here, part_there}
use Rattle.sizes.specs.Sizes.{slab_for}
use Rattle.address.specs.Address.{packing, slabs}
use Rattle.marks.specs.Marks.{count_if, is_free, first_free, smallest_free}
use Rattle.marks.proofs.LawsFree.{first_free_free, first_free_least}
use Rattle.model.specs.Batches.{asked, room, no_class, updates, id_of, place, spot_for, updates_in, taken_by}
use Rattle.model.specs.Ids.{next_id}
use Rattle.model.specs.Step.{answer, grant, refusal_of, refusal, answer_by}
use Rattle.model.specs.Store.{free, Update, Store, placed, put, offer, new_id, gave}
use Rattle.refusal.specs.Outcomes.{granted, refused}
use Rattle.model.specs.Tables.{write}
use Rattle.model.specs.Verdict.{ok, test, Verdict, refuse, ◌⨾◌}
use Rattle.model.proofs.Granted.{offer_granted, new_id_granted}
use Rattle.model.proofs.Locations.{is_location_packing, slot_place_packing}
use Rattle.model.proofs.Writes.{write_set}
use Rattle.model.proofs.Verdicts.{then_ok, test_ok, first_ok}
use Rattle.histories.specs.Statements.{seen, InOrder, NewSlots, SmallestFree, NewIds, NoNewId}

-- ---- counting free slots

free_there : (t : List ℕ) → 0 < count_if is_free t → first_free t < length t
free_there [] h = h
free_there (zero ∷ t) h = omega arith
free_there (suc m ∷ t) h = suc-le-suc (free_there t (rw (eqb-suc-zero m) at h))

one_less : (t : List ℕ) → first_free t < length t → suc (count_if is_free (set t (first_free t) 1)) ≡ count_if is_free t
one_less [] h = absurd (not-suc-le-zero h)
one_less (zero ∷ t) h = refl
one_less (suc m ∷ t) h = rw (eqb-suc-zero m) (one_less t (omega arith))

-- ---- enough room

abbrev Enough : ℕ → List ℕ → List Update → Type 0
Enough cap t us = (k : ℕ) → k < 78 → asked k us ≤ count_if is_free (part cap t k)

room_enough : (cap : ℕ) (t : List ℕ) (us : List Update) (n k : ℕ) → room cap t us n k ≡ ok
    → (i : ℕ) → k ≤ i → i < k + n → asked i us ≤ count_if is_free (part cap t i)
unfolding room
room_enough cap t us zero k e i a b = absurd (omega arith)
room_enough cap t us (suc n) k e i a b = go (ℕ_discrete i k) (λ c. room_enough cap t us n (suc k) (then_ok _ _ e) i c (omega arith))
  where
    go : Dec (i ≡ k) → (suc k ≤ i → asked i us ≤ count_if is_free (part cap t i)) → asked i us ≤ count_if is_free (part cap t i)
    go (yes q) f = rw q (ltb-false _ _ (test_ok _ _ _ (first_ok _ _ e)))
    go (no q) f = f (omega arith)

abbrev Classed : List Update → Type 0
Classed [] = Unit
Classed (u ∷ us) = (no_class u ≡ false) × Classed us

classed : (s : Store) (seen : List ℕ) (i : ℕ) (us : List Update) → updates s seen i us ≡ ok → Classed us
classed s seen i [] e = tt
classed s seen i (u ∷ us) e =
    let e₁ = then_ok _ _ e in
    let e₂ = then_ok _ _ e₁ in
    let e₃ = then_ok _ _ e₂ in
    (test_ok _ _ _ (first_ok _ _ e₂), classed s (id_of u ∷ seen) (suc i) us (then_ok _ _ e₃))

all_placed : (cap : ℕ) (t : List ℕ) (us : List Update) → cap ≤ 65536 → Classed us → Enough cap t us → InOrder cap t us (place cap t us)
all_placed cap t [] c k h = tt
all_placed cap t (free i ∷ us) c k h = (refl, all_placed cap t us c k.1 h)
all_placed cap t (put i n ∷ us) c k h = go (λ t' q. all_placed cap t' us c k.1 q)
  where
    s : ℕ
    s = slab_for n

    s78 : s < 78
    s78 = leb-false 78 s k.0

    p : List ℕ
    p = part cap t s

    more : suc (asked s us) ≤ count_if is_free p
    more = rw (eq-eqb s s refl) at (h s s78)

    there : first_free p < length p
    there = free_there p (omega (arith, more))

    j : ℕ
    j = first_free p

    j_lt : j < cap
    j_lt = let x : j < min cap (length (drop (s * cap) t)) = rw (length-take cap (drop (s * cap) t)) at there in omega arith

    spot_there : spot_for cap t (put i n) ≡ packing s j
    spot_there = ap (λ b. cond b (packing s j) 0) (lt-ltb j (length p) there)

    wrote : write cap (spot_for cap t (put i n)) 1 t ≡ set t (s * cap + j) 1
    wrote = ap (λ l. write cap l 1 t) spot_there ∙ write_set cap (packing s j) 1 t (is_location_packing cap s j c s78 j_lt) ∙ ap (λ x. set t x 1)
        (slot_place_packing cap s j c j_lt)

    left : Enough cap (set t (s * cap + j) 1) us
    left x b = each (ℕ_discrete x s)
      where
        each : Dec (x ≡ s) → asked x us ≤ count_if is_free (part cap (set t (s * cap + j) 1) x)
        each (yes q) = rw q (rw (part_here cap t s j 1 j_lt) (omega (arith, one_less p there, more)))
        each (no q) = rw (part_there cap t s j 1 x j_lt q) (rw (ne_eqb s x (λ y. q (sym y))) at (h x b))

    go : ((t' : List ℕ) → Enough cap t' us → InOrder cap t' us (place cap t' us)) → InOrder cap t (put i n ∷ us) (place cap t (put i n ∷ us))
    go f = (
      j,
      spot_there,
      record { from_on = zero-le; inside = there; is_free_lem = first_free_free p; none_smaller = λ x a b. first_free_least p x b },
      subst (λ x. InOrder cap (set t (s * cap + j) 1) us (place cap x us)) (sym wrote) (f (set t (s * cap + j) 1) left),
    )

-- ---- offer

pub new_slots : NewSlots
unfolding answer grant
new_slots s b ls = go (refusal s (offer b)) refl
  where
    us : List Update
    us = updates_in b

    go : (w : Verdict) → refusal s (offer b) ≡ w → answer_by w (placed (taken_by s us)) ≡ granted (placed ls) → InOrder s.slots s.slot_marks us ls
    go ok e q =
        let o = offer_granted s b e in
        let same : taken_by s us ≡ ls = cc in
        subst (λ x. InOrder s.slots s.slot_marks us x) same
        (all_placed s.slots s.slot_marks us o.tables.range.slots_to (classed s [] 0 us o.fit)
        (λ k b. room_enough s.slots s.slot_marks us slabs 0 o.enough k (omega arith) (omega arith)))
    go (refuse n i) e q = let z : ◌≡◌ {A = ℕ} 0 1 = cc in absurd (omega arith)

-- ---- new id

smallest : (t : List ℕ) → smallest_free 1 t < length t → SmallestFree 1 (smallest_free 1 t) t
smallest t h = record {
  from_on = omega arith;
  inside = h;
  is_free_lem = sym (get_or-drop 1 t (first_free (drop 1 t)) 0) ∙ first_free_free (drop 1 t);
  none_smaller = λ i a b.
      let e : 1 + (i - 1) ≡ i = omega arith in
      subst (λ x. get_or t x 0 ≢ 0) e (subst (λ x. x ≢ 0) (get_or-drop 1 t (i - 1) 0) (first_free_least (drop 1 t) (i - 1) (omega arith)));
}

pub new_ids : NewIds
unfolding answer grant
new_ids s n = go (refusal s new_id) refl
  where
    go : (w : Verdict) → refusal s new_id ≡ w → answer_by w (gave (next_id s)) ≡ granted (gave n) → SmallestFree 1 n s.id_marks
    go ok e q =
        let same : next_id s ≡ n = cc in
        subst (λ x. SmallestFree 1 x s.id_marks) same (smallest s.id_marks (new_id_granted s e))
    go (refuse m i) e q = let z : ◌≡◌ {A = ℕ} 0 1 = cc in absurd (omega arith)

-- of three tests only the last refuses with its number
last_met : (a b c : Bool) → (test a wrong_shape 0 ⨾ test b batch_open 0 ⨾ test c none_free 0) ≡ refuse none_free 0 → (a ≡ false) × (c ≡ true)
unfolding ◌⨾◌ test
last_met true b c e = let z : ◌≡◌ {A = ℕ} 1 10 = cc in absurd (omega arith)
last_met false true c e = let z : ◌≡◌ {A = ℕ} 11 10 = cc in absurd (omega arith)
last_met false false true e = (refl, refl)
last_met false false false e = let z : ◌≡◌ {A = ℕ} 0 1 = cc in absurd (omega arith)

pub no_new_id : NoNewId
unfolding answer grant refusal refusal_of
no_new_id s = go (refusal s new_id) refl
  where
    go : (w : Verdict) → refusal s new_id ≡ w → answer_by w (gave (next_id s)) ≡ refused none_free 0 → (i : ℕ) → 1 ≤ i → i < s.ids → get_or s.id_marks i 0 ≢ 0
    go ok e q i a b = let z : ◌≡◌ {A = ℕ} 0 1 = cc in absurd (omega arith)
    go (refuse m k) e q i a b =
        let r : refuse m k ≡ refuse none_free 0 = cc in
        let l = last_met _ _ _ (e ∙ r) in
        let h : s.ids ≤ next_id s = leb-true _ _ l.1 in
        let x : 1 + (i - 1) ≡ i = omega arith in
        subst (λ y. get_or s.id_marks y 0 ≢ 0) x
        (subst (λ y. y ≢ 0) (get_or-drop 1 s.id_marks (i - 1) 0) (first_free_least (drop 1 s.id_marks) (i - 1) (omega arith)))
