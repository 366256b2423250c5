-- Laws of stores to a table: at one location (write), at each of a list (write_all), and to a counter (bump). A store changes the one place
-- and no other, and one at no location changes nothing. Assumes nothing.
use mathlib.Core.Path.{◌≡◌, sym, ◌∙◌, refl, ap, subst}
use mathlib.Core.Logic.{◌⊎◌, inl, inr, ◌≢◌}
use mathlib.Core.Bool.{Bool, true, false, cond}
use mathlib.Core.List.{List, [], ◌∷◌}
use Prim.Native.Nat.{ℕ, ◌<◌, ◌/◌, ◌%◌, zero, suc, pred}
use native.Mathlib.Omega.{arith}
use lib.ListN.{get_or, length, set, length-set}
use lib.Seq.{get_or-set_other, get_or-set_same}
use Rattle.refusal.proofs.Tests.{clash}
use Rattle.list_parts.specs.Lists.{elem}
use Rattle.list_parts.specs.Parts.{part}
use Rattle.list_parts.proofs.Lists.{elem_tail, elem_head, elem_cases}
use Rattle.list_parts.proofs.Parts.{part_here, part_there}
use Rattle.address.specs.Address.{is_location, unit}
use Rattle.model.specs.Tables.{slot_place, write, write_all, bump}
use Rattle.model.proofs.Lists.{set_cases}
use Rattle.model.proofs.Locations.{is_location_says, slab_of}

-- ---- write

pub write_set : (cap l v : ℕ) (t : List ℕ) → is_location cap l ≡ true → write cap l v t ≡ set t (slot_place cap l) v
write_set cap l v t e = ap (λ b. cond b (set t (slot_place cap l) v) t) e

pub write_none : (cap l v : ℕ) (t : List ℕ) → is_location cap l ≡ false → write cap l v t ≡ t
write_none cap l v t e = ap (λ b. cond b (set t (slot_place cap l) v) t) e

pub length_write : (cap l v : ℕ) (t : List ℕ) → length (write cap l v t) ≡ length t
length_write cap l v t = go (is_location cap l)
  where
    go : (b : Bool) → length (cond b (set t (slot_place cap l) v) t) ≡ length t
    go true = length-set t (slot_place cap l) v
    go false = refl

pub write_other : (cap l v : ℕ) (t : List ℕ) (p : ℕ) → (is_location cap l ≡ true → p ≢ slot_place cap l) → get_or (write cap l v t) p 0 ≡ get_or t p 0
write_other cap l v t p h = go (is_location cap l) h
  where
    go : (b : Bool) → (b ≡ true → p ≢ slot_place cap l) → get_or (cond b (set t (slot_place cap l) v) t) p 0 ≡ get_or t p 0
    go true h = get_or-set_other t (slot_place cap l) p v 0 (h refl)
    go false h = refl

pub write_same : (cap l v : ℕ) (t : List ℕ) → is_location cap l ≡ true → slot_place cap l < length t → get_or (write cap l v t) (slot_place cap l) 0 ≡ v
write_same cap l v t e h = ap (λ x. get_or x (slot_place cap l) 0) (write_set cap l v t e) ∙ get_or-set_same t (slot_place cap l) v 0 h

pub write_cases : (cap l v : ℕ) (t : List ℕ) (p : ℕ) → (get_or (write cap l v t) p 0 ≡ v) ⊎ (get_or (write cap l v t) p 0 ≡ get_or t p 0)
write_cases cap l v t p = go (is_location cap l)
  where
    go : (b : Bool) → (get_or (cond b (set t (slot_place cap l) v) t) p 0 ≡ v) ⊎ (get_or (cond b (set t (slot_place cap l) v) t) p 0 ≡ get_or t p 0)
    go true = set_cases t (slot_place cap l) v p
    go false = inr refl

pub write_each : (P : ℕ → Type 0) (cap l v : ℕ) (t : List ℕ) → P v → ((p : ℕ) → P (get_or t p 0)) → (p : ℕ) → P (get_or (write cap l v t) p 0)
write_each P cap l v t h a p = go (write_cases cap l v t p)
  where
    go : (get_or (write cap l v t) p 0 ≡ v) ⊎ (get_or (write cap l v t) p 0 ≡ get_or t p 0) → P (get_or (write cap l v t) p 0)
    go (inl e) = subst P (sym e) h
    go (inr e) = subst P (sym e) (a p)

pub write_keeps : (cap l v : ℕ) (t : List ℕ) (p : ℕ) → get_or t p 0 ≡ v → get_or (write cap l v t) p 0 ≡ v
write_keeps cap l v t p e = go (write_cases cap l v t p)
  where
    go : (get_or (write cap l v t) p 0 ≡ v) ⊎ (get_or (write cap l v t) p 0 ≡ get_or t p 0) → get_or (write cap l v t) p 0 ≡ v
    go (inl s) = s
    go (inr s) = s ∙ e

-- ---- write, seen from a slab: in its own part of the table, and in no other

pub part_write : (cap l v : ℕ) (t : List ℕ) (k : ℕ) → is_location cap l ≡ true → l / unit ≡ suc k → part cap (write cap l v t) k ≡ set (part cap t k) (l % unit) v
part_write cap l v t k w e =
    ap (λ x. part cap x k) (write_set cap l v t w ∙ ap (λ x. set t x v) (slab_of cap l k w e))
    ∙ part_here cap t k (l % unit) v (is_location_says cap l w).slot

pub part_write_other : (cap l v : ℕ) (t : List ℕ) (k : ℕ) → is_location cap l ≡ true → l / unit ≢ suc k → part cap (write cap l v t) k ≡ part cap t k
part_write_other cap l v t k w n =
    let u = is_location_says cap l w in
    ap (λ x. part cap x k) (write_set cap l v t w)
    ∙ part_there cap t (pred (l / unit)) (l % unit) v k u.slot (λ e. n (omega (arith, u.low)))

-- ---- write_all

pub length_write_all : (cap : ℕ) (ls : List ℕ) (v : ℕ) (t : List ℕ) → length (write_all cap ls v t) ≡ length t
length_write_all cap [] v t = refl
length_write_all cap (l ∷ ls) v t = length_write_all cap ls v (write cap l v t) ∙ length_write cap l v t

pub write_all_keeps : (cap : ℕ) (ls : List ℕ) (v : ℕ) (t : List ℕ) (p : ℕ) → get_or t p 0 ≡ v → get_or (write_all cap ls v t) p 0 ≡ v
write_all_keeps cap [] v t p e = e
write_all_keeps cap (l ∷ ls) v t p e = write_all_keeps cap ls v (write cap l v t) p (write_keeps cap l v t p e)

pub write_all_other : (cap : ℕ) (ls : List ℕ) (v : ℕ) (t : List ℕ) (p : ℕ) → ((l : ℕ) → elem l ls ≡ true → is_location cap l ≡ true → p ≢ slot_place cap l)
    → get_or (write_all cap ls v t) p 0 ≡ get_or t p 0
write_all_other cap [] v t p h = refl
write_all_other cap (l ∷ ls) v t p h =
    write_all_other cap ls v (write cap l v t) p (λ k e. h k (elem_tail k l ls e)) ∙ write_other cap l v t p (h l (elem_head l l ls refl))

pub write_all_same : (cap : ℕ) (ls : List ℕ) (v : ℕ) (t : List ℕ) (l : ℕ) → elem l ls ≡ true → is_location cap l ≡ true → slot_place cap l < length t
    → get_or (write_all cap ls v t) (slot_place cap l) 0 ≡ v
write_all_same cap [] v t l e n h = clash (sym e)
write_all_same cap (k ∷ ls) v t l e n h = go (λ m. write_all_same cap ls v (write cap k v t) l m n (rw length_write h)) (elem_cases l k ls e)
  where
    go : (elem l ls ≡ true → get_or (write_all cap ls v (write cap k v t)) (slot_place cap l) 0 ≡ v) → (l ≡ k) ⊎ (elem l ls ≡ true)
        → get_or (write_all cap ls v (write cap k v t)) (slot_place cap l) 0 ≡ v
    go r (inl s) = write_all_keeps cap ls v (write cap k v t) (slot_place cap l) (rw (← s) (write_same cap l v t n h))
    go r (inr m) = r m

pub write_all_each : (P : ℕ → Type 0) (cap : ℕ) (ls : List ℕ) (v : ℕ) (t : List ℕ) → P v → ((p : ℕ) → P (get_or t p 0)) → (p : ℕ) → P (get_or (write_all cap ls v t) p 0)
write_all_each P cap [] v t h a = a
write_all_each P cap (l ∷ ls) v t h a = write_all_each P cap ls v (write cap l v t) h (write_each P cap l v t h a)

pub write_all_cases : (cap : ℕ) (ls : List ℕ) (v : ℕ) (t : List ℕ) (p : ℕ)
    → (get_or (write_all cap ls v t) p 0 ≡ v) ⊎ (get_or (write_all cap ls v t) p 0 ≡ get_or t p 0)
write_all_cases cap [] v t p = inr refl
write_all_cases cap (l ∷ ls) v t p = go (write_all_cases cap ls v (write cap l v t) p) (write_cases cap l v t p)
  where
    go : (get_or (write_all cap ls v (write cap l v t)) p 0 ≡ v) ⊎ (get_or (write_all cap ls v (write cap l v t)) p 0 ≡ get_or (write cap l v t) p 0)
        → (get_or (write cap l v t) p 0 ≡ v) ⊎ (get_or (write cap l v t) p 0 ≡ get_or t p 0)
        → (get_or (write_all cap ls v (write cap l v t)) p 0 ≡ v) ⊎ (get_or (write_all cap ls v (write cap l v t)) p 0 ≡ get_or t p 0)
    go (inl e) d = inl e
    go (inr e) (inl f) = inl (e ∙ f)
    go (inr e) (inr f) = inr (e ∙ f)

-- ---- bump

pub length_bump : (t : List ℕ) (a n : ℕ) → length (bump t a n) ≡ length t
length_bump t a zero = refl
length_bump t a (suc n) = length-set t a _

pub bump_other : (t : List ℕ) (a n i : ℕ) → i ≢ a → get_or (bump t a n) i 0 ≡ get_or t i 0
bump_other t a zero i h = refl
bump_other t a (suc n) i h = get_or-set_other t a i _ 0 h
