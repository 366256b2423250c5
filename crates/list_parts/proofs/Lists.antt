-- Laws of lists: what is in one, what is mapped in front and behind, and that its places tell it. Assumes nothing.
use mathlib.Core.Path.{◌≡◌, refl, sym, ap}
use mathlib.Core.Logic.{◌⊎◌, inl, inr, ◌≢◌}
use mathlib.Core.Bool.{Bool, true, false, ◌||◌, true≢false}
use mathlib.Core.List.{List, [], ◌∷◌, map}
use Prim.Native.Nat.{ℕ, ◌<◌, zero, suc}
use native.Mathlib.Nat.{suc-ne-zero}
use lib.Dec.{eqb}
use lib.ListN.{length, get_or, take, drop}
use lib.Seq.{ext_get_or}
use borrow.Author.Tests.{eq-eqb, eqb-true, eqb-false}
use Rattle.list_parts.specs.Lists.{elem}

-- ---- elem

pub elem_head : (x y : ℕ) (ys : List ℕ) → x ≡ y → elem x (y ∷ ys) ≡ true
elem_head x y ys e = rw (eq-eqb x y e)

pub elem_tail : (x y : ℕ) (ys : List ℕ) → elem x ys ≡ true → elem x (y ∷ ys) ≡ true
elem_tail x y ys e = go (eqb x y)
  where
    go : (b : Bool) → (b || elem x ys) ≡ true
    go true = refl
    go false = e

pub elem_cases : (x y : ℕ) (ys : List ℕ) → elem x (y ∷ ys) ≡ true → (x ≡ y) ⊎ (elem x ys ≡ true)
elem_cases x y ys = go (eqb x y) refl
  where
    go : (b : Bool) → eqb x y ≡ b → (b || elem x ys) ≡ true → (x ≡ y) ⊎ (elem x ys ≡ true)
    go true e h = inl (eqb-true x y e)
    go false e h = inr h

pub elem_not : (x y : ℕ) (ys : List ℕ) → elem x (y ∷ ys) ≡ false → (x ≢ y) × (elem x ys ≡ false)
elem_not x y ys = go (eqb x y) refl
  where
    go : (b : Bool) → eqb x y ≡ b → (b || elem x ys) ≡ false → (x ≢ y) × (elem x ys ≡ false)
    go true e h = absurd (true≢false h)
    go false e h = (eqb-false x y e, h)

-- ---- map

module _ {A B : Type 0} (f : A → B) where
  pub take_map : (n : ℕ) (t : List A) → take n (map f t) ≡ map f (take n t)
  take_map zero t = refl
  take_map (suc n) [] = refl
  take_map (suc n) (x ∷ t) = ap (λ r. f x ∷ r) (take_map n t)

  pub drop_map : (n : ℕ) (t : List A) → drop n (map f t) ≡ map f (drop n t)
  drop_map zero t = refl
  drop_map (suc n) [] = refl
  drop_map (suc n) (x ∷ t) = drop_map n t

-- ---- get_or

-- two lists with the same in each place are one, whatever stands for a place past the end
pub ext_places : {A : Type 0} (l m : List A) → length l ≡ length m → ((d : A) (p : ℕ) → p < length l → get_or l p d ≡ get_or m p d) → l ≡ m
ext_places [] [] e h = refl
ext_places [] (x ∷ m) e h = absurd (suc-ne-zero (length m) (sym e))
ext_places (x ∷ l) m e h = ext_get_or x (x ∷ l) m e (h x)
