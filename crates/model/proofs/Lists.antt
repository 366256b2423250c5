-- Laws of lists of numbers, as tables and marks are: what a place holds after a store, and what the front of one holds. A place past the end
-- holds 0, so a law over all places has no side condition. Assumes nothing.
use mathlib.Core.Path.{◌≡◌, sym, ◌∙◌, refl, subst}
use mathlib.Core.Logic.{◌⊎◌, inl, inr, ◌≢◌}
use mathlib.Core.List.{List, [], ◌∷◌}
use Prim.Native.Nat.{ℕ, ◌<◌, zero, suc, suc-le-suc, zero-le}
use native.Mathlib.Omega.{arith}
use lib.ListN.{get_or, length, replicate, set, take}

-- ---- get_or

pub nz_lt : (t : List ℕ) (p : ℕ) → get_or t p 0 ≢ 0 → p < length t
nz_lt [] p h = absurd (h refl)
nz_lt (x ∷ xs) zero h = suc-le-suc zero-le
nz_lt (x ∷ xs) (suc p) h = suc-le-suc (nz_lt xs p h)

pub zeros : (n p : ℕ) → get_or {A = ℕ} (replicate n 0) p 0 ≡ 0
zeros zero p = refl
zeros (suc n) zero = refl
zeros (suc n) (suc p) = zeros n p

-- a number that is 1 is not 0
pub one_nz : {a : ℕ} → a ≡ 1 → a ≢ 0
one_nz e z = omega arith

-- ---- set

-- a place holds v, or what it held
pub set_cases : (t : List ℕ) (q v p : ℕ) → (get_or (set t q v) p 0 ≡ v) ⊎ (get_or (set t q v) p 0 ≡ get_or t p 0)
set_cases [] q v p = inr refl
set_cases (x ∷ xs) zero v zero = inl refl
set_cases (x ∷ xs) zero v (suc p) = inr refl
set_cases (x ∷ xs) (suc q) v zero = inr refl
set_cases (x ∷ xs) (suc q) v (suc p) = set_cases xs q v p

-- what holds of v and of every place holds of every place after v is written
pub set_each : (P : ℕ → Type 0) (t : List ℕ) (q v : ℕ) → P v → ((p : ℕ) → P (get_or t p 0)) → (p : ℕ) → P (get_or (set t q v) p 0)
set_each P t q v h a p = go (set_cases t q v p)
  where
    go : (get_or (set t q v) p 0 ≡ v) ⊎ (get_or (set t q v) p 0 ≡ get_or t p 0) → P (get_or (set t q v) p 0)
    go (inl e) = subst P (sym e) h
    go (inr e) = subst P (sym e) (a p)

-- a place holds v after v is written anywhere, if it held v
pub set_keeps : (t : List ℕ) (q v p : ℕ) → get_or t p 0 ≡ v → get_or (set t q v) p 0 ≡ v
set_keeps t q v p e = go (set_cases t q v p)
  where
    go : (get_or (set t q v) p 0 ≡ v) ⊎ (get_or (set t q v) p 0 ≡ get_or t p 0) → get_or (set t q v) p 0 ≡ v
    go (inl s) = s
    go (inr s) = s ∙ e

-- ---- take

pub take_each : (P : ℕ → Type 0) (n : ℕ) (t : List ℕ) → P 0 → ((p : ℕ) → P (get_or t p 0)) → (p : ℕ) → P (get_or (take n t) p 0)
take_each P zero t z h p = z
take_each P (suc n) [] z h p = z
take_each P (suc n) (x ∷ t) z h zero = h 0
take_each P (suc n) (x ∷ t) z h (suc p) = take_each P n t z (λ q. h (suc q)) p
