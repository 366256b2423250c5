-- What tests tell, alone and joined: a rule of document 01 is a chain of tests, of which the first that holds decides. Assumes nothing.
use mathlib.Core.Bool.{Bool, true, false, ◌&&◌, ◌||◌}
use mathlib.Core.Path.{◌≡◌, refl, sym, ◌∙◌}
use mathlib.Core.Logic.{◌⊎◌, inl, inr}
use Prim.Native.Nat.{ℕ, ◌≤◌}
use native.Mathlib.Omega.{arith}
use lib.Dec.{leb}
use borrow.Author.Tests.{leb-true, le-leb}

-- a test cannot hold and fail
pub clash : {A : Type 0} → ◌≡◌ {A = Bool} true false → A
clash e = let z : ◌≡◌ {A = ℕ} 0 1 = cc in absurd (omega arith)

pub contradiction : {A : Type 0} {b : Bool} → b ≡ true → b ≡ false → A
contradiction p q = clash (sym p ∙ q)

-- ---- joined tests
pub all : {a b : Bool} → a ≡ true → b ≡ true → (a && b) ≡ true
all {a} {b} p q = rw (p, q)

pub and_true : (a b : Bool) → (a && b) ≡ true → (a ≡ true) × (b ≡ true)
and_true true b e = (refl, e)
and_true false b e = clash (sym e)

pub or_true : (a b : Bool) → (a || b) ≡ true → (a ≡ true) ⊎ (b ≡ true)
or_true true b e = inl refl
or_true false b e = inr e

pub or_false : (a b : Bool) → (a || b) ≡ false → (a ≡ false) × (b ≡ false)
or_false true b e = clash e
or_false false b e = (refl, e)

-- ---- by a test: what holds on both sides holds
pub by_test : {P : Type 0} (t : Bool) → (t ≡ true → P) → (t ≡ false → P) → P
by_test true held failed = held refl
by_test false held failed = failed refl

-- ---- two tests with the same answer
pub both_ways : (a b : Bool) → (a ≡ true → b ≡ true) → (b ≡ true → a ≡ true) → a ≡ b
both_ways true b f g = sym (f refl)
both_ways false true f g = g refl
both_ways false false f g = refl

pub leb_same : (a b c d : ℕ) → (a ≤ b → c ≤ d) → (c ≤ d → a ≤ b) → leb a b ≡ leb c d
leb_same a b c d f g = both_ways (leb a b) (leb c d) (λ p. le-leb c d (f (leb-true a b p))) (λ p. le-leb a b (g (leb-true c d p)))
