-- What a chain of tests tells: where it refuses nothing, no test in it is met. Assumes nothing.
use mathlib.Core.Path.{◌≡◌, refl}
use mathlib.Core.Logic.{◌≢◌}
use mathlib.Core.Bool.{Bool, false, true, not, cond, ◌&&◌, ◌||◌}
use mathlib.Core.List.{List, [], ◌∷◌, map}
use Prim.Native.Nat.{ℕ, suc}
use native.Mathlib.Omega.{arith}
use lib.Dec.{eqb, ltb}
use Rattle.refusal.specs.declared.Kind.{Kind}
use Rattle.model.specs.Verdict.{ok, refuse, test, tests_from, earlier, Verdict, ◌⨾◌}

ok≢refuse : {n : Kind} {i : ℕ} → refuse n i ≢ ok
ok≢refuse {n} {i} e = let z : ◌≡◌ {A = ℕ} 0 1 = cc in omega arith

pub test_ok : (b : Bool) (n : Kind) (i : ℕ) → test b n i ≡ ok → b ≡ false
unfolding test
test_ok true n i e = absurd (ok≢refuse e)
test_ok false n i e = refl

pub first_ok : (v w : Verdict) → (v ⨾ w) ≡ ok → v ≡ ok
unfolding ◌⨾◌
first_ok ok w e = refl
first_ok (refuse n i) w e = e

pub then_ok : (v w : Verdict) → (v ⨾ w) ≡ ok → w ≡ ok
unfolding ◌⨾◌
then_ok ok w e = e
then_ok (refuse n i) w e = absurd (ok≢refuse e)

pub assoc : (u v w : Verdict) → (u ⨾ (v ⨾ w)) ≡ ((u ⨾ v) ⨾ w)
unfolding ◌⨾◌
assoc ok v w = refl
assoc (refuse n i) v w = refl

pub then_nothing : (v : Verdict) → (v ⨾ ok) ≡ v
unfolding ◌⨾◌
then_nothing ok = refl
then_nothing (refuse n i) = refl

-- two tests in a row that refuse alike are one
pub tests_join : (a b : Bool) (n : Kind) (i : ℕ) (v : Verdict) → (test (not a) n i ⨾ test (not b) n i ⨾ v) ≡ (test (not (a && b)) n i ⨾ v)
unfolding ◌⨾◌ test
tests_join true b n i v = refl
tests_join false b n i v = refl

-- ---- two orders made one

pub earlier_ok : (first : Kind → Bool) (v w : Verdict) → earlier first v w ≡ ok → (v ≡ ok) × (w ≡ ok)
unfolding earlier
earlier_ok first ok w e = (refl, e)
earlier_ok first (refuse n i) ok e = absurd (ok≢refuse e)
earlier_ok first (refuse n i) (refuse m j) e = absurd (by (ltb i j || (eqb i j && first n)) e)
  where
    by : (b : Bool) → cond b (refuse n i) (refuse m j) ≡ ok → ⊥
    by true e = ok≢refuse e
    by false e = ok≢refuse e

pub earlier_alone : (first : Kind → Bool) (v : Verdict) → v ≡ earlier first v ok
unfolding earlier
earlier_alone first ok = refl
earlier_alone first (refuse n i) = refl

-- no test is met
pub tests_from_none : {A : Type 0} (n : Kind) (i : ℕ) (xs : List A) → tests_from n i (map (λ (x : A). false) xs) ≡ ok
unfolding tests_from test ◌⨾◌
tests_from_none n i [] = refl
tests_from_none n i (x ∷ xs) = tests_from_none n (suc i) xs
