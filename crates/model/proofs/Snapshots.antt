-- A snapshot has no more rows than there are ids. Assumes nothing.
use mathlib.Core.Bool.{Bool, true, false, cond}
use mathlib.Core.List.{◌∷◌}
use Prim.Native.Nat.{ℕ, zero, suc, ◌≤◌}
use native.Mathlib.Omega.{arith}
use lib.ListN.{length}
use Rattle.model.specs.Snapshots.{those_from}

pub length_those : (p : ℕ → Bool) (n i : ℕ) → length (those_from p n i) ≤ n
unfolding those_from
length_those p zero i = omega arith
length_those p (suc n) i = go (p i) (length_those p n (suc i))
  where
    go : (b : Bool) → length (those_from p n (suc i)) ≤ n → length (cond b (i ∷ those_from p n (suc i)) (those_from p n (suc i))) ≤ suc n
    go true h = omega arith
    go false h = omega arith
