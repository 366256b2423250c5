-- What holds of each row of a column, over the width: storing rows of which it holds keeps it, and so does a commit. Assumes nothing.
use mathlib.Core.Path.{◌≡◌, refl, sym, ap, subst, ◌∙◌}
use mathlib.Core.Logic.{◌⊎◌, inl, inr}
use mathlib.Core.List.{List, [], ◌∷◌}
use native.Mathlib.Decide.{ℕ_discrete}
use Prim.Native.Nat.{ℕ, zero, suc, ◌+◌, ◌-◌, ◌*◌, ◌≤◌, ◌<◌}
use native.Mathlib.Omega.{arith}
use lib.ListN.{length, take, drop, replicate, length-take, length-drop, length-replicate}
use Rattle.list_parts.specs.Parts.{part}
use Rattle.carried.specs.Carried.{put_row, put_rows, kept_row, committed}
use Rattle.carried.proofs.Laws.{put_row_cases, length_put_row, put_row_here, put_row_other}

pub drop_zeros : (k n : ℕ) → drop k (replicate {A = ℕ} n 0) ≡ replicate (n - k) 0
drop_zeros zero n = let z : n - 0 ≡ n = omega arith in rw z
drop_zeros (suc k) zero = let z : 0 - suc k ≡ 0 = omega arith in rw z
drop_zeros (suc k) (suc n) = let z : suc n - suc k ≡ n - k = omega arith in rw z (drop_zeros k n)

take_zeros : (w n : ℕ) → w ≤ n → take w (replicate {A = ℕ} n 0) ≡ replicate w 0
take_zeros zero n h = refl
take_zeros (suc w) zero h = absurd (omega arith)
take_zeros (suc w) (suc n) h = ap (λ t. 0 ∷ t) (take_zeros w n (omega arith))

module _ (w : ℕ) (P : List ℕ → Type 0) where
  abbrev pub Each : List ℕ → Type 0
  Each t = (i : ℕ) → i * w + w ≤ length t → P (part w t i)

  -- of whole rows, one after the other, as many as there are numbers
  abbrev pub EachOf : List ℕ → List ℕ → Type 0
  EachOf [] bytes = Unit {0}
  EachOf (i ∷ is) bytes = P (take w bytes) × EachOf is (drop w bytes)

  pub each_zeros : P (replicate w 0) → (n : ℕ) → Each (replicate n 0)
  each_zeros z n i h =
      let l = length-replicate {A = ℕ} n 0 in
      subst P (sym (ap (take w) (drop_zeros (i * w) n) ∙ take_zeros w (n - i * w) (omega (arith, l)))) z

  pub each_put_row : (t : List ℕ) (i : ℕ) (r : List ℕ) → Each t → (length r ≡ w → P r) → Each (put_row w t i r)
  each_put_row t i r h p k b = by (put_row_cases w t i r)
    where
      l : length (put_row w t i r) ≡ length t
      l = length_put_row w t i r

      by : ((i * w + w ≤ length t) × (length r ≡ w)) ⊎ (put_row w t i r ≡ t) → P (part w (put_row w t i r) k)
      by (inr e) = subst (λ x. P (part w x k)) (sym e) (h k (omega (arith, l)))
      by (inl q) = at (ℕ_discrete k i)
        where
          at : Dec (k ≡ i) → P (part w (put_row w t i r) k)
          at (yes e) = subst (λ x. P (part w (put_row w t i r) x)) (sym e) (subst P (sym (put_row_here w t i r q.0 q.1)) (p q.1))
          at (no n) = subst P (sym (put_row_other w t i r k (λ e. n (sym e)))) (h k (omega (arith, l)))

  pub each_put_rows : (is bytes t : List ℕ) → Each t → EachOf is bytes → Each (put_rows w is bytes t)
  unfolding put_rows
  each_put_rows [] bytes t h p = h
  each_put_rows (i ∷ is) bytes t h p = each_put_rows is (drop w bytes) (put_row w t i (take w bytes)) (each_put_row t i (take w bytes) h (λ l. p.0)) p.1

  pub each_committed : (k : ℕ) (rs : List (ℕ × ℕ)) (t : List ℕ) → 0 < w → P (replicate w 0) → Each t → Each (committed w k rs t)
  unfolding committed kept_row
  each_committed k [] t n z h = h
  each_committed k (r ∷ rs) t n z h = each_committed (suc k) rs (put_row w t r.0 (kept_row w t k r.1)) n z (each_put_row t r.0 _ h (kept r.1))
    where
      kept : (l : ℕ) → length (kept_row w t k l) ≡ w → P (kept_row w t k l)
      kept zero e = z
      kept (suc l) e = h k (omega (arith, e, length-take w (drop (k * w) t), length-drop (k * w) t))
