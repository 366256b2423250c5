-- Laws that the code's steps come to: a row that is not there, and what a kept update's own row is. Assumes nothing.
use mathlib.Core.Path.{◌≡◌, refl, sym, ◌∙◌}
use mathlib.Core.Logic.{◌≢◌}
use mathlib.Core.Bool.{Bool, true, false, cond, ◌&&◌}
use mathlib.Core.List.{List, []}
use Prim.Native.Nat.{ℕ, zero, suc, ◌+◌, ◌*◌, ◌≤◌, ◌<◌}
use native.Mathlib.Nat.{suc-ne-zero}
use native.Mathlib.Omega.{arith}
use lib.ListN.{length, drop, replicate, length-take, length-drop}
use lib.Dec.{leb, eqb}
use borrow.Author.Tests.{lt-leb, ne_eqb}
use native.Mathlib.Decide.{dec_lt}
use mathlib.Core.Path.{ap}
use Rattle.carried.proofs.Laws.{row_in_part}
use Rattle.list_parts.specs.Parts.{part, put_part}
use Rattle.carried.specs.Carried.{row_in, put_row, kept_row}

-- ---- a row that is not there

pub row_in_none : (w : ℕ) (t : List ℕ) (i : ℕ) → length t < i * w + w → row_in w t i ≡ []
unfolding row_in
row_in_none w t i h = simp (lt-leb _ _ h)

pub put_row_short : (w : ℕ) (t : List ℕ) (i : ℕ) (r : List ℕ) → length r ≢ w → put_row w t i r ≡ t
unfolding put_row
put_row_short w t i r n = go (leb (i * w + w) (length t))
  where
    go : (b : Bool) → cond (b && eqb (length r) w) (put_part w t i r) t ≡ t
    go true = simp (ne_eqb (length r) w n)
    go false = refl

-- part of a row, past the end of the column
pub part_short : (w : ℕ) (t : List ℕ) (k : ℕ) → 1 ≤ w → length t < k * w + w → length (part w t k) ≢ w
part_short w t k p h e = omega (arith, length-take w (drop (k * w) t), length-drop (k * w) t)

pub kept_row_stored : (w : ℕ) (t : List ℕ) (k l : ℕ) → l ≢ 0 → kept_row w t k l ≡ part w t k
unfolding kept_row
kept_row_stored w t k zero n = absurd (n refl)
kept_row_stored w t k (suc l) n = refl

-- the update's own row, as it was read
module _ (w : ℕ) (t own : List ℕ) (k l : ℕ) (some : 1 ≤ w) (stored : l ≢ 0) (read : own ≡ row_in w t k) where
  pub settle_own : length own ≡ w → own ≡ kept_row w t k l
  settle_own whole = go (dec_lt (length t) (k * w + w))
    where
      go : Dec (length t < k * w + w) → own ≡ kept_row w t k l
      go (yes past) = absurd (omega (arith, whole, ap length (read ∙ row_in_none w t k past)))
      go (no inside) = read ∙ row_in_part w t k (omega arith) ∙ sym (kept_row_stored w t k l stored)

  pub settle_none : (id : ℕ) → length own ≢ w → t ≡ put_row w t id (kept_row w t k l)
  settle_none id short = sym (put_row_short w t id (kept_row w t k l) (go (dec_lt (length t) (k * w + w))))
    where
      go : Dec (length t < k * w + w) → length (kept_row w t k l) ≢ w
      go (yes past) e = omega (arith, ap length (sym (kept_row_stored w t k l stored)) ∙ e, length-take w (drop (k * w) t), length-drop (k * w) t)
      go (no inside) e = short (ap length (read ∙ row_in_part w t k (omega arith) ∙ sym (kept_row_stored w t k l stored)) ∙ e)

pub kept_row_free : (w : ℕ) (t : List ℕ) (k l : ℕ) → l ≡ 0 → replicate w 0 ≡ kept_row w t k l
unfolding kept_row
kept_row_free w t k zero e = refl
kept_row_free w t k (suc l) e = absurd (suc-ne-zero l e)
