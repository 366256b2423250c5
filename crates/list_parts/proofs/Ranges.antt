-- Ranges of a slice, from one place up to another: what a range holds, and the list when a changed range is put back. Assumes nothing.
use mathlib.Core.Path.{◌≡◌, sym, ap, ◌∙◌}
use mathlib.Core.List.{List, [], ◌++◌, append-nil}
use Prim.Native.Nat.{ℕ, ◌+◌, ◌-◌, ◌≤◌}
use native.Mathlib.Omega.{arith}
use lib.ListN.{length, take, drop, length-drop, take-append-drop, drop_of_length-le}
use lib.Seq.{take_all, take_at, drop_at, drop-drop, length-take-le}
use borrow.Rule.Slice.PartMut.{put_mid}

module _ (l : List ℕ) (n : ℕ) where
  -- ---- the part from n to the end
  pub rest_part : take (length l - n) (drop n l) ≡ drop n l
  rest_part = let h : length (drop n l) ≤ length l - n = rw (length-drop n l) (omega arith) in take_all (length l - n) (drop n l) h

  pub put_rest : (ys : List ℕ) → put_mid n (length l - n) l ys ≡ take n l ++ ys
  put_rest ys =
      let h : length (drop n l) ≤ length l - n = rw (length-drop n l) (omega arith) in
      let e : drop (length l - n) (drop n l) ≡ [] = drop_of_length-le (drop n l) h in
      rw e (ap (λ (x : List ℕ). take n l ++ x) (append-nil ys))

-- ---- a part in the middle
pub put_middle : (p m q ys : List ℕ) (a k : ℕ) → length p ≡ a → length m ≡ k → put_mid a k (p ++ (m ++ q)) ys ≡ p ++ (ys ++ q)
put_middle p m q ys a k ha hk =
    rw (take_at p (m ++ q) a ha, drop_at p (m ++ q) a ha, drop_at m q k hk)

-- a list in three: a bytes, the next k, and what comes after
pub in_three : (l : List ℕ) (a k : ℕ) → l ≡ take a l ++ (take k (drop a l) ++ drop (a + k) l)
in_three l a k =
    sym (rw (← drop-drop k a l) (ap (λ (x : List ℕ). take a l ++ x) (take-append-drop k (drop a l)) ∙ take-append-drop a l))

-- ---- the part from `start` up to `end`
module _ (l : List ℕ) (start end : ℕ) (h : start ≤ end) where
  pub length_range : end ≤ length l → length (take (end - start) (drop start l)) ≡ end - start
  length_range e = let n : end - start ≤ length (drop start l) = rw (length-drop start l) (omega arith) in length-take-le (end - start) (drop start l) n

  pub put_range : (ys : List ℕ) → put_mid start (end - start) l ys ≡ take start l ++ (ys ++ drop end l)
  put_range ys = let e : start + (end - start) ≡ end = omega arith in rw (drop-drop (end - start) start l, e)

  pub drop_range : drop start l ≡ take (end - start) (drop start l) ++ drop end l
  drop_range =
      let e : start + (end - start) ≡ end = omega arith in
      sym (rw (drop-drop (end - start) start l, e) at (take-append-drop (end - start) (drop start l)))
