-- Laws of `map`, and of a list that a loop changes from the front. Assumes nothing.
use mathlib.Core.List.{List, [], ◌∷◌, ◌++◌, map, map-append, append_assoc, append-nil}
use mathlib.Core.Path.{◌≡◌, refl, ap, ◌∙◌}
use Prim.Native.Nat.{ℕ, zero, suc, ◌+◌, ◌-◌, ◌≤◌, ◌<◌}
use native.Mathlib.Numerals.{add-one}
use native.Mathlib.Omega.{arith}
use lib.ListN.{length, get_or, take, drop, set, length-map}
use lib.Seq.{drop-cons, take-suc, drop-length, take-length, length-take-le, set_at, get_or_at, length_front, take_at, drop_at, drop-drop, take-add}
use borrow.Rule.Slice.PartMut.{put_mid}

-- ---- map
pub map_same : (f g : ℕ → ℕ) → ((m : ℕ) → f m ≡ g m) → (ms : List ℕ) → map f ms ≡ map g ms
map_same f g h [] = refl
map_same f g h (m ∷ ms) = rw (h m, map_same f g h ms)

pub map_set : (f : ℕ → ℕ) (ms : List ℕ) (n v : ℕ) → map f (set ms n v) ≡ set (map f ms) n (f v)
map_set f [] n v = refl
map_set f (m ∷ ms) zero v = refl
map_set f (m ∷ ms) (suc n) v = ap (λ l. f m ∷ l) (map_set f ms n v)

-- ---- mapped: the first i marks changed by f
abbrev pub mapped : (ℕ → ℕ) → ℕ → List ℕ → List ℕ
mapped f i ms = map f (take i ms) ++ drop i ms

pub mapped_length : (f : ℕ → ℕ) (i : ℕ) (ms : List ℕ) → length (mapped f i ms) ≡ length ms
mapped_length f i ms = length_front ms (map f (take i ms)) i (length-map (take i ms) f)

-- a mark at a time
module _ (f : ℕ → ℕ) (ms now : List ℕ) (i : ℕ) (h : i < length ms) (e : now ≡ mapped f i ms) where
  mapped_front : length (map f (take i ms)) ≡ i
  mapped_front = length-map (take i ms) f ∙ length-take-le i ms (omega arith)

  -- the next mark is as it was
  pub mapped_next : get_or now i 0 ≡ get_or ms i 0
  mapped_next = rw (e, drop-cons ms i 0 h) (get_or_at (map f (take i ms)) (get_or ms i 0) (drop (suc i) ms) 0 i mapped_front)

  pub mapped_turn : (v : ℕ) → v ≡ f (get_or now i 0) → set now i v ≡ mapped f (i + 1) ms
  mapped_turn v q =
      let changed : v ≡ f (get_or ms i 0) = q ∙ ap f mapped_next in
      rw (changed, e, drop-cons ms i 0 h, set_at (map f (take i ms)) (get_or ms i 0) (drop (suc i) ms) (f (get_or ms i 0)) i mapped_front, add-one i, take-suc ms i 0 h, map-append, append_assoc)

pub mapped_end : (f : ℕ → ℕ) (ms : List ℕ) (i : ℕ) → length ms ≤ i → i ≤ length ms → mapped f i ms ≡ map f ms
mapped_end f ms i h g = let e : i ≡ length ms = omega arith in rw (e, drop-length, take-length, append-nil)

-- a part at a time
module _ (f : ℕ → ℕ) (ms now : List ℕ) (i : ℕ) (h : i ≤ length ms) (e : now ≡ mapped f i ms) where
  mapped_head : length (map f (take i ms)) ≡ i
  mapped_head = length-map (take i ms) f ∙ length-take-le i ms h

  pub mapped_done : take i now ≡ map f (take i ms)
  mapped_done = ap (take i) e ∙ take_at (map f (take i ms)) (drop i ms) i mapped_head

  -- what is left is as it was
  pub mapped_left : drop i now ≡ drop i ms
  mapped_left = ap (drop i) e ∙ drop_at (map f (take i ms)) (drop i ms) i mapped_head

  pub mapped_part : (n : ℕ) (ys : List ℕ) → ys ≡ map f (take n (drop i now)) → put_mid i n now ys ≡ mapped f (i + n) ms
  mapped_part n ys y =
      let part : ys ≡ map f (take n (drop i ms)) = y ∙ ap (λ l. map f (take n l)) mapped_left in
      rw (part, mapped_done, mapped_left, drop-drop n i ms, take-add i n ms, map-append, append_assoc)

  -- the last part
  pub mapped_last : (ys : List ℕ) → length now ≡ length ms → ys ≡ map f (take (length now - i) (drop i now)) → put_mid i (length now - i) now ys ≡ map f ms
  mapped_last ys l y = mapped_part (length now - i) ys y ∙ mapped_end f ms (i + (length now - i)) (omega arith) (omega arith)
