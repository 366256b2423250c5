-- Which rows of version 2 are refused, by the byte that says how long the key is and by what follows the key. Assumes nothing.
use mathlib.Core.Bool.{true, false, not}
use mathlib.Core.Path.{◌≡◌, ap, ◌∙◌}
use mathlib.Core.List.{List, ◌++◌}
use Prim.Native.Nat.{ℕ, zero, ◌+◌, ◌-◌, ◌≤◌, ◌<◌}
use native.Mathlib.Omega.{arith}
use lib.ListN.{length, get_or, take, drop, length-drop}
use lib.Seq.{length-take-le, drop_at, drop-drop, drop-append-add, take-add, get_or-append-add, get_or-take, get_or-drop}
use borrow.Author.Tests.{le-leb, lt-leb}
use Rattle.zeros.specs.Zeros.{all_zero}
use Rattle.keys.specs.Keys.{key_length, is_normal}
use Rattle.snapshot_blocks.specs.Formats.{Format, version2, row_length}
use Rattle.snapshot_blocks.specs.Blocks.{entry_of, entries_in, any_refused}
use Rattle.snapshot_blocks.proofs.Turns.{entries_turn}

-- ---- one row, from `start` on
module _ (l : List ℕ) (start : ℕ) (h : start + 96 ≤ length l) where
  front : List ℕ
  front = take 8 (drop 8 (drop start l))

  behind : List ℕ
  behind = take 72 (drop 24 (drop start l))

  length_front : length front ≡ 8
  unfolding front
  length_front = let n = length-drop start l in length-take-le 8 (drop 8 (drop start l)) (rw (length-drop 8 (drop start l)) (omega arith))

  key_length_at : key_length (front ++ behind) ≡ get_or l (start + 24) 0
  unfolding behind
  key_length_at =
      let e : 8 ≡ length front + 0 = omega (arith, length_front) in
      ap (λ (k : ℕ). get_or (front ++ behind) k 0) e
      ∙ get_or-append-add front behind 0 0
      ∙ get_or-take 72 (drop 24 (drop start l)) 0 0 (omega arith)
      ∙ get_or-drop 24 (drop start l) 0 0
      ∙ get_or-drop start l 24 0

  behind_key : (n : ℕ) → n ≤ 64 → drop (9 + n) (front ++ behind) ≡ take (start + 96 - (start + 25 + n)) (drop (start + 25 + n) l)
  unfolding behind
  behind_key n b =
      let d = drop 24 (drop start l) in
      let ld : 72 ≤ length d = rw (length-drop 24 (drop start l), length-drop start l) (omega arith) in
      let e : 9 + n ≡ length front + (1 + n) = omega (arith, length_front) in
      let w : 72 ≡ (1 + n) + (71 - n) = omega arith in
      let at : 24 + (1 + n) ≡ 25 + n = omega arith in
      let at₂ : start + (25 + n) ≡ start + 25 + n = omega arith in
      let v : 71 - n ≡ start + 96 - (start + 25 + n) = omega arith in
      ap (λ (k : ℕ). drop k (front ++ behind)) e
      ∙ drop-append-add front behind (1 + n)
      ∙ ap (λ (k : ℕ). drop (1 + n) (take k d)) w
      ∙ ap (drop (1 + n)) (take-add (1 + n) (71 - n) d)
      ∙ drop_at (take (1 + n) d) (take (71 - n) (drop (1 + n) d)) (1 + n) (length-take-le (1 + n) d (omega arith))
      ∙ ap (take (71 - n)) (drop-drop (1 + n) 24 (drop start l) ∙ ap (λ (k : ℕ). drop k (drop start l)) at ∙ drop-drop (25 + n) start l ∙ ap (λ (k : ℕ). drop k l) at₂)
      ∙ ap (λ (k : ℕ). take k (drop (start + 25 + n) l)) v

  pub refused_long : 64 < get_or l (start + 24) 0 → not (is_normal (entry_of version2 (drop start l)).carried) ≡ true
  unfolding is_normal entry_of front behind
  refused_long b = rw (key_length_at, lt-leb (get_or l (start + 24) 0) 64 b)

  pub refused_behind : (n : ℕ) → n ≡ get_or l (start + 24) 0 → n ≤ 64
      → is_normal (entry_of version2 (drop start l)).carried ≡ all_zero (take (start + 96 - (start + 25 + n)) (drop (start + 25 + n) l))
  unfolding is_normal entry_of front behind
  refused_behind n e b = rw (key_length_at, ← e, le-leb n 64 b, behind_key n b)

-- ---- a turn of the loop over the rows
module _ (f : Format) (rows : List ℕ) (count i start : ℕ) where
  pub refused_met : i < count → f.refuses (entry_of f (drop start rows)).carried ≡ true → any_refused f (entries_in f (count - i) (drop start rows)) ≡ true
  unfolding any_refused
  refused_met h r = rw (entries_turn f rows count i start h, r)

  pub refused_turn : i < count → f.refuses (entry_of f (drop start rows)).carried ≡ false
      → (next : ℕ) → start + row_length f ≡ next
      → any_refused f (entries_in f (count - (i + 1)) (drop next rows)) ≡ any_refused f (entries_in f (count - i) (drop start rows))
  unfolding any_refused
  refused_turn h r next n = rw (← n, entries_turn f rows count i start h, r)

  pub refused_done : count ≤ i → any_refused f (entries_in f (count - i) (drop start rows)) ≡ false
  unfolding any_refused entries_in
  refused_done h = let e : count - i ≡ zero = omega arith in rw e
