-- Rows brought again, one after the other, of things that each have a row: they are whole, none has a key that is too long, and each is kept as the
-- normal form of its own. Assumes nothing.
use mathlib.Core.Path.{◌≡◌, refl, ◌∙◌}
use mathlib.Core.Bool.{true, false}
use mathlib.Core.List.{List, [], ◌∷◌, ◌++◌, map}
use Prim.Native.Nat.{ℕ, ◌*◌, ◌≤◌}
use native.Mathlib.Nat.{suc-mul}
use native.Mathlib.Omega.{arith}
use lib.ListN.{length, length-append}
use lib.Seq.{take_at, drop_at}
use Rattle.carried.specs.Carried.{width}
use Rattle.keys.specs.Keys.{most_key, key_length, brought, key_is_long, long_in, normal, normal_rows}
use Rattle.keys.proofs.Laws.{length_brought, key_is_long_brought}

-- a row of either version: it has a collection, and its key is not too long
abbrev pub Whole : List ℕ → Type 0
Whole c = (8 ≤ length c) × (key_length c ≤ most_key)

module _ {A : Type 0} (row : A → List ℕ) where
  abbrev pub brought_of : List A → List ℕ
  brought_of [] = []
  brought_of (x ∷ xs) = brought (row x) ++ brought_of xs

  abbrev pub kept_of : List A → List ℕ
  kept_of [] = []
  kept_of (x ∷ xs) = normal (brought (row x)) ++ kept_of xs

  abbrev pub Wholes : List A → Type 0
  Wholes [] = Unit {0}
  Wholes (x ∷ xs) = Whole (row x) × Wholes xs

  wide : (x : A) → Whole (row x) → length (brought (row x)) ≡ width
  wide x w = length_brought (row x) w.0 w.1

  pub length_brought_of : (xs : List A) → Wholes xs → length (brought_of xs) ≡ length xs * width
  length_brought_of [] w = refl
  length_brought_of (x ∷ xs) w =
      let f = wide x w.0 in
      let g = length_brought_of xs w.1 in
      rw (length-append, suc-mul) (omega arith)

  pub long_in_brought_of : (xs : List A) → Wholes xs → long_in (map (λ (x : A). true) xs) (brought_of xs) ≡ map (λ (x : A). false) xs
  unfolding long_in
  long_in_brought_of [] w = refl
  long_in_brought_of (x ∷ xs) w =
      let t = take_at (brought (row x)) (brought_of xs) width (wide x w.0) in
      let d = drop_at (brought (row x)) (brought_of xs) width (wide x w.0) in
      (λ k. key_is_long (t k) ∷ long_in (map (λ (y : A). true) xs) (d k))
      ∙ (λ k. key_is_long_brought (row x) w.0.0 w.0.1 k ∷ long_in_brought_of xs w.1 k)

  pub normal_rows_brought_of : (xs : List A) → Wholes xs → normal_rows (map (λ (x : A). true) xs) (brought_of xs) ≡ kept_of xs
  unfolding normal_rows
  normal_rows_brought_of [] w = refl
  normal_rows_brought_of (x ∷ xs) w =
      let t = take_at (brought (row x)) (brought_of xs) width (wide x w.0) in
      let d = drop_at (brought (row x)) (brought_of xs) width (wide x w.0) in
      (λ k. normal (t k) ++ normal_rows (map (λ (y : A). true) xs) (d k)) ∙ (λ k. normal (brought (row x)) ++ normal_rows_brought_of xs w.1 k)
