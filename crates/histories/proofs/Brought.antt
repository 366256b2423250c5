-- The rows of a column as they can be brought again: a rebuild keeps them as they were, and none has a key that is too long. Assumes nothing.
use mathlib.Core.Path.{◌≡◌, refl, ap, ◌∙◌}
use mathlib.Core.Bool.{true}
use mathlib.Core.List.{List, [], ◌∷◌, ◌++◌}
use Prim.Native.Nat.{ℕ, ◌+◌, ◌*◌, ◌≤◌, ◌<◌}
use native.Mathlib.Omega.{arith}
use lib.ListN.{length}
use Rattle.refusal.specs.declared.Kind.{Kind}
use Rattle.list_parts.specs.Parts.{part}
use Rattle.list_parts.specs.Lists.{elem}
use Rattle.list_parts.proofs.Lists.{elem_head, elem_tail}
use Rattle.list_parts.proofs.Parts.{part_end, length_part_full}
use Rattle.carried.specs.Carried.{width, rows_at}
use Rattle.keys.specs.Keys.{normal_rows, long_in, all_stored}
use Rattle.keys.proofs.Laws.{normal_brought, is_normal_short}
use Rattle.keys.proofs.Brought.{brought_of, kept_of, Wholes, length_brought_of, long_in_brought_of, normal_rows_brought_of}
use Rattle.model.specs.Verdict.{ok, tests_from}
use Rattle.model.proofs.Verdicts.{tests_from_none}
use Rattle.histories.specs.Statements.{Normal}

abbrev pub brought_at : List ℕ → List ℕ → List ℕ
brought_at c is = brought_of (part width c) is

-- of a column of n rows, each normal
module _ (n : ℕ) (c : List ℕ) (size : length c ≡ n * width) (v : Normal c) where
  fits : (i : ℕ) → i < n → i * width + width ≤ length c
  fits i h = rw size (part_end width n i h)

  full : (i : ℕ) → i < n → length (part width c i) ≡ width
  full i h = length_part_full width c i (fits i h)

  wholes : (is : List ℕ) → ((i : ℕ) → elem i is ≡ true → i < n) → Wholes (part width c) is
  wholes [] h = tt
  wholes (i ∷ is) h =
      let b = h i (elem_head i i is refl) in
      ((omega (arith, full i b), is_normal_short (part width c i) (v i (fits i b))), wholes is (λ j e. h j (elem_tail j i is e)))

  kept_rows : (is : List ℕ) → ((i : ℕ) → elem i is ≡ true → i < n) → kept_of (part width c) is ≡ rows_at width c is
  unfolding rows_at
  kept_rows [] h = refl
  kept_rows (i ∷ is) h =
      let b = h i (elem_head i i is refl) in
      λ k. normal_brought (part width c i) (full i b) (v i (fits i b)) k ++ kept_rows is (λ j e. h j (elem_tail j i is e)) k

  -- the rows of these numbers
  module _ (is : List ℕ) (below : (i : ℕ) → elem i is ≡ true → i < n) where
    pub brought_wide : length (brought_at c is) ≡ length is * width
    brought_wide = length_brought_of (part width c) is (wholes is below)

    pub brought_short : (kind : Kind) → tests_from kind 0 (long_in (all_stored is) (brought_at c is)) ≡ ok
    brought_short kind = ap (tests_from kind 0) (long_in_brought_of (part width c) is (wholes is below)) ∙ tests_from_none kind 0 is

    pub brought_kept : normal_rows (all_stored is) (brought_at c is) ≡ rows_at width c is
    brought_kept = normal_rows_brought_of (part width c) is (wholes is below) ∙ kept_rows is below
