-- When a block can be written: what the test of each id and of the lengths says of the tables. Assumes nothing.
use mathlib.Core.Bool.{Bool, true, false, ◌&&◌}
use mathlib.Core.Path.{◌≡◌, refl, ap, ◌∙◌}
use Rattle.std.specs.List.{list_all}
use mathlib.Core.List.{List, [], ◌∷◌}
use Prim.Native.Nat.{ℕ, zero, suc, ◌+◌, ◌≤◌, ◌<◌}
use native.Mathlib.Numerals.{add-one}
use native.Mathlib.Omega.{arith}
use lib.Dec.{eqb, leb, ltb}
use lib.ListN.{length, get_or, drop, drop_of_length-le}
use lib.Seq.{drop-cons}
use borrow.Author.Tests.{lt-ltb, le-ltb, ltb-true, eq-eqb, ne_eqb, eqb-true, le-leb, lt-leb, leb-true}
use Rattle.refusal.proofs.Tests.{and_true}
use Rattle.snapshot_blocks.specs.Formats.{version2, per_block}
use Rattle.snapshot_blocks.specs.Blocks.{AreRows, rows_in_both, each_below, can_write}
use Rattle.snapshot_blocks.proofs.Turns.{per_block_version2}

-- ---- the library's `all` of the ids
pub all_each_below : (rows : ℕ) (ids : List ℕ) → list_all (λ i. ltb i rows) ids ≡ each_below rows ids
unfolding each_below
all_each_below rows [] = refl
all_each_below rows (i ∷ ids) = ap (λ b. ltb i rows && b) (all_each_below rows ids)

pub told_each_below : (ids : List ℕ) (least rows : ℕ) (told : Bool) → told ≡ list_all (λ i. ltb i least) ids → least ≡ rows → told ≡ each_below rows ids
told_each_below ids least rows told e m = e ∙ all_each_below least ids ∙ ap (λ (r : ℕ). each_below r ids) m

-- ---- one id after the other
module _ (rows : ℕ) (ids : List ℕ) (i : ℕ) where
  below_turn : i < length ids → each_below rows (drop i ids) ≡ (ltb (get_or ids i 0) rows && each_below rows (drop (i + 1) ids))
  unfolding each_below
  below_turn h = rw (add-one i, drop-cons ids i 0 h)

  pub below_next : i < length ids → get_or ids i 0 < rows → each_below rows (drop (i + 1) ids) ≡ each_below rows (drop i ids)
  below_next h l = rw (below_turn h, lt-ltb (get_or ids i 0) rows l)

  pub below_not : i < length ids → rows ≤ get_or ids i 0 → each_below rows (drop i ids) ≡ false
  below_not h l = rw (below_turn h, le-ltb (get_or ids i 0) rows l)

  pub below_done : length ids ≤ i → each_below rows (drop i ids) ≡ true
  unfolding each_below
  below_done h = rw (drop_of_length-le ids {i = i} h)

-- ---- every id
pub each_below_at : (rows : ℕ) (ids : List ℕ) → each_below rows ids ≡ true → (k : ℕ) → k < length ids → get_or ids k 0 < rows
unfolding each_below
each_below_at rows [] e k h = absurd (omega arith)
each_below_at rows (i ∷ ids) e zero h = ltb-true i rows (and_true (ltb i rows) (each_below rows ids) e).0
each_below_at rows (i ∷ ids) e (suc k) h = each_below_at rows ids (and_true (ltb i rows) (each_below rows ids) e).1 k (omega arith)

pub at_each_below : (rows : ℕ) (ids : List ℕ) → ((k : ℕ) → k < length ids → get_or ids k 0 < rows) → each_below rows ids ≡ true
unfolding each_below
at_each_below rows [] f = refl
at_each_below rows (i ∷ ids) f = rw (lt-ltb i rows (f 0 (omega arith)), at_each_below rows ids (λ k h. f (suc k) (omega arith)))

-- ---- the test of a block
module _ (ids : List ℕ) (locations carried block : ℕ) where
  pub can_write_many : 5 < length ids → can_write version2 ids locations carried block ≡ false
  unfolding can_write
  can_write_many h = rw (per_block_version2, lt-leb (length ids) 5 h)

  pub can_write_short : length ids ≤ 5 → (block ≡ 512 → ⊥) → can_write version2 ids locations carried block ≡ false
  unfolding can_write
  can_write_short h n = rw (per_block_version2, le-leb (length ids) 5 h, ne_eqb block 512 n)

  pub can_write_each : length ids ≤ 5 → block ≡ 512 → can_write version2 ids locations carried block ≡ each_below (rows_in_both 80 locations carried) ids
  unfolding can_write
  can_write_each h e = rw (per_block_version2, le-leb (length ids) 5 h, eq-eqb block 512 e)

module _ (ids locations carried : List ℕ) (block : ℕ) where
  pub can_write_rows : can_write version2 ids (length locations) (length carried) block ≡ true → (length ids ≤ 5) × (block ≡ 512) × AreRows 80 locations carried ids
  unfolding can_write
  can_write_rows e =
      let rows = rows_in_both 80 (length locations) (length carried) in
      let p = and_true (leb (length ids) (per_block version2)) (eqb block 512 && each_below rows ids) e in
      let q = and_true (eqb block 512) (each_below rows ids) p.1 in (
        rw per_block_version2 at (leb-true (length ids) (per_block version2) p.0),
        eqb-true block 512 q.0,
        λ k h. let b = each_below_at rows ids q.1 k h in (omega arith, omega arith),
      )

  pub rows_can_write : length ids ≤ 5 → block ≡ 512 → AreRows 80 locations carried ids → can_write version2 ids (length locations) (length carried) block ≡ true
  rows_can_write h e r =
      can_write_each ids (length locations) (length carried) block h e
      ∙ at_each_below (rows_in_both 80 (length locations) (length carried)) ids (λ k l. let b = r k l in omega (arith, b.0, b.1))
