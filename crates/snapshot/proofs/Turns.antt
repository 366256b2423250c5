-- What is found at a place of a file, from its parts. Assumes nothing.
use mathlib.Core.Bool.{Bool, true, false, not, cond}
use mathlib.Core.Path.{◌≡◌, refl, sym, ap, ◌∙◌}
use mathlib.Core.List.{List}
use Prim.Native.Nat.{ℕ, zero, suc, ◌+◌, ◌-◌, ◌*◌, ◌/◌, ◌%◌, ◌≤◌, ◌<◌, min}
use native.Mathlib.Nat.{mul-suc}
use native.Mathlib.Omega.{arith}
use lib.Dec.{ltb, eqb}
use lib.ListN.{length, take, drop, length-drop}
use lib.Seq.{length-take-le}
use borrow.Author.Tests.{eqb-true, ltb-true, eq-eqb, ne_eqb, lt-ltb}
use Rattle.refusal.proofs.Tests.{and_true}
use Rattle.snapshot_blocks.specs.declared.Row.{Row}
use Rattle.snapshot_blocks.specs.Formats.{Format, format_of, row_length, per_block}
use Rattle.snapshot_blocks.specs.Blocks.{wrong_in, judged_in, count_in, version_in, id_at, row_at}
use Rattle.snapshot_blocks.proofs.Turns.{format_of_few, format_of_sound, judged_in_block}
use Rattle.snapshot_blocks.proofs.Blocks.{Right, is_count_per_block, wrong_in_right, per_block_room}
use Rattle.snapshot.specs.Snapshot.{block_at, is_place, is_last, follows, or_else, wrong_at, wrong_by}
use Rattle.std.specs.Prelude.{Option, Some, None}
use Rattle.std.proofs.lemmas.Option.{none-some}
use Rattle.refusal.specs.declared.Kind.{Kind}
use Rattle.refusal.specs.Refusals.{wrong_shape, wrong_block}

pub record Place (number len : ℕ) : Type 0 where
  pub whole : len % 512 ≡ 0
  pub within : number < len / 512

pub is_place_place : (number len : ℕ) → is_place number len ≡ true → Place number len
unfolding is_place
is_place_place number len e =
    let p = and_true (eqb (len % 512) 0) (ltb number (len / 512)) e in
    record { whole = eqb-true (len % 512) 0 p.0; within = ltb-true number (len / 512) p.1 }

pub place_is_place : (number len : ℕ) → len % 512 ≡ 0 → number < len / 512 → is_place number len ≡ true
unfolding is_place
place_is_place number len e h = rw (eq-eqb (len % 512) 0 e, lt-ltb number (len / 512) h)

pub place_end : (number len : ℕ) → is_place number len ≡ true → 512 * number + 512 ≤ len
place_end number len e = let p = is_place_place number len e in omega (arith, p.whole, p.within)

-- ---- the part that is a block
pub part_block : (number start : ℕ) (file : List ℕ) → start ≡ 512 * number → take (start + 512 - start) (drop start file) ≡ block_at number file
part_block number start file e = let w : start + 512 - start ≡ 512 = omega arith in rw (w, e)

pub part_before : (number : ℕ) (file : List ℕ) → (number ≡ 0 → ⊥) → take (512 * number - (512 * number - 512)) (drop (512 * number - 512) file) ≡ block_at (number - 1) file
part_before zero file h = absurd (h refl)
part_before (suc n) file h =
    let w : 512 * suc n - (512 * suc n - 512) ≡ 512 = omega arith in
    let s : 512 * suc n - 512 ≡ 512 * (suc n - 1) = omega arith in
    rw (w, s)

pub length_block_at : (number : ℕ) (file : List ℕ) → 512 * number + 512 ≤ length file → length (block_at number file) ≡ 512
length_block_at number file h = let n = length-drop (512 * number) file in length-take-le 512 (drop (512 * number) file) (omega arith)

-- ---- follows, of a block of a known version
module _ (before block : List ℕ) (known : version_in block ≡ (format_of (version_in block)).version) where
  pub follows_other : (version_in before ≡ version_in block → ⊥) → false ≡ follows (format_of (version_in block)) before block
  unfolding follows
  follows_other n = rw (ne_eqb (version_in before) (format_of (version_in block)).version (λ e. n (e ∙ sym known)))

  pub follows_same : (last a b : ℕ) → version_in before ≡ version_in block → last ≡ per_block (format_of (version_in block)) - 1
      → a ≡ id_at (format_of (version_in before)) (min last 20) before → b ≡ id_at (format_of (version_in block)) 0 block
      → ltb a b ≡ follows (format_of (version_in block)) before block
  unfolding follows
  follows_same last a b e l p q =
      let few : min last 20 ≡ last = omega (arith, l, format_of_few (version_in block)) in
      rw (eq-eqb (version_in before) (format_of (version_in block)).version (e ∙ known), p, q, few, e, l)

-- ---- wrong_at
module _ (f : Format) (number : ℕ) (file : List ℕ) (wrong : Option Kind) (p : is_place number (length file) ≡ true)
    (e : wrong ≡ judged_in f number (is_last number file) (block_at number file)) where
  told : wrong ≡ wrong_in f number (is_last number file) (block_at number file)
  told = e ∙ judged_in_block f number (is_last number file) (block_at number file) (length_block_at number file (place_end number (length file) p))

  pub wrong_at_in : (kind : Kind) → wrong ≡ Some kind → Some kind ≡ wrong_at f number file
  unfolding wrong_at
  wrong_at_in kind h = rw (p, ← told, h)

  pub wrong_at_first : wrong ≡ None → number ≡ 0 → None ≡ wrong_at f number file
  unfolding wrong_at
  wrong_at_first h z = rw (p, ← told, h, eq-eqb number 0 z)

  -- a block in which nothing is wrong is of the version of the format
  pub wrong_at_known : wrong ≡ None → version_in (block_at number file) ≡ f.version
  wrong_at_known h = (wrong_in_right f number (is_last number file) (block_at number file) (sym told ∙ h)).versioned

  module _ (h : wrong ≡ None) (z : number ≡ 0 → ⊥) (r : Bool) (q : r ≡ follows f (block_at (number - 1) file) (block_at number file)) where
    pub wrong_at_follows : r ≡ true → None ≡ wrong_at f number file
    unfolding wrong_at
    wrong_at_follows t = rw (p, ← told, h, ne_eqb number 0 z, ← q, t)

    pub wrong_at_not : r ≡ false → Some wrong_block ≡ wrong_at f number file
    unfolding wrong_at
    wrong_at_not t = rw (p, ← told, h, ne_eqb number 0 z, ← q, t)

-- ---- when nothing is wrong at a place
pub record Good (f : Format) (number : ℕ) (file : List ℕ) : Type 0 where
  pub place : is_place number (length file) ≡ true
  pub right : Right f number (is_last number file) (block_at number file)

pub wrong_at_good : (f : Format) (number : ℕ) (file : List ℕ) → wrong_at f number file ≡ None → Good f number file
unfolding wrong_at
wrong_at_good f number file =
    by (is_place number (length file)) (wrong_in f number (is_last number file) (block_at number file)) refl refl
  where
    by : (a : Bool) (w : Option Kind) → is_place number (length file) ≡ a → wrong_in f number (is_last number file) (block_at number file) ≡ w
        → cond (not a) (Some wrong_shape) (or_else w (cond (eqb number 0) None (cond (follows f (block_at (number - 1) file) (block_at number file)) None (Some wrong_block)))) ≡ None
        → Good f number file
    by false w p q e = absurd (none-some _ (sym e))
    by true (Some kind) p q e = absurd (none-some _ (sym e))
    by true None p q e = record { place = p; right = wrong_in_right f number (is_last number file) (block_at number file) q }

module _ (f : Format) (number : ℕ) (file : List ℕ) (e : wrong_at f number file ≡ None) where
  pub wrong_at_count : count_in (block_at number file) ≤ per_block f
  wrong_at_count = is_count_per_block f number (is_last number file) (count_in (block_at number file)) (wrong_at_good f number file e).right.counted

  pub wrong_at_end : 512 * number + 512 ≤ length file
  wrong_at_end = place_end number (length file) (wrong_at_good f number file e).place

pub wrong_at_few : (number : ℕ) (file : List ℕ) → wrong_by format_of number file ≡ None → count_in (block_at number file) ≤ 20
wrong_at_few number file e =
    let v = version_in (block_at number file) in
    omega (arith, wrong_at_count (format_of v) number file e, format_of_few v)

-- ---- the row at a place of a block, and where its key stands in the file
module _ (v row : ℕ) (block : List ℕ) (shown : Row) (h : row < per_block (format_of v)) (e : shown ≡ row_at (format_of v) 0 (min row 20) block) where
  at_row : shown ≡ row_at (format_of v) 0 row block
  at_row = let k : min row 20 ≡ row = omega (arith, format_of_few v) in rw k at e

  pub key_within : shown.key < 512
  key_within =
      let f = format_of v in
      let m = mul-suc (row_length f) row in
      let r : row_length f * suc row ≤ 480 = per_block_room f (suc row) (omega arith) in
      let k : shown.key ≡ 0 + (8 + row_length f * row + 25) = ap (λ (s : Row). s.key) at_row in
      omega (arith, (format_of_sound v).wide)

  pub placed_row : (start : ℕ)
      → ◌≡◌ {A = Row} (record { id = shown.id; collection = shown.collection; location = shown.location; key = start + shown.key; length = shown.length })
      (row_at (format_of v) start row block)
  placed_row start =
      let z : 0 + (8 + row_length (format_of v) * row + 25) ≡ 8 + row_length (format_of v) * row + 25 = omega arith in
      rw (at_row, z)
