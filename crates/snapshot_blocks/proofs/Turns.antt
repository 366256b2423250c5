-- What the functions on one block come down to: the formats that are read, a turn of a loop over the rows, the row at a place.
-- Assumes nothing.
use mathlib.Core.Bool.{Bool, true, false, not, cond}
use mathlib.Core.Path.{◌≡◌, refl, sym, ap, ◌∙◌}
use mathlib.Core.List.{List, [], ◌∷◌}
use Prim.Native.Nat.{ℕ, zero, suc, ◌+◌, ◌-◌, ◌*◌, ◌≤◌, ◌<◌}
use native.Mathlib.Numerals.{add-one}
use native.Mathlib.Nat.{mul-one, mul-suc, mul-le-mul}
use native.Mathlib.Omega.{arith}
use lib.Dec.{eqb, lit<, lit≤}
use lib.ListN.{length, drop, get_or-eq_default}
use lib.Seq.{drop-drop}
use borrow.Author.Tests.{lt-ltb, le-ltb, eq-eqb, ne_eqb}
use Rattle.refusal.proofs.Tests.{clash}
use Rattle.little_endian.specs.LittleEndian.{get_at}
use Rattle.keys.specs.Keys.{key_length, is_normal}
use Rattle.keys.proofs.Laws.{is_normal_short}
use Rattle.snapshot_blocks.specs.Formats.{Format, version1, version2, format_of, row_length, per_block}
use Rattle.snapshot_blocks.specs.Blocks.{Entry, above, ascending, any_refused, entry_of, entries_in, wrong_in, judged_in, key_length_in, row_at}
use Rattle.snapshot_blocks.specs.Valid.{Sound}
use Rattle.snapshot_blocks.specs.declared.Row.{Row}
use Rattle.snapshot_blocks.proofs.Fields.{get_at_drop}

-- ---- where a row starts
pub start_le : (width k : ℕ) → width ≤ 80 → k ≤ 20 → (16 + width) * k ≤ 1920
start_le width k h l =
    let a : 16 + width ≤ 96 = omega arith in
    let m : (16 + width) * k ≤ 96 * 20 = mul-le-mul a l in
    omega arith

pub next_start : (width i start : ℕ) → start ≡ (16 + width) * i → start + (16 + width) ≡ (16 + width) * (i + 1)
next_start width i start s = let m = mul-suc (16 + width) i in sym (ap (λ (x : ℕ). (16 + width) * x) (add-one i) ∙ m ∙ omega arith)

-- ---- the order of rows
module _ (f : Format) (rows : List ℕ) (count i start : ℕ) (h : i < count) where
  pub entries_turn : entries_in f (count - i) (drop start rows) ≡ entry_of f (drop start rows) ∷ entries_in f (count - (i + 1)) (drop (start + row_length f) rows)
  unfolding entries_in
  entries_turn = let e : count - i ≡ suc (count - (i + 1)) = omega arith in rw (e, drop-drop (row_length f) start rows)

  id_turn : (entry_of f (drop start rows)).id ≡ get_at start (start + 8) rows
  unfolding entry_of
  id_turn = let e : start + 0 ≡ start = omega arith in rw e at (get_at_drop start 0 8 rows (lit< tt))

  pub above_turn : (before id width next : ℕ) → f.width ≡ width → start + (16 + width) ≡ next → id ≡ get_at start (start + 8) rows → before < id
      → above id (entries_in f (count - (i + 1)) (drop next rows)) ≡ above before (entries_in f (count - i) (drop start rows))
  unfolding above
  above_turn before id width next w n e l = rw (← n, entries_turn, id_turn, ← e, lt-ltb before id l, w)

  pub above_not : (before id : ℕ) → id ≡ get_at start (start + 8) rows → id ≤ before → above before (entries_in f (count - i) (drop start rows)) ≡ false
  unfolding above
  above_not before id e l = rw (entries_turn, id_turn, ← e, le-ltb before id l)

module _ (f : Format) (rows : List ℕ) (count : ℕ) where
  pub above_done : (i start before : ℕ) → count ≤ i → above before (entries_in f (count - i) (drop start rows)) ≡ true
  unfolding above entries_in
  above_done i start before h = let e : count - i ≡ zero = omega arith in rw e

  pub ascending_none : count ≡ 0 → ascending (entries_in f count rows) ≡ true
  unfolding ascending entries_in
  ascending_none e = rw e

-- before the first turn
pub above_first : (f : Format) (rows : List ℕ) (count width before : ℕ) → f.width ≡ width → before ≡ get_at 0 8 rows
    → above before (entries_in f (count - 1) (drop ((16 + width) * 1) rows)) ≡ ascending (entries_in f count rows)
unfolding above ascending entries_in entry_of
above_first f rows zero width before w b = refl
above_first f rows (suc n) width before w b =
    let e : suc n - 1 ≡ n = omega arith in
    rw (e, mul-one (16 + width), b, ← w)

-- ---- what is wrong in a block that has its length
pub judged_in_block : (f : Format) (number : ℕ) (last : Bool) (block : List ℕ) → length block ≡ 512 → judged_in f number last block ≡ wrong_in f number last block
unfolding judged_in
judged_in_block f number last block e = rw (eq-eqb (length block) 512 e)

-- ---- the formats that are read
pub version1_sound : Sound version1
version1_sound = record { wide = lit≤ tt; narrow = lit≤ tt; fits = lit< tt; keyed = λ c l r. omega (arith, get_or-eq_default c 0 {n = 8} (omega arith)) }

not_false : (b : Bool) → not b ≡ false → b ≡ true
not_false true e = refl
not_false false e = clash e

-- what is not refused has a key of 64 bytes at most
short_version2 : (c : List ℕ) → not (is_normal c) ≡ false → key_length c ≤ 64
short_version2 c r = is_normal_short c (not_false (is_normal c) r)

pub version2_sound : Sound version2
version2_sound = record { wide = lit≤ tt; narrow = lit≤ tt; fits = lit< tt; keyed = λ c l r. omega (arith, short_version2 c r) }

pub per_block_version1 : per_block version1 ≡ 20
unfolding per_block
per_block_version1 = refl

pub per_block_version2 : per_block version2 ≡ 5
unfolding per_block
per_block_version2 = refl

pub any_refused_version1 : (es : List Entry) → any_refused version1 es ≡ false
unfolding any_refused
any_refused_version1 [] = refl
any_refused_version1 (e ∷ es) = any_refused_version1 es

-- ---- format_of
module _ (v : ℕ) where
  pub format_of_now : v ≡ 2 → format_of v ≡ version2
  unfolding format_of
  format_of_now e = rw (eq-eqb v 2 e)

  pub format_of_before : (v ≡ 2 → ⊥) → format_of v ≡ version1
  unfolding format_of
  format_of_before n = rw (ne_eqb v 2 n)

  -- what holds of both formats holds of that of every version
  pub format_of_both : (P : Format → Type 0) → P version1 → P version2 → P (format_of v)
  unfolding format_of
  format_of_both P p q = by (eqb v 2)
    where
      by : (b : Bool) → P (cond b version2 version1)
      by true = q
      by false = p

  pub format_of_sound : Sound (format_of v)
  format_of_sound = format_of_both Sound version1_sound version2_sound

  pub format_of_short : (c : List ℕ) → length c ≡ (format_of v).width → (format_of v).refuses c ≡ false → key_length c ≤ 64
  format_of_short =
      format_of_both (λ f. (c : List ℕ) → length c ≡ f.width → f.refuses c ≡ false → key_length c ≤ 64)
      (λ c l r. omega (arith, get_or-eq_default c 0 {n = 8} (omega arith)))
      (λ c l r. short_version2 c r)

  pub format_of_few : per_block (format_of v) ≤ 20
  format_of_few = format_of_both (λ f. per_block f ≤ 20) (omega (arith, per_block_version1)) (omega (arith, per_block_version2))

-- ---- the row at k, read by its numbers
pub row_shown : (f : Format) (l : List ℕ) (k start id collection location long : ℕ) → start ≡ 8 + row_length f * k → id ≡ get_at start (start + 8) l
    → collection ≡ get_at (start + 8) (start + 16) l → location ≡ get_at (start + 16) (start + 24) l → long ≡ key_length_in f (drop start l)
    → ◌≡◌ {A = Row} (record { id = id; collection = collection; location = location; key = start + 25; length = long }) (row_at f 0 k l)
row_shown f l k start id collection location long s e₁ e₂ e₃ e₄ =
    let z : start + 0 ≡ start = omega arith in
    let o : 0 + (start + 25) ≡ start + 25 = omega arith in
    rw (← s, o, ← e₄, get_at_drop start 0 8 l (lit< tt), get_at_drop start 8 16 l (lit< tt), get_at_drop start 16 24 l (lit< tt), z, ← e₁, ← e₂, ← e₃)

pub key_length_none : (v : ℕ) (bytes : List ℕ) → (v ≡ 2 → ⊥) → 0 ≡ key_length_in (format_of v) bytes
key_length_none v bytes n = rw (format_of_before v n)

pub key_length_some : (v start : ℕ) (l : List ℕ) → v ≡ 2 → get_at (start + 24) (start + 25) l ≡ key_length_in (format_of v) (drop start l)
key_length_some v start l e = rw (format_of_now v e) (sym (get_at_drop start 24 25 l (lit< tt)))
