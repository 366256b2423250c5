-- The row at p of a file whose blocks are right by the format of the first: which block it is in, that it stands there, and that its key does. Assumes
-- nothing.
use Rattle.std.specs.Prelude.{None}
use mathlib.Core.Bool.{true, false, cond}
use mathlib.Core.Path.{◌≡◌, refl, sym, ap, ◌∙◌}
use mathlib.Core.List.{List, [], ◌∷◌}
use Prim.Native.Nat.{ℕ, zero, suc, ◌+◌, ◌-◌, ◌*◌, ◌/◌, ◌%◌, ◌≤◌, ◌<◌}
use native.Mathlib.Nat.{mul-suc, mul-le-mul_left, div-add-mod, mod-lt, le_trans}
use native.Mathlib.Omega.{arith}
use lib.Dec.{ltb}
use lib.ListN.{length, take, drop, length-drop}
use lib.Seq.{take-nil, drop-drop}
use borrow.Author.Tests.{ltb-true, ltb-false, ne_eqb, eqb-true}
use Rattle.refusal.proofs.Tests.{by_test}
use Rattle.little_endian.specs.LittleEndian.{get_at}
use Rattle.snapshot_blocks.specs.Formats.{Format, row_length, per_block}
use Rattle.snapshot_blocks.specs.Blocks.{count_in, version_in, entry_of, is_count, key_length_in}
use Rattle.snapshot_blocks.specs.Valid.{Sound}
use Rattle.snapshot_blocks.proofs.Blocks.{per_block_some, per_block_room}
use Rattle.snapshot_blocks.proofs.Turns.{format_of_sound, format_of_short}
use Rattle.snapshot.specs.Snapshot.{block_at, is_place, is_last, wrong_at}
use Rattle.snapshot.proofs.Turns.{is_place_place, wrong_at_good, wrong_at_count, wrong_at_end, length_block_at}
use Rattle.snapshot_lists.specs.Lists.{total, entry_at, format_in}
use Rattle.snapshot_lists.proofs.Carried.{refused_not, length_carried, key_length_in_carried, key_length_within}

-- ---- a block before the last is full
module _ (f : Format) (file : List ℕ) (p : is_place 0 (length file) ≡ true) where
  pub not_last : (j : ℕ) → j + 1 < length file / 512 → is_last j file ≡ false
  not_last j h = ne_eqb (512 * j + 512) (length file) (λ e. omega arith)

  pub full : (j : ℕ) → j + 1 < length file / 512 → wrong_at f j file ≡ None → count_in (block_at j file) ≡ per_block f
  unfolding is_count
  full j h g =
      let c : is_count f j false (count_in (block_at j file)) ≡ true = rw (not_last j h) at (wrong_at_good f j file g).right.counted in
      eqb-true (count_in (block_at j file)) (per_block f) c

-- ---- a part that ends where its block does
drop_take : (a m : ℕ) (l : List ℕ) → a ≤ m → drop a (take m l) ≡ take (m - a) (drop a l)
drop_take zero m l h = let z : m - 0 ≡ m = omega arith in rw z
drop_take (suc a) zero l h = absurd (omega arith)
drop_take (suc a) (suc m) [] h = sym (take-nil {A = ℕ} (suc m - suc a))
drop_take (suc a) (suc m) (x ∷ l) h = let z : suc m - suc a ≡ m - a = omega arith in rw z (drop_take a m l (omega arith))

pub row_part : (file : List ℕ) (block start : ℕ) → start ≤ 512
    → take (512 * block + 512 - (512 * block + start)) (drop (512 * block + start) file) ≡ drop start (block_at block file)
row_part file block start h =
    let e : 512 * block + 512 - (512 * block + start) ≡ 512 - start = omega arith in
    rw e (sym (drop_take start 512 (drop (512 * block) file) h ∙ ap (take (512 - start)) (drop-drop start (512 * block) file)))

-- ---- the row at p
module _ (file : List ℕ) (place : is_place 0 (length file) ≡ true) (good : (j : ℕ) → j < length file / 512 → wrong_at (format_in file) j file ≡ None) (p : ℕ) (h : p < total (format_in file) file) where
  abbrev f : Format
  f = format_in file

  abbrev block : ℕ
  block = p / per_block f

  abbrev k : ℕ
  k = p % per_block f

  abbrev last : ℕ
  last = length file / 512 - 1

  pub sound : Sound f
  sound = format_of_sound (version_in (block_at 0 file))

  pub most_some : 0 < per_block f
  most_some = per_block_some f sound.narrow

  last_good : wrong_at f last file ≡ None
  last_good = let q = is_place_place 0 (length file) place in good last (omega (arith, q.within))

  before_total : p < per_block f * last + count_in (block_at last file)
  unfolding total
  before_total = h

  block_le : block ≤ last
  block_le =
      by_test (ltb last block)
      (λ t. let m : per_block f * suc last ≤ per_block f * block = mul-le-mul_left (per_block f) (ltb-true last block t) in
      absurd (omega (arith, mul-suc (per_block f) last, before_total, wrong_at_count f last file last_good, div-add-mod p (per_block f))))
      (λ t. ltb-false last block t)

  pub row_block : block < length file / 512
  row_block = let q = is_place_place 0 (length file) place in omega (arith, q.within, block_le)

  block_good : wrong_at f block file ≡ None
  block_good = good block row_block

  in_last : (j : ℕ) → per_block f * j + k ≡ p → j ≡ last → k < count_in (block_at j file)
  in_last j e z = let b = before_total in rw z (omega (arith, (rw z at e)))

  row_count : k < count_in (block_at block file)
  row_count =
      by_test (ltb block last)
      (λ t. let l : block < last = ltb-true block last t in
      let c = full f file place block (omega arith) block_good in
      let m : k < per_block f = mod-lt p most_some in
      omega arith)
      (λ t. in_last block (div-add-mod p (per_block f)) (omega (arith, ltb-false block last t, block_le)))

  abbrev start : ℕ
  start = 8 + row_length f * k

  abbrev row : List ℕ
  row = drop start (block_at block file)

  pub entry_at_row : entry_at f file p ≡ entry_of f row
  unfolding entry_at
  entry_at_row = refl

  pub row_refused : f.refuses (entry_of f row).carried ≡ false
  row_refused = refused_not f file block k block_good row_count

  row_room : row_length f * suc k ≤ 480
  row_room = let c = wrong_at_count f block file block_good in let d = row_count in per_block_room f (suc k) (omega arith)

  row_rest : length row ≡ 512 - start
  row_rest = length-drop start (block_at block file) ∙ ap (λ (x : ℕ). x - start) (length_block_at block file (wrong_at_end f block file block_good))

  pub row_length_lem : row_length f + 24 ≤ length row
  row_length_lem = omega (arith, row_rest, row_room, mul-suc (row_length f) k)

  -- its key
  row_wide : row_length f ≤ length row
  row_wide = let l = row_length_lem in omega arith

  pub row_key : key_length_in f row ≤ 64
  row_key = rw (key_length_in_carried f sound row row_wide) (format_of_short (version_in (block_at 0 file)) (entry_of f row).carried (length_carried f sound row row_wide) row_refused)

  pub row_key_within : 25 + key_length_in f row ≤ length row
  row_key_within =
      let a = key_length_in_carried f sound row row_wide in
      let b = key_length_within f sound row row_wide row_refused in
      let w = sound.wide in
      omega (arith, row_length_lem)

  -- ---- the same of a row that was found by so many rows in a block, each of so many bytes
  module _ (bytes : List ℕ) (most wide : ℕ) (em : most ≡ per_block f) (ew : wide ≡ f.width) (er : bytes ≡ drop (8 + (16 + wide) * (p % most)) (block_at (p / most) file)) where
    bytes_row : bytes ≡ row
    bytes_row = er ∙ rw (em, ew)

    pub entry_of_row : entry_of f bytes ≡ entry_at f file p
    entry_of_row = ap (entry_of f) bytes_row ∙ sym entry_at_row

    pub taken_refused : f.refuses (entry_of f bytes).carried ≡ false
    taken_refused = rw bytes_row row_refused

    pub taken_wide : 16 + wide ≤ length bytes
    taken_wide = rw (bytes_row, ew) row_wide

    pub taken_key : cond (ltb 8 wide) (get_at 24 25 bytes) 0 ≤ 64
    taken_key = rw (bytes_row, ew) row_key

    pub taken_key_within : 25 + cond (ltb 8 wide) (get_at 24 25 bytes) 0 ≤ length bytes
    taken_key_within = rw (bytes_row, ew) row_key_within

-- ---- where a row starts in its block
pub start_le : (p most wide : ℕ) → 0 < most → (16 + wide) * most ≤ 480 → (16 + wide) * (p % most) ≤ 480
start_le p most wide h m = let l : p % most < most = mod-lt p h in le_trans (mul-le-mul_left (16 + wide) (omega arith)) m

pub all_le : (f : Format) → (16 + f.width) * per_block f ≤ 480
all_le f = per_block_room f (per_block f) (omega arith)
