-- Blocks put one after the other: what is written, and what is still to write, is the file. Assumes nothing.
use mathlib.Core.Path.{◌≡◌, refl, sym, ap, ◌∙◌}
use mathlib.Core.List.{List, [], ◌∷◌, ◌++◌, map, append-nil, append_assoc}
use Prim.Native.Nat.{ℕ, suc, ◌+◌, ◌-◌, ◌*◌, ◌/◌, ◌≤◌, ◌<◌}
use native.Mathlib.Numerals.{add-one}
use native.Mathlib.Omega.{arith}
use lib.ListN.{length, take, drop, length-drop, length-append, drop_of_length-le}
use lib.Seq.{length-take-le, take_at, take_all, drop-drop}
use borrow.Rule.Slice.PartMut.{put_mid}
use Rattle.list_parts.proofs.Lists.{take_map, drop_map}
use Rattle.list_parts.proofs.Ranges.{length_range, put_range}
use Rattle.snapshot_blocks.specs.Formats.{version2}
use Rattle.snapshot_blocks.specs.Blocks.{Entry, block_of}
use Rattle.snapshot_blocks.specs.Files.{file_from, file_of, file_length}
use Rattle.snapshot_blocks.proofs.Turns.{per_block_version2}
use Rattle.snapshot_writer.specs.Writer.{block_put}

-- ---- lengths
pub length_file : (rows last : ℕ) → last ≡ (rows - 1) / 5 → file_length version2 rows ≡ 512 * (last + 1)
unfolding file_length
length_file rows last e = rw (per_block_version2, e, add-one ((rows - 1) / 5))

length_map : (e : ℕ → Entry) (l : List ℕ) → length (map e l) ≡ length l
length_map e [] = refl
length_map e (x ∷ xs) = ap suc (length_map e xs)

-- a block that is put in place of 512 bytes has as many
put_length : (at : ℕ) (file b after : List ℕ) → at + 512 ≤ length file → length after ≡ length file → after ≡ take at file ++ (b ++ drop (at + 512) file) → length b ≡ 512
put_length at file b after h n e =
    let l : length (take at file) ≡ at = length-take-le at file (omega arith) in
    let s : length after ≡ length (take at file) + (length b + length (drop (at + 512) file)) =
    ap length e ∙ length-append (take at file) (b ++ drop (at + 512) file) ∙ ap (λ (x : ℕ). length (take at file) + x) (length-append b (drop (at + 512) file)) in
    omega (arith, length-drop (at + 512) file)

module _ (e : ℕ → Entry) (every : List ℕ) where
  -- the rows of block k, and the blocks from it on
  abbrev pub block_rows : ℕ → List Entry
  block_rows k = map e (take 5 (drop (5 * k) every))

  abbrev pub rest : ℕ → ℕ → List ℕ
  rest last k = file_from version2 k (last - k) (map e (drop (5 * k) every))

  taken_put : (k : ℕ) (b file : List ℕ) → length b ≡ 512 → 512 * k + 512 ≤ length file
      → take (512 * (k + 1)) (take (512 * k) file ++ (b ++ drop (512 * k + 512) file)) ≡ take (512 * k) file ++ b
  taken_put k b file n h =
      let l : length (take (512 * k) file) ≡ 512 * k = length-take-le (512 * k) file (omega arith) in
      let m : length (take (512 * k) file ++ b) ≡ 512 * (k + 1) = length-append (take (512 * k) file) b ∙ omega arith in
      ap (take (512 * (k + 1))) (sym (append_assoc (take (512 * k) file) b (drop (512 * k + 512) file))) ∙ take_at (take (512 * k) file ++ b) (drop (512 * k + 512) file) (512 * (k + 1)) m

  drop_next : (k : ℕ) → drop 5 (drop (5 * k) every) ≡ drop (5 * (k + 1)) every
  drop_next k = let s : 5 * k + 5 ≡ 5 * (k + 1) = omega arith in drop-drop 5 (5 * k) every ∙ ap (λ (x : ℕ). drop x every) s

  rest_step : (last k : ℕ) → k < last → rest last k ≡ block_of version2 k (block_rows k) ++ rest last (k + 1)
  unfolding file_from
  rest_step last k h =
      let s : last - k ≡ suc (last - (k + 1)) = omega arith in
      rw (s, per_block_version2, take_map e 5 (drop (5 * k) every), drop_map e 5 (drop (5 * k) every), drop_next k, ← add-one k)

  pub put_turn : (last k : ℕ) (file after rows : List ℕ) → k < last → 512 * k + 512 ≤ length file → length after ≡ length file → rows ≡ drop (5 * k) every
      → after ≡ block_put k (map e (take 5 rows)) file → take (512 * (k + 1)) after ++ rest last (k + 1) ≡ take (512 * k) file ++ rest last k
  put_turn last k file after rows h m n r p =
      let b = block_of version2 k (block_rows k) in
      let q : after ≡ take (512 * k) file ++ (b ++ drop (512 * k + 512) file) = p ∙ ap (λ (x : List ℕ). block_put k (map e (take 5 x)) file) r in
      let l : length b ≡ 512 = put_length (512 * k) file b after m n q in
      ap (λ (x : List ℕ). take (512 * (k + 1)) x ++ rest last (k + 1)) q ∙ ap (λ (x : List ℕ). x ++ rest last (k + 1)) (taken_put k b file l m)
      ∙ append_assoc (take (512 * k) file) b (rest last (k + 1)) ∙ ap (λ (x : List ℕ). take (512 * k) file ++ x) (sym (rest_step last k h))

  pub next_rows : (k : ℕ) (rows after : List ℕ) → rows ≡ drop (5 * k) every → after ≡ drop 5 rows → after ≡ drop (5 * (k + 1)) every
  next_rows k rows after r a = a ∙ ap (drop 5) r ∙ drop_next k

  pub put_last : (last k : ℕ) (file after rows : List ℕ) → last ≤ k → k ≤ last → last ≡ (length every - 1) / 5 → length file ≡ 512 * (last + 1) → rows ≡ drop (5 * k) every
      → after ≡ block_put last (map e (take 5 rows)) file → after ≡ take (512 * k) file ++ rest last k
  unfolding file_from
  put_last last k file after rows g h f n r p =
      let z : last ≡ k = omega arith in
      let s : last - k ≡ 0 = omega arith in
      let d : drop (512 * last + 512) file ≡ [] = drop_of_length-le file {i = 512 * last + 512} (omega arith) in
      let w : length (drop (5 * k) every) ≤ 5 = rw (length-drop (5 * k) every) (omega arith) in
      let t : take 5 rows ≡ drop (5 * k) every = ap (take 5) r ∙ take_all 5 (drop (5 * k) every) w in
      p ∙ rw (s, d, t, append-nil (block_of version2 last (map e (drop (5 * k) every))), z)

  pub put_start : (last : ℕ) (file : List ℕ) → last ≡ (length every - 1) / 5 → take (512 * 0) file ++ rest last 0 ≡ file_of version2 (map e every)
  unfolding file_of
  put_start last file f = let z : last - 0 ≡ last = omega arith in rw (z, per_block_version2, length_map e every, f)

-- ---- room
pub last_of : (last rows n : ℕ) → last ≡ (rows - 1) / 5 → rows ≡ n → last ≡ (n - 1) / 5
last_of last rows n e h = e ∙ ap (λ (x : ℕ). (x - 1) / 5) h

-- block k, of those up to the last, is in the file
pub file_room : (rows last k n : ℕ) → last ≡ (rows - 1) / 5 → n ≡ file_length version2 rows → k ≤ last → 512 * k + 512 ≤ n
file_room rows last k n e h l = let f = length_file rows last e in omega arith

pub few_blocks : (n rows last k : ℕ) → n ≤ 65536 → rows ≤ n → last ≡ (rows - 1) / 5 → k ≤ last → k ≤ 65536
few_blocks n rows last k h r e l = omega arith

-- ---- one block
pub block_length : (k : ℕ) (file : List ℕ) → 512 * k + 512 ≤ length file → length (take (512 * k + 512 - 512 * k) (drop (512 * k) file)) ≡ 512
block_length k file h = let e : 512 * k + 512 - 512 * k ≡ 512 = omega arith in length_range file (512 * k) (512 * k + 512) (omega arith) h ∙ e

pub block_put_lem : (e : ℕ → Entry) (k : ℕ) (file block ids rows : List ℕ) → block ≡ block_of version2 k (map e ids) → ids ≡ rows
    → put_mid (512 * k) (512 * k + 512 - 512 * k) file block ≡ block_put k (map e rows) file
block_put_lem e k file block ids rows b r =
    put_range file (512 * k) (512 * k + 512) (omega arith) block
    ∙ ap (λ (x : List ℕ). take (512 * k) file ++ (x ++ drop (512 * k + 512) file)) (b ∙ ap (λ (x : List ℕ). block_of version2 k (map e x)) r)
