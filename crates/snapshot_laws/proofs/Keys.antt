-- What the reader shows of a row is what the row carries: a row that is not refused has its whole key, and the file has it where the row says. Assumes
-- nothing.
use Rattle.std.specs.Prelude.{None}
use mathlib.Core.Bool.{false}
use mathlib.Core.Path.{◌≡◌, refl, sym, ap, ◌∙◌}
use mathlib.Core.List.{List}
use Prim.Native.Nat.{ℕ, suc, ◌+◌, ◌-◌, ◌*◌, ◌≤◌, ◌<◌}
use native.Mathlib.Nat.{mul-suc}
use native.Mathlib.Omega.{arith}
use lib.ListN.{length, get_or, take, drop, length-drop}
use lib.Seq.{drop-drop}
use Rattle.little_endian.specs.LittleEndian.{word}
use Rattle.keys.specs.Keys.{key_of}
use Rattle.snapshot_blocks.specs.Formats.{Format, row_length}
use Rattle.snapshot_blocks.specs.Blocks.{count_in, entry_of, rows_in_block, key_length_in, row_at}
use Rattle.snapshot_blocks.specs.Valid.{Sound}
use Rattle.snapshot_blocks.proofs.Fields.{get_at_part}
use Rattle.snapshot_blocks.proofs.Blocks.{per_block_room}
use Rattle.snapshot.specs.Snapshot.{block_at, wrong_at}
use Rattle.snapshot.proofs.Turns.{wrong_at_count, wrong_at_end, length_block_at}
use Rattle.snapshot_lists.proofs.Carried.{part_within, refused_not, first_carried, key_length_in_carried, key_length_within, key_of_carried}
use Rattle.snapshot_laws.specs.Reading.{Shown, seen_in, shown_of}
use Rattle.snapshot_laws.proofs.Lists.{none}
use Rattle.snapshot_laws.proofs.Files.{get_d_entries_in}

-- ---- the key, at its place in the file
module _ (f : Format) (s : Sound f) (file : List ℕ) (j start : ℕ) (room : start + row_length f ≤ 488) (n : length (block_at j file) ≡ 512) where
  abbrev row : List ℕ
  row = drop start (block_at j file)

  row_length_lem : row_length f ≤ length row
  row_length_lem = rw (length-drop start (block_at j file)) (omega arith)

  pub key_carried : f.refuses (entry_of f row).carried ≡ false → take (key_length_in f row) (drop (512 * j + (start + 25)) file) ≡ key_of (entry_of f row).carried
  key_carried r =
      let len = key_length_in f row in
      let k : len ≤ f.width - 9 = rw (key_length_in_carried f s row row_length_lem) (key_length_within f s row row_length_lem r) in
      let w = s.wide in
      sym (key_of_carried f s row row_length_lem r
      ∙ ap (take len) (drop-drop 25 start (block_at j file))
      ∙ part_within (start + 25) len 512 (drop (512 * j) file) (omega arith)
      ∙ ap (take len) (drop-drop (start + 25) (512 * j) file))

  same_shown : (a b : Shown) → a.id ≡ b.id → a.collection ≡ b.collection → a.location ≡ b.location → a.key ≡ b.key → a ≡ b
  same_shown a b p q r t = λ k. record { id = p k; collection = q k; location = r k; key = t k }

  pub seen_entry_of : (k : ℕ) → start ≡ 8 + row_length f * k → f.refuses (entry_of f row).carried ≡ false
      → seen_in file (row_at f (512 * j) k (block_at j file)) ≡ shown_of (entry_of f row)
  unfolding entry_of
  seen_entry_of k e r =
      let m = row_length_lem in
      let c = get_at_part 8 16 8 row refl (omega arith) (omega (arith, s.wide)) ∙ ap word (sym (first_carried f s row row_length_lem)) in
      rw (← e) (same_shown _ _ refl c refl (key_carried r))

pub seen_rows_in_block : (f : Format) → Sound f → (file : List ℕ) (j k : ℕ) → wrong_at f j file ≡ None → k < count_in (block_at j file)
    → seen_in file (row_at f (512 * j) k (block_at j file)) ≡ shown_of (get_or (rows_in_block f (block_at j file)) k none)
unfolding rows_in_block
seen_rows_in_block f s file j k g h =
    let block = block_at j file in
    let m : row_length f * suc k ≤ 480 = let c = wrong_at_count f j file g in per_block_room f (suc k) (omega arith) in
    let room : 8 + row_length f * k + row_length f ≤ 488 = omega (arith, mul-suc (row_length f) k) in
    let e : get_or (rows_in_block f block) k none ≡ entry_of f (drop (8 + row_length f * k) block) =
    get_d_entries_in f (count_in block) k (drop 8 block) h ∙ ap (entry_of f) (drop-drop (row_length f * k) 8 block) in
    seen_entry_of f s file j (8 + row_length f * k) room (length_block_at j file (wrong_at_end f j file g)) k refl (refused_not f file j k g h) ∙ ap shown_of (sym e)
