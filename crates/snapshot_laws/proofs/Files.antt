-- A written file, block by block, over the format. Assumes nothing.
use Rattle.std.specs.Prelude.{None}
use mathlib.Core.Bool.{true}
use mathlib.Core.Path.{◌≡◌, refl, sym, ap, ◌∙◌}
use mathlib.Core.List.{List, ◌++◌}
use Prim.Native.Nat.{ℕ, zero, suc, ◌+◌, ◌-◌, ◌*◌, ◌/◌, ◌%◌, ◌≤◌, ◌<◌}
use native.Mathlib.Nat.{mul-suc, mul-zero, mul-le-mul_left, mul-div-le, div-add-mod, mod-lt}
use native.Mathlib.Omega.{arith}
use lib.Dec.{lit<}
use lib.ListN.{length, get_or, take, drop, length-append, length-take, length-drop}
use lib.Seq.{length-take-le, take_all, take_at, drop-drop, drop-append-add}
use borrow.Author.Tests.{ne_eqb}
use Rattle.little_endian.specs.LittleEndian.{get_at}
use Rattle.snapshot_blocks.specs.Blocks.{Entry, block_of, count_in, entry_of, entries_in, rows_in_block, id_at}
use Rattle.snapshot_blocks.specs.Formats.{Format, row_length, per_block}
use Rattle.snapshot_blocks.proofs.Fields.{get_at_drop}
use Rattle.snapshot_blocks.specs.Valid.{All}
use Rattle.snapshot_blocks.proofs.Rows.{Wide}
use Rattle.snapshot_blocks.proofs.Blocks.{Right, right_wrong_in, length_block_of}
use Rattle.snapshot_blocks.specs.Files.{file_from}
use Rattle.snapshot.specs.Snapshot.{block_at, is_place, is_last, follows, wrong_at}
use Rattle.snapshot_laws.proofs.Lists.{none, all_take, all_drop}

-- so many full blocks before the last one fit these rows
pub record Fit (f : Format) (left : ℕ) (rows : List Entry) : Type 0 where
  pub lo : per_block f * left ≤ length rows - 1
  pub hi : length rows ≤ per_block f * left + per_block f

pub fit_file_of : (f : Format) (rows : List Entry) → 0 < per_block f → Fit f ((length rows - 1) / per_block f) rows
fit_file_of f rows p =
    let n : ℕ = length rows - 1 in
    let m = div-add-mod n (per_block f) in
    let l : n % per_block f < per_block f = mod-lt n p in
    record { lo = mul-div-le n (per_block f); hi = omega arith }

-- the rows of the block at j
abbrev pub chunk : Format → ℕ → List Entry → List Entry
chunk f j rows = take (per_block f) (drop (per_block f * j) rows)

pub length_chunk_le : (f : Format) (j : ℕ) (rows : List Entry) → length (chunk f j rows) ≤ per_block f
length_chunk_le f j rows = rw (length-take (per_block f) (drop (per_block f * j) rows)) (omega arith)

module _ (f : Format) (left : ℕ) (rows : List Entry) (fit : Fit f left rows) where
  pub chunk_full : (j : ℕ) → 0 < per_block f → j < left → length (chunk f j rows) ≡ per_block f
  chunk_full j p h =
      let m : per_block f * suc j ≤ per_block f * left = mul-le-mul_left (per_block f) (omega arith) in
      let s = mul-suc (per_block f) j in
      let l : per_block f ≤ length (drop (per_block f * j) rows) = rw (length-drop (per_block f * j) rows) (omega (arith, fit.lo)) in
      length-take-le (per_block f) (drop (per_block f * j) rows) l

  pub chunk_last : chunk f left rows ≡ drop (per_block f * left) rows
  chunk_last =
      let l : length (drop (per_block f * left) rows) ≤ per_block f = rw (length-drop (per_block f * left) rows) (omega (arith, fit.hi)) in
      take_all (per_block f) (drop (per_block f * left) rows) l

  pub length_chunk_last : length (chunk f left rows) ≡ length rows - per_block f * left
  length_chunk_last = ap length chunk_last ∙ length-drop (per_block f * left) rows

fit_drop : (f : Format) (left : ℕ) (rows : List Entry) → Fit f (suc left) rows → Fit f left (drop (per_block f) rows)
fit_drop f left rows fit =
    let s = mul-suc (per_block f) left in
    let l = length-drop (per_block f) rows in
    record { lo = omega (arith, fit.lo); hi = omega (arith, fit.hi) }

module _ (f : Format) where
  pub length_file_from : (left number : ℕ) (rows : List Entry) → Fit f left rows → All (Wide f) rows → length (file_from f number left rows) ≡ 512 * left + 512
  unfolding file_from
  length_file_from zero number rows fit a =
      let z = mul-zero (per_block f) in
      length_block_of f number rows (omega (arith, fit.hi)) a
  length_file_from (suc left) number rows fit a =
      let c = take (per_block f) rows in
      let k : length c ≤ per_block f = rw (length-take (per_block f) rows) (omega arith) in
      length-append (block_of f number c) (file_from f (suc number) left (drop (per_block f) rows))
      ∙ omega (
        arith,
        length_block_of f number c k (all_take (Wide f) (per_block f) rows a),
        length_file_from left (suc number) (drop (per_block f) rows) (fit_drop f left rows fit) (all_drop (Wide f) (per_block f) rows a),
      )

  -- each block of a file is the block of its rows
  pub block_at_file_from : (left number j : ℕ) (rows : List Entry) → j ≤ left → Fit f left rows → All (Wide f) rows
      → block_at j (file_from f number left rows) ≡ block_of f (number + j) (chunk f j rows)
  unfolding file_from
  block_at_file_from zero number j rows h fit a =
      let z : j ≡ 0 = omega arith in
      let m = mul-zero (per_block f) in
      let n : length rows ≤ per_block f = omega (arith, fit.hi) in
      let i : number ≡ number + 0 = omega arith in
      rw (z, m, take_all (per_block f) rows n, ← i) (take_all 512 (block_of f number rows) (omega (arith, length_block_of f number rows n a)))
  block_at_file_from (suc left) number zero rows h fit a =
      let c = take (per_block f) rows in
      let k : length c ≤ per_block f = rw (length-take (per_block f) rows) (omega arith) in
      let i : number ≡ number + 0 = omega arith in
      rw (mul-zero (per_block f), ← i)
      (take_at (block_of f number c) (file_from f (suc number) left (drop (per_block f) rows)) 512 (length_block_of f number c k (all_take (Wide f) (per_block f) rows a)))
  block_at_file_from (suc left) number (suc j) rows h fit a =
      let per = per_block f in
      let c = take per rows in
      let k : length c ≤ per = rw (length-take per rows) (omega arith) in
      let b = block_of f number c in
      let rest = file_from f (suc number) left (drop per rows) in
      let l : length b ≡ 512 = length_block_of f number c k (all_take (Wide f) per rows a) in
      let s : 512 * suc j ≡ length b + 512 * j = omega arith in
      let i : suc number + j ≡ number + suc j = omega arith in
      let m : per + per * j ≡ per * suc j = sym (mul-suc per j ∙ omega arith) in
      let d : drop (512 * suc j) (b ++ rest) ≡ drop (512 * j) rest = ap (λ (x : ℕ). drop x (b ++ rest)) s ∙ drop-append-add b rest (512 * j) in
      ap (take 512) d
      ∙ block_at_file_from left (suc number) j (drop per rows) (omega arith) (fit_drop f left rows fit) (all_drop (Wide f) per rows a)
      ∙ ap (λ (x : ℕ). block_of f x (take per (drop (per * j) (drop per rows)))) i
      ∙ ap (λ (x : List Entry). block_of f (number + suc j) (take per x)) (drop-drop (per * j) per rows ∙ ap (λ (x : ℕ). drop x rows) m)

-- ---- the id at a place of a block, and the row there
pub get_d_entries_in : (f : Format) (n k : ℕ) (l : List ℕ) → k < n → get_or (entries_in f n l) k none ≡ entry_of f (drop (row_length f * k) l)
unfolding entries_in
get_d_entries_in f zero k l h = absurd (omega arith)
get_d_entries_in f (suc n) zero l h = rw (mul-zero (row_length f))
get_d_entries_in f (suc n) (suc k) l h =
    let m : row_length f + row_length f * k ≡ row_length f * suc k = sym (mul-suc (row_length f) k ∙ omega arith) in
    get_d_entries_in f n k (drop (row_length f) l) (omega arith) ∙ ap (entry_of f) (drop-drop (row_length f * k) (row_length f) l ∙ ap (λ (x : ℕ). drop x l) m)

id_entry_of : (f : Format) (l : List ℕ) → (entry_of f l).id ≡ get_at 0 8 l
unfolding entry_of
id_entry_of f l = refl

pub id_at_rows_in_block : (f : Format) (k : ℕ) (block : List ℕ) → k < count_in block → id_at f k block ≡ (get_or (rows_in_block f block) k none).id
unfolding rows_in_block
id_at_rows_in_block f k block h =
    let s : ℕ = 8 + row_length f * k in
    let z : s + 0 ≡ s = omega arith in
    let e : get_at 0 8 (drop s block) ≡ get_at (s + 0) (s + 8) block = get_at_drop s 0 8 block (lit< tt) in
    sym (ap (λ (x : Entry). x.id) (get_d_entries_in f (count_in block) k (drop 8 block) h)
    ∙ id_entry_of f (drop (row_length f * k) (drop 8 block))
    ∙ ap (get_at 0 8) (drop-drop (row_length f * k) 8 block)
    ∙ e ∙ ap (λ (x : ℕ). get_at x (s + 8) block) z)

-- ---- a written file is right everywhere
pub right_wrong_at : (f : Format) (number : ℕ) (file : List ℕ) → is_place number (length file) ≡ true → Right f number (is_last number file) (block_at number file)
    → ((number ≡ 0 → ⊥) → follows f (block_at (number - 1) file) (block_at number file) ≡ true) → wrong_at f number file ≡ None
unfolding wrong_at
right_wrong_at f zero file p r fit = rw (p, right_wrong_in f 0 (is_last 0 file) (block_at 0 file) r)
right_wrong_at f (suc n) file p r fit =
    let g : follows f (block_at (suc n - 1) file) (block_at (suc n) file) ≡ true = fit (λ e. omega arith) in
    rw (p, right_wrong_in f (suc n) (is_last (suc n) file) (block_at (suc n) file) r, g, ne_eqb (suc n) 0 (λ e. omega arith))
