-- What is written is read: the steps over the file of some rows give these rows, and then the end. Assumes nothing.
use mathlib.Core.Bool.{true, false}
use mathlib.Core.Path.{◌≡◌, sym, ap, ◌∙◌}
use mathlib.Core.List.{List, ◌++◌, map}
use Prim.Native.Nat.{ℕ, zero, suc, ◌+◌, ◌-◌, ◌*◌, ◌/◌, ◌^◌, ◌≤◌, ◌<◌}
use native.Mathlib.Nat.{mul-suc, mul-zero, div-le_self}
use native.Mathlib.Numerals.{add-one}
use native.Mathlib.Omega.{arith}
use lib.ListN.{length, drop, take-append-drop}
use lib.Seq.{drop-drop}
use borrow.Author.Tests.{eq-eqb, ne_eqb}
use Rattle.snapshot_blocks.specs.Blocks.{Entry, count_in, rows_in_block, ascending}
use Rattle.snapshot_blocks.specs.Formats.{Format, Reader, per_block}
use Rattle.snapshot_blocks.specs.Valid.{Sound, All, Valid}
use Rattle.snapshot_blocks.specs.Files.{file_from, file_of}
use Rattle.snapshot.specs.Snapshot.{block_at, is_last}
use Rattle.snapshot_laws.specs.Reading.{shown_of, position, Reads, Knows}
use Rattle.snapshot_laws.proofs.Files.{Fit, fit_file_of, chunk, chunk_full, chunk_last}
use Rattle.snapshot_laws.proofs.Written.{file_length_lem, file_rows, file_count, good_file_from}
use Rattle.snapshot_laws.proofs.Steps.{map_append, reads_last, reads_full}
use Rattle.snapshot_blocks.proofs.Blocks.{per_block_some}
use Rattle.std.specs.Prelude.{Ok, None}

more : (f : Format) (j : ℕ) → per_block f * j + per_block f ≡ per_block f * (j + 1)
more f j = sym (ap (λ (x : ℕ). per_block f * x) (add-one j) ∙ mul-suc (per_block f) j ∙ omega arith)

module _ (f : Format) (s : Sound f) (left : ℕ) (big : left < 2 ^ 32) (rows : List Entry) (fit : Fit f left rows) (a : All (Valid f) rows) (o : ascending rows ≡ true)
    (reader : Reader) (known : Knows reader f) where
  abbrev file : List ℕ
  file = file_from f 0 left rows

  size : length file ≡ 512 * left + 512
  size = file_length_lem f s left big rows fit a o

  stand : (j : ℕ) → j ≤ left → rows_in_block f (block_at j file) ≡ chunk f j rows
  stand = file_rows f s left big rows fit a o

  pub reads_from : (m j : ℕ) → j + m ≡ left → Reads reader file (Ok None) (position j 0) (map shown_of (drop (per_block f * j) rows))
  reads_from zero j e =
      let l = size in
      let z : j ≡ left = omega arith in
      let t : is_last j file ≡ true = eq-eqb (512 * j + 512) (length file) (omega arith) in
      let same : rows_in_block f (block_at j file) ≡ drop (per_block f * j) rows =
      stand j (omega arith) ∙ ap (λ (x : ℕ). chunk f x rows) z ∙ chunk_last f left rows fit ∙ ap (λ (x : ℕ). drop (per_block f * x) rows) (sym z) in
      rw (← same) (reads_last f s file j (good_file_from f s left big rows fit a o j (omega arith)) reader known t (count_in (block_at j file)) 0 (omega arith))
  reads_from (suc m) j e =
      let l = size in
      let t : is_last j file ≡ false = ne_eqb (512 * j + 512) (length file) (λ x. omega arith) in
      let c : count_in (block_at j file) ≡ per_block f =
      file_count f s left big rows fit a o j (omega arith) ∙ chunk_full f left rows fit j (per_block_some f s.narrow) (omega arith) in
      let p = per_block_some f s.narrow in
      let d : drop (per_block f) (drop (per_block f * j) rows) ≡ drop (per_block f * (j + 1)) rows = drop-drop (per_block f) (per_block f * j) rows ∙ ap (λ (x : ℕ). drop x rows) (more f j) in
      let same : map shown_of (rows_in_block f (block_at j file)) ++ map shown_of (drop (per_block f * (j + 1)) rows) ≡ map shown_of (drop (per_block f * j) rows) =
      ap (λ (x : List Entry). map shown_of x ++ map shown_of (drop (per_block f * (j + 1)) rows)) (stand j (omega arith))
      ∙ ap (λ (x : List Entry). map shown_of (chunk f j rows) ++ map shown_of x) (sym d)
      ∙ sym (map_append (chunk f j rows) (drop (per_block f) (drop (per_block f * j) rows)))
      ∙ ap (map shown_of) (take-append-drop (per_block f) (drop (per_block f * j) rows)) in
      rw (← same) (reads_full f s file j (good_file_from f s left big rows fit a o j (omega arith)) reader known t (Ok None) (map shown_of (drop (per_block f * (j + 1)) rows))
      (reads_from m (j + 1) (omega arith)) (count_in (block_at j file) - 1) 0 (omega arith))

-- the steps over the file of some rows show these rows, and then the end
pub reads_file_of : (reader : Reader) (f : Format) → Knows reader f → Sound f → (rows : List Entry) → length rows < 2 ^ 32 → All (Valid f) rows → ascending rows ≡ true
    → Reads reader (file_of f rows) (Ok None) (position 0 0) (map shown_of rows)
unfolding file_of
reads_file_of reader f known s rows n a o =
    let left : ℕ = (length rows - 1) / per_block f in
    let b : left < 2 ^ 32 = omega (arith, div-le_self (length rows - 1) (per_block f)) in
    rw (mul-zero (per_block f)) at (reads_from f s left b rows (fit_file_of f rows (per_block_some f s.narrow)) a o reader known left 0 (omega arith))
