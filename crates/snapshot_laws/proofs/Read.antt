-- What is read was written: a file that reads to its end is the file of the rows that it shows. Assumes nothing.
use mathlib.Core.Bool.{Bool, true, false, cond, ◌&&◌}
use mathlib.Core.Path.{◌≡◌, refl, sym, ap, subst, ◌∙◌}
use mathlib.Core.List.{List, map}
use mathlib.Core.Logic.{◌⊎◌, inl, inr}
use Prim.Native.Nat.{ℕ, suc, ◌+◌, ◌-◌, ◌*◌, ◌/◌, ◌^◌, ◌≤◌, ◌<◌}
use native.Mathlib.Nat.{mul-zero}
use native.Mathlib.Omega.{arith}
use lib.Dec.{eqb, ltb}
use lib.ListN.{length, take, drop, length-take}
use borrow.Author.Tests.{eqb-true, eqb-false, eq-eqb, ne_eqb}
use Rattle.little_endian.specs.LittleEndian.{word, Bytes}
use Rattle.little_endian.proofs.Laws.{take_bytes, drop_bytes, word_fits}
use Rattle.refusal.specs.Refusals.{refusal, wrong_shape}
use Rattle.refusal.specs.declared.Kind.{Kind}
use Rattle.snapshot_blocks.specs.Blocks.{Entry, ascending, count_in, number_in, version_in, row_at}
use Rattle.snapshot_blocks.specs.Formats.{Format, Reader, per_block}
use Rattle.snapshot_blocks.specs.declared.Row.{Row}
use Rattle.snapshot_blocks.specs.Valid.{Sound, Valid, All}
use Rattle.snapshot_blocks.proofs.Fields.{get_at_part}
use Rattle.snapshot_blocks.proofs.Blocks.{per_block_some}
use Rattle.snapshot.specs.declared.Position.{Position}
use Rattle.snapshot_blocks.specs.Files.{file_from, file_of}
use Rattle.snapshot.specs.Snapshot.{block_at, is_place, is_last, unless_wrong, wrong_at, next_position, step_in, step_of, format_at, wrong_by, step_by}
use Rattle.snapshot.proofs.Turns.{is_place_place, wrong_at_good}
use Rattle.snapshot_lists.proofs.Turns.{at_or_past}
use Rattle.snapshot_lists.proofs.Versions.{wrong_at_joined, known_first, same_format}
use Rattle.snapshot_laws.specs.Reading.{Shown, shown_of, position, Reads, ended, showed, Knows}
use Rattle.snapshot_laws.specs.Statements.{ReadExactly, Further}
use Rattle.snapshot_laws.proofs.Files.{Fit}
use Rattle.snapshot_laws.proofs.Steps.{block_length}
use Rattle.snapshot_laws.proofs.Back.{reads_from}
use Rattle.snapshot_laws.proofs.Exact.{Rights, Follow, rows_from, file_from_rows_from, valid_rows_from, fit_rows_from, ascending_rows_from, fit_unique}
use Rattle.std.specs.Prelude.{Result, Ok, Err, Option, Some, None}
use Rattle.refusal.specs.declared.Refusal.{Refusal}

-- ---- a step that refuses nothing stands at a block that is right
step_good : (f : Format) (number row : ℕ) (file : List ℕ) (s : Result (Option (Row × Position)) Refusal) → step_of f number row file ≡ s → ((r : _) → s ≡ Err r → ⊥)
    → (wrong_at f number file ≡ None) × (step_in f number row (is_last number file) (block_at number file) ≡ s)
unfolding step_of
step_good f number row file s e h = by (wrong_at f number file) refl e
  where
    by : (w : Option Kind) → wrong_at f number file ≡ w
        → unless_wrong w number (step_in f number row (is_last number file) (block_at number file)) ≡ s
        → (wrong_at f number file ≡ None) × (step_in f number row (is_last number file) (block_at number file) ≡ s)
    by None p e = (p, e)
    by (Some kind) p e = absurd (h (refusal kind number) (sym e))

step_in_end : (f : Format) (number row : ℕ) (last : Bool) (block : List ℕ) → step_in f number row last block ≡ (Ok None) → last ≡ true
unfolding step_in
step_in_end f number row last block e = by (ltb row (count_in block)) last (eqb row (count_in block)) e
  where
    by : (a b d : Bool) → cond {A = Result (Option (Row × Position)) Refusal} a (Ok (Some ((row_at f (512 * number) row block), (next_position number row (count_in block) last)))) (cond (b && d) (Ok None) (Err (refusal wrong_shape number))) ≡ (Ok None) → b ≡ true
    by false true d e = refl
    by true b d e = let z : ◌≡◌ {A = ℕ} 0 1 = cc in absurd (omega arith)
    by false false d e = let z : ◌≡◌ {A = ℕ} 0 1 = cc in absurd (omega arith)

step_in_row : (f : Format) (number row : ℕ) (last : Bool) (block : List ℕ) (r : Row) (at : Position) → step_in f number row last block ≡ Ok (Some (r, at)) → at ≡ next_position number row (count_in block) last
unfolding step_in
step_in_row f number row last block r at e = by (ltb row (count_in block)) (last && eqb row (count_in block)) e
  where
    by : (a b : Bool) → cond {A = Result (Option (Row × Position)) Refusal} a (Ok (Some ((row_at f (512 * number) row block), (next_position number row (count_in block) last)))) (cond b (Ok None) (Err (refusal wrong_shape number))) ≡ Ok (Some (r, at)) → at ≡ next_position number row (count_in block) last
    by true b e =
        let pair : ◌≡◌ {A = Row × Position} (row_at f (512 * number) row block, next_position number row (count_in block) last) (r, at) = cc in
        sym (ap (λ (x : Row × Position). x.1) pair)
    by false true e = let z : ◌≡◌ {A = ℕ} 0 1 = cc in absurd (omega arith)
    by false false e = let z : ◌≡◌ {A = ℕ} 0 1 = cc in absurd (omega arith)

-- ---- a step leads to the next row of its block, or into the next block
next_position_further : (number row count : ℕ) (last : Bool)
    → (next_position number row count last ≡ position number (row + 1)) ⊎ (next_position number row count last ≡ position (number + 1) 0)
unfolding next_position
next_position_further number row count last = by (ltb (row + 1) count) last
  where
    by : (a b : Bool)
        → (cond a (position number (row + 1)) (cond b (position number (row + 1)) (position (number + 1) 0)) ≡ position number (row + 1))
        ⊎ (cond a (position number (row + 1)) (cond b (position number (row + 1)) (position (number + 1) 0)) ≡ position (number + 1) 0)
    by true b = inl refl
    by false true = inl refl
    by false false = inr refl

pub step_further : Further
step_further reader number row file r at e =
    let f = format_at reader number file in
    let g = step_good f number row file (Ok (Some (r, at))) e (λ x p. let z : ◌≡◌ {A = ℕ} 0 1 = cc in omega arith) in
    rw (step_in_row f number row (is_last number file) (block_at number file) r at g.1) (next_position_further number row (count_in (block_at number file)) (is_last number file))

block_le : (number row : ℕ) (to : Position) → (to ≡ position number (row + 1)) ⊎ (to ≡ position (number + 1) 0) → to.block ≤ number + 1
block_le number row to (inl e) = rw e (omega arith)
block_le number row to (inr e) = rw e (omega arith)

module _ (reader : Reader) (file : List ℕ) where
  -- ---- every block from the position on is right
  reads_good : (at : Position) (rs : List Shown) → Reads reader file (Ok None) at rs → (i : ℕ) → at.block ≤ i → i < length file / 512 → wrong_by reader i file ≡ None
  reads_good _ _ (ended at e) i l h =
      let f = format_at reader at.block file in
      let g = step_good f at.block at.row file (Ok None) e (λ r q. let z : ◌≡◌ {A = ℕ} 0 1 = cc in omega arith) in
      let t : is_last at.block file ≡ true = step_in_end f at.block at.row (is_last at.block file) (block_at at.block file) g.1 in
      let n : 512 * at.block + 512 ≡ length file = eqb-true (512 * at.block + 512) (length file) t in
      let s : i ≡ at.block = omega arith in
      rw s g.0
  reads_good _ _ (showed at to r rs e q) i l h =
      let f = format_at reader at.block file in
      let g = step_good f at.block at.row file (Ok (Some (r, to))) e (λ x p. let z : ◌≡◌ {A = ℕ} 0 1 = cc in omega arith) in
      let m : to.block ≤ at.block + 1 = block_le at.block at.row to (step_further reader at.block at.row file r to e) in
      at_or_past at.block i l (λ s. rw s g.0) (λ s. reads_good to rs q i (omega arith) h)

  -- ---- a reading is one
  pub reads_same : (at at' : Position) (rs ss : List Shown) → at ≡ at' → Reads reader file (Ok None) at rs → Reads reader file (Ok None) at' ss → rs ≡ ss
  reads_same _ _ _ _ p (ended at e) (ended at' e') = refl
  reads_same _ _ _ _ p (ended at e) (showed at' to r ss e' q) =
      let s : step_by reader at.block at.row file ≡ step_by reader at'.block at'.row file = ap (λ (x : Position). step_by reader x.block x.row file) p in
      let z : ◌≡◌ {A = ℕ} 0 1 = cc in absurd (omega arith)
  reads_same _ _ _ _ p (showed at to r rs e q) (ended at' e') =
      let s : step_by reader at.block at.row file ≡ step_by reader at'.block at'.row file = ap (λ (x : Position). step_by reader x.block x.row file) p in
      let z : ◌≡◌ {A = ℕ} 0 1 = cc in absurd (omega arith)
  reads_same _ _ _ _ p (showed at to r rs e q) (showed at' to' r' ss e' q') =
      let s : step_by reader at.block at.row file ≡ step_by reader at'.block at'.row file = ap (λ (x : Position). step_by reader x.block x.row file) p in
      let pair : ◌≡◌ {A = Row × Position} (r, to) (r', to') = cc in
      let same : r ≡ r' = ap (λ (x : Row × Position). x.0) pair in
      let there : to ≡ to' = ap (λ (x : Row × Position). x.1) pair in
      let rest : rs ≡ ss = reads_same to to' rs ss there q q' in
      rw (same, rest)

  reads_first : (at : Position) (rs : List Shown) → Reads reader file (Ok None) at rs → wrong_by reader at.block file ≡ None
  reads_first _ _ (ended at e) = (step_good (format_at reader at.block file) at.block at.row file (Ok None) e (λ r q. let z : ◌≡◌ {A = ℕ} 0 1 = cc in omega arith)).0
  reads_first _ _ (showed at to r rs e q) = (step_good (format_at reader at.block file) at.block at.row file (Ok (Some (r, to))) e (λ x p. let z : ◌≡◌ {A = ℕ} 0 1 = cc in omega arith)).0

-- ---- the last block, told by its number
last_same : (j left len : ℕ) → len ≡ 512 * left + 512 → eqb (512 * j + 512) len ≡ eqb j left
last_same j left len n = by (eqb j left) refl
  where
    by : (t : Bool) → eqb j left ≡ t → eqb (512 * j + 512) len ≡ t
    by true p = let e : j ≡ left = eqb-true j left p in eq-eqb (512 * j + 512) len (omega arith)
    by false p = ne_eqb (512 * j + 512) len (λ e. eqb-false j left p (omega arith))

-- ---- a file whose blocks are right by one format is what writing its rows gives
module _ (f : Format) (s : Sound f) (file : List ℕ) (b : Bytes file) (p : is_place 0 (length file) ≡ true) (good : (j : ℕ) → j < length file / 512 → wrong_at f j file ≡ None) where
  abbrev pub left : ℕ
  left = length file / 512 - 1

  abbrev pub rows : List Entry
  rows = rows_from f left file

  good_to : (j : ℕ) → j ≤ left → wrong_at f j file ≡ None
  good_to j h = let q = is_place_place 0 (length file) p in good j (omega (arith, q.within))

  size : length file ≡ 512 * left + 512
  size = let q = is_place_place 0 (length file) p in omega (arith, q.whole, q.within)

  rights : Rights f 0 left file
  rights j h =
      let z : 0 + j ≡ j = omega arith in
      rw z (rw (last_same j left (length file) size) at (wrong_at_good f j file (good_to j h)).right)

  pub few : left < 2 ^ 32
  few =
      let t = take 4 (block_at left file) in
      let k : length t ≤ 4 = rw (length-take 4 (block_at left file)) (omega arith) in
      let n : length (block_at left file) ≡ 512 = block_length f s file left (good_to left (omega arith)) in
      let e : number_in (block_at left file) ≡ word t = get_at_part 0 4 4 (block_at left file) refl (omega arith) (omega arith) in
      let lt : word t < 256 ^ 4 = word_fits 4 t (take_bytes 4 (block_at left file) (take_bytes 512 (drop (512 * left) file) (drop_bytes (512 * left) file b))) k in
      let m : number_in (block_at left file) ≡ left = (wrong_at_good f left file (good_to left (omega arith))).right.numbered in
      omega arith

  pub fit_rows : Fit f left rows
  fit_rows = fit_rows_from f s.wide left file size b rights

  pub valid_rows : All (Valid f) rows
  valid_rows = valid_rows_from f s.wide left 0 file size b rights

  pub ordered_rows : ascending rows ≡ true
  ordered_rows =
      let follow : Follow f s.wide left file = λ j h. wrong_at_joined f j file (good_to (suc j) h) in
      ascending_rows_from f s.wide left 0 file (per_block_some f s.narrow) size b rights follow

  pub file_rows_from : file ≡ file_from f 0 left rows
  file_rows_from = file_from_rows_from f s.wide left 0 file size b rights

  pub file_written : file ≡ file_of f rows
  unfolding file_of
  file_written =
      let u : (length rows - 1) / per_block f ≡ left = fit_unique f left rows (per_block_some f s.narrow) fit_rows in
      file_rows_from ∙ ap (λ (x : ℕ). file_from f 0 x rows) (sym u)

  -- and every reader that knows the format shows them
  pub reads_rows : (reader : Reader) → Knows reader f → Reads reader file (Ok None) (position 0 0) (map shown_of rows)
  reads_rows reader known =
      subst (λ (x : List ℕ). Reads reader x (Ok None) (position 0 0) (map shown_of rows)) (sym file_rows_from)
      (rw (mul-zero (per_block f)) at (reads_from f s left few rows fit_rows valid_rows ordered_rows reader known left 0 (omega arith)))

-- ---- a file that reads to its end is what writing some rows gives, and shows these
pub was_written : ReadExactly
was_written reader sound file b rs q =
    let f = format_at reader 0 file in
    let s = sound (version_in (block_at 0 file)) in
    let first : wrong_by reader 0 file ≡ None = reads_first reader file (position 0 0) rs q in
    let p = (wrong_at_good f 0 file first).place in
    let known : Knows reader f = known_first reader file first in
    let good : (j : ℕ) → j < length file / 512 → wrong_at f j file ≡ None = λ j h. same_format reader file j (λ i l. reads_good reader file (position 0 0) rs q i (omega arith) (omega arith)) in
    record {
      format = f;
      known = known;
      rows = rows f s file b p good;
      valid = valid_rows f s file b p good;
      ordered = ordered_rows f s file b p good;
      written = file_written f s file b p good;
      read = reads_same reader file (position 0 0) (position 0 0) rs (map shown_of (rows f s file b p good)) refl q (reads_rows f s file b p good reader known);
    }
