-- The steps over a file whose blocks are right, over the format and over every reader that knows it: what they show, and where they lead. Assumes
-- nothing.
use mathlib.Core.Bool.{Bool, true, false, cond}
use mathlib.Core.Path.{◌≡◌, refl, sym, ap, subst, ◌∙◌}
use mathlib.Core.List.{List, [], ◌∷◌, ◌++◌, map}
use Prim.Native.Nat.{ℕ, zero, suc, ◌+◌, ◌*◌, ◌<◌}
use native.Mathlib.Numerals.{add-one}
use native.Mathlib.Omega.{arith}
use lib.Dec.{ltb}
use lib.ListN.{length, get_or, drop, drop_of_length-le}
use lib.Seq.{drop-cons}
use borrow.Author.Tests.{eq-eqb, lt-ltb, le-ltb}
use Rattle.snapshot_blocks.specs.Blocks.{Entry, count_in, rows_in_block, row_at}
use Rattle.snapshot_blocks.specs.Formats.{Format, Reader}
use Rattle.snapshot_blocks.specs.declared.Row.{Row}
use Rattle.snapshot_blocks.specs.Valid.{Sound}
use Rattle.snapshot_blocks.proofs.Rows.{length_entries_in}
use Rattle.snapshot.specs.declared.Position.{Position}
use Rattle.snapshot.specs.Snapshot.{block_at, is_last, wrong_at, next_position, step_in, step_of, step_by}
use Rattle.snapshot.proofs.Turns.{wrong_at_end, length_block_at}
use Rattle.snapshot_lists.proofs.Versions.{known_format}
use Rattle.snapshot_laws.specs.Reading.{Shown, seen_in, shown_of, position, Reads, ended, showed, Knows}
use Rattle.snapshot_laws.proofs.Lists.{none}
use Rattle.snapshot_laws.proofs.Keys.{seen_rows_in_block}
use Rattle.std.specs.Prelude.{Result, Ok, Option, Some, None}
use Rattle.refusal.specs.declared.Refusal.{Refusal}

pub map_append : (es fs : List Entry) → map shown_of (es ++ fs) ≡ map shown_of es ++ map shown_of fs
map_append [] fs = refl
map_append (e ∷ es) fs = ap (λ (x : List Shown). shown_of e ∷ x) (map_append es fs)

abbrev showing : Row → Position → Result (Option (Row × Position)) Refusal
showing r next = Ok (Some (r, next))

-- a step shows a row, told by what is seen of it
pub reads_row : (reader : Reader) (file : List ℕ) (stop : Result (Option (Row × Position)) Refusal) (at next : Position) (r : Row) (x : Shown) (rs : List Shown)
    → step_by reader at.block at.row file ≡ Ok (Some (r, next)) → seen_in file r ≡ x → Reads reader file stop next rs → Reads reader file stop at (x ∷ rs)
reads_row reader file stop at next r x rs e s q = subst (λ (y : Shown). Reads reader file stop at (y ∷ rs)) s (showed at next r rs e q)

-- ---- a block that is right
module _ (f : Format) (s : Sound f) (file : List ℕ) (j : ℕ) (g : wrong_at f j file ≡ None) where
  pub block_length : length (block_at j file) ≡ 512
  block_length = length_block_at j file (wrong_at_end f j file g)

  pub length_rows : length (rows_in_block f (block_at j file)) ≡ count_in (block_at j file)
  unfolding rows_in_block
  length_rows = length_entries_in f (count_in (block_at j file)) (drop 8 (block_at j file))

  pub row_cons : (k : ℕ) → k < count_in (block_at j file) → drop k (rows_in_block f (block_at j file)) ≡ get_or (rows_in_block f (block_at j file)) k none ∷ drop (k + 1) (rows_in_block f (block_at j file))
  row_cons k h =
      let l = length_rows in
      drop-cons (rows_in_block f (block_at j file)) k none (omega arith) ∙ ap (λ (x : ℕ). get_or (rows_in_block f (block_at j file)) k none ∷ drop x (rows_in_block f (block_at j file))) (sym (add-one k))

  seen : (k : ℕ) → k < count_in (block_at j file) → seen_in file (row_at f (512 * j) k (block_at j file)) ≡ shown_of (get_or (rows_in_block f (block_at j file)) k none)
  seen k h = seen_rows_in_block f s file j k g h

  next_position_same : (k : ℕ) (last : Bool) → k + 1 < count_in (block_at j file) → next_position j k (count_in (block_at j file)) last ≡ position j (k + 1)
  unfolding next_position
  next_position_same k last h = rw (lt-ltb (k + 1) (count_in (block_at j file)) h)

  next_position_last : (k : ℕ) → next_position j k (count_in (block_at j file)) true ≡ position j (k + 1)
  unfolding next_position
  next_position_last k = by (ltb (k + 1) (count_in (block_at j file)))
    where
      by : (t : Bool) → cond t (position j (k + 1)) (position j (k + 1)) ≡ position j (k + 1)
      by true = refl
      by false = refl

  next_position_block : (k : ℕ) → k + 1 ≡ count_in (block_at j file) → next_position j k (count_in (block_at j file)) false ≡ position (j + 1) 0
  unfolding next_position
  next_position_block k e = rw (le-ltb (k + 1) (count_in (block_at j file)) (omega arith))

  -- ---- the steps in it, of a reader that knows its format
  module _ (reader : Reader) (known : Knows reader f) where
    step_format : (k : ℕ) → step_by reader j k file ≡ step_of f j k file
    step_format k = ap (λ (x : Format). step_of x j k file) (known_format reader file f j known g)

    step_row : (k : ℕ) → k < count_in (block_at j file)
        → step_by reader j k file ≡ Ok (Some ((row_at f (512 * j) k (block_at j file)), (next_position j k (count_in (block_at j file)) (is_last j file))))
    unfolding step_of step_in
    step_row k h = step_format k ∙ here
      where
        here : step_of f j k file ≡ Ok (Some ((row_at f (512 * j) k (block_at j file)), (next_position j k (count_in (block_at j file)) (is_last j file))))
        here = rw (g, lt-ltb k (count_in (block_at j file)) h)

    step_end : (k : ℕ) → k ≡ count_in (block_at j file) → is_last j file ≡ true → step_by reader j k file ≡ (Ok None)
    unfolding step_of step_in
    step_end k e t = step_format k ∙ here
      where
        here : step_of f j k file ≡ (Ok None)
        here = rw (g, le-ltb k (count_in (block_at j file)) (omega arith), t, eq-eqb k (count_in (block_at j file)) e)

    -- from a row of the last block to the end
    pub reads_last : is_last j file ≡ true → (m k : ℕ) → k + m ≡ count_in (block_at j file) → Reads reader file (Ok None) (position j k) (map shown_of (drop k (rows_in_block f (block_at j file))))
    reads_last t zero k e =
        let l = length_rows in
        let d : drop k (rows_in_block f (block_at j file)) ≡ [] = drop_of_length-le (rows_in_block f (block_at j file)) {i = k} (omega arith) in
        rw d (ended (position j k) (step_end k (omega arith) t))
    reads_last t (suc m) k e =
        let h : k < count_in (block_at j file) = omega arith in
        let e₁ = step_row k h ∙ ap (showing (row_at f (512 * j) k (block_at j file))) (ap (next_position j k (count_in (block_at j file))) t ∙ next_position_last k) in
        rw (row_cons k h) (reads_row reader file (Ok None) (position j k) (position j (k + 1)) _ _ _ e₁ (seen k h) (reads_last t m (k + 1) (omega arith)))

    -- from a row of a block before the last into the next block
    pub reads_full : is_last j file ≡ false → (stop : Result (Option (Row × Position)) Refusal) (rs : List Shown) → Reads reader file stop (position (j + 1) 0) rs → (m k : ℕ) → k + suc m ≡ count_in (block_at j file)
        → Reads reader file stop (position j k) (map shown_of (drop k (rows_in_block f (block_at j file))) ++ rs)
    reads_full t stop rs q zero k e =
        let l = length_rows in
        let h : k < count_in (block_at j file) = omega arith in
        let d : drop (k + 1) (rows_in_block f (block_at j file)) ≡ [] = drop_of_length-le (rows_in_block f (block_at j file)) {i = k + 1} (omega arith) in
        let e₁ = step_row k h ∙ ap (showing (row_at f (512 * j) k (block_at j file))) (ap (next_position j k (count_in (block_at j file))) t ∙ next_position_block k (omega arith)) in
        rw (row_cons k h, d) (reads_row reader file stop (position j k) (position (j + 1) 0) _ _ _ e₁ (seen k h) q)
    reads_full t stop rs q (suc m) k e =
        let h : k < count_in (block_at j file) = omega arith in
        let e₁ = step_row k h ∙ ap (showing (row_at f (512 * j) k (block_at j file))) (next_position_same k (is_last j file) (omega arith)) in
        rw (row_cons k h) (reads_row reader file stop (position j k) (position j (k + 1)) _ _ _ e₁ (seen k h) (reads_full t stop rs q m (k + 1) (omega arith)))
