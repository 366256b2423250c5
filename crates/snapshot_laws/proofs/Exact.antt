-- A file whose blocks are right is the file of its rows, over the format. Assumes nothing.
use mathlib.Core.Bool.{true, false, ◌||◌}
use mathlib.Core.Path.{◌≡◌, refl, sym, ap, ◌∙◌}
use mathlib.Core.List.{List, ◌++◌}
use Prim.Native.Nat.{ℕ, zero, suc, ◌+◌, ◌-◌, ◌*◌, ◌/◌, ◌≤◌, ◌<◌}
use native.Mathlib.Nat.{mul-suc, mul-zero, mul_comm, suc-mul, div-eq_of_lt-le}
use native.Mathlib.Numerals.{add-one}
use native.Mathlib.Omega.{arith}
use lib.Dec.{eqb, leb, eqb-zero-suc, eqb-suc-suc}
use lib.ListN.{length, get_or, take, drop, length-append, length-drop, take-append-drop, get_or-append}
use lib.Seq.{length-take-le, take_all, take_at, drop_at, drop-drop}
use borrow.Author.Tests.{eqb-true, ltb-true}
use Rattle.refusal.proofs.Tests.{and_true}
use Rattle.little_endian.specs.LittleEndian.{Bytes}
use Rattle.little_endian.proofs.Laws.{take_bytes, drop_bytes}
use Rattle.snapshot_blocks.specs.Blocks.{Entry, block_of, count_in, rows_in_block, is_count, ascending, id_at}
use Rattle.snapshot_blocks.specs.Formats.{Format, per_block}
use Rattle.snapshot_blocks.specs.Valid.{All, Valid}
use Rattle.snapshot_blocks.proofs.Blocks.{Right, length_rows_in_block, valid_rows_in_block, block_of_rows_in_block, is_count_per_block}
use Rattle.snapshot_blocks.specs.Files.{file_from}
use Rattle.snapshot.specs.Snapshot.{block_at, follows}
use Rattle.snapshot_lists.proofs.Versions.{follows_id}
use Rattle.snapshot_laws.proofs.Lists.{none, all_append, ascending_append}
use Rattle.snapshot_laws.proofs.Files.{Fit, id_at_rows_in_block}

-- the rows of so many blocks and of the last one
unfoldable pub rows_from : Format → ℕ → List ℕ → List Entry
rows_from f zero file = rows_in_block f (take 512 file)
rows_from f (suc left) file = rows_in_block f (take 512 file) ++ rows_from f left (drop 512 file)

full_count : (f : Format) (number count : ℕ) → is_count f number false count ≡ true → count ≡ per_block f
unfolding is_count
full_count f number count e = eqb-true count (per_block f) e

last_count : (f : Format) (number count : ℕ) → is_count f number true count ≡ true → count ≡ 0 → number ≡ 0
unfolding is_count
last_count f number count e z = eqb-true number 0 (and_true (leb 0 (per_block f)) (false || eqb number 0) (rw z at e)).1

positive : (n : ℕ) → (n ≡ 0 → ⊥) → 0 < n
positive zero h = absurd (h refl)
positive (suc n) h = omega arith

joined_ids : (f : Format) (t u : List ℕ) (s : List Entry) → 0 < per_block f → length (rows_in_block f t) ≡ per_block f → length (rows_in_block f t) ≡ count_in t → follows f t u ≡ true
    → 0 < count_in u → get_or s 0 none ≡ get_or (rows_in_block f u) 0 none → (get_or (rows_in_block f t) (length (rows_in_block f t) - 1) none).id < (get_or s 0 none).id
joined_ids f t u s p l c o k q =
    let a = id_at_rows_in_block f (per_block f - 1) t (omega arith) in
    let b = id_at_rows_in_block f 0 u k in
    let h : id_at f (per_block f - 1) t < id_at f 0 u = ltb-true (id_at f (per_block f - 1) t) (id_at f 0 u) (follows_id f t u o) in
    rw (l, q, ← a, ← b) h

-- all blocks of a file are right, the first of them at `number`
abbrev pub Rights : Format → ℕ → ℕ → List ℕ → Type 0
Rights f number left file = (j : ℕ) → j ≤ left → Right f (number + j) (eqb j left) (block_at j file)

module _ (f : Format) (w : 8 ≤ f.width) where
  -- the block at the front
  front : (left number : ℕ) (file : List ℕ) → Rights f number left file → Right f number (eqb 0 left) (take 512 file)
  front left number file h = let z : number + 0 ≡ number = omega arith in rw z at (h 0 (omega arith))

  front_full : (left number : ℕ) (file : List ℕ) → Rights f number (suc left) file → Right f number false (take 512 file)
  front_full left number file h = rw (eqb-zero-suc left) at (front (suc left) number file h)

  -- the blocks after it
  after : (left number : ℕ) (file : List ℕ) → Rights f number (suc left) file → Rights f (suc number) left (drop 512 file)
  after left number file h j l =
      let i : number + suc j ≡ suc number + j = omega arith in
      let s : 512 + 512 * j ≡ 512 * suc j = omega arith in
      let d : drop (512 * suc j) file ≡ drop (512 * j) (drop 512 file) = ap (λ (x : ℕ). drop x file) (sym s) ∙ sym (drop-drop (512 * j) 512 file) in
      rw (i, eqb-suc-suc j left, d) at (h (suc j) (omega arith))

  front_length : (left : ℕ) (file : List ℕ) → length file ≡ 512 * left + 512 → length (take 512 file) ≡ 512
  front_length left file n = length-take-le 512 file (omega arith)

  after_length : (left : ℕ) (file : List ℕ) → length file ≡ 512 * suc left + 512 → length (drop 512 file) ≡ 512 * left + 512
  after_length left file n = length-drop 512 file ∙ omega arith

  front_rows : (left number : ℕ) (file : List ℕ) → length file ≡ 512 * suc left + 512 → Bytes file → Rights f number (suc left) file → length (rows_in_block f (take 512 file)) ≡ per_block f
  front_rows left number file n b h =
      let r = front_full left number file h in
      length_rows_in_block f number w false (take 512 file) (front_length (suc left) file n) (take_bytes 512 file b) r ∙ full_count f number (count_in (take 512 file)) r.counted

  pub file_from_rows_from : (left number : ℕ) (file : List ℕ) → length file ≡ 512 * left + 512 → Bytes file → Rights f number left file → file ≡ file_from f number left (rows_from f left file)
  unfolding file_from rows_from
  file_from_rows_from zero number file n b h =
      let t : take 512 file ≡ file = take_all 512 file (omega arith) in
      sym t ∙ block_of_rows_in_block f number w (eqb 0 0) (take 512 file) (front_length 0 file n) (take_bytes 512 file b) (front 0 number file h)
  file_from_rows_from (suc left) number file n b h =
      let r = rows_in_block f (take 512 file) in
      let s = rows_from f left (drop 512 file) in
      let l : length r ≡ per_block f = front_rows left number file n b h in
      let e₁ : take 512 file ≡ block_of f number r = block_of_rows_in_block f number w false (take 512 file) (front_length (suc left) file n) (take_bytes 512 file b) (front_full left number file h) in
      let e₂ : drop 512 file ≡ file_from f (suc number) left s = file_from_rows_from left (suc number) (drop 512 file) (after_length left file n) (drop_bytes 512 file b) (after left number file h) in
      sym (take-append-drop 512 file)
      ∙ ap (λ (x : List ℕ). x ++ drop 512 file) (e₁ ∙ ap (block_of f number) (sym (take_at r s (per_block f) l)))
      ∙ ap (λ (x : List ℕ). block_of f number (take (per_block f) (r ++ s)) ++ x) (e₂ ∙ ap (file_from f (suc number) left) (sym (drop_at r s (per_block f) l)))

  pub valid_rows_from : (left number : ℕ) (file : List ℕ) → length file ≡ 512 * left + 512 → Bytes file → Rights f number left file → All (Valid f) (rows_from f left file)
  unfolding rows_from
  valid_rows_from zero number file n b h = valid_rows_in_block f number w (eqb 0 0) (take 512 file) (front_length 0 file n) (take_bytes 512 file b) (front 0 number file h)
  valid_rows_from (suc left) number file n b h =
      all_append (Valid f) (rows_in_block f (take 512 file)) (rows_from f left (drop 512 file))
      (valid_rows_in_block f number w false (take 512 file) (front_length (suc left) file n) (take_bytes 512 file b) (front_full left number file h))
      (valid_rows_from left (suc number) (drop 512 file) (after_length left file n) (drop_bytes 512 file b) (after left number file h))

  -- how many rows there are
  most : (left number : ℕ) (file : List ℕ) → length file ≡ 512 * left + 512 → Bytes file → Rights f number left file → length (rows_from f left file) ≤ per_block f * left + per_block f
  unfolding rows_from
  most zero number file n b h =
      let r = front 0 number file h in
      let l = length_rows_in_block f number w (eqb 0 0) (take 512 file) (front_length 0 file n) (take_bytes 512 file b) r in
      omega (arith, is_count_per_block f number (eqb 0 0) (count_in (take 512 file)) r.counted)
  most (suc left) number file n b h =
      let i = most left (suc number) (drop 512 file) (after_length left file n) (drop_bytes 512 file b) (after left number file h) in
      let l = front_rows left number file n b h in
      rw (length-append (rows_in_block f (take 512 file)) (rows_from f left (drop 512 file))) (omega (arith, mul-suc (per_block f) left))

  more : (left number : ℕ) (file : List ℕ) → length file ≡ 512 * left + 512 → Bytes file → Rights f number left file → 0 < number + left → per_block f * left < length (rows_from f left file)
  unfolding rows_from
  more zero number file n b h p =
      let r = front 0 number file h in
      let l = length_rows_in_block f number w (eqb 0 0) (take 512 file) (front_length 0 file n) (take_bytes 512 file b) r in
      let c : 0 < count_in (take 512 file) = positive (count_in (take 512 file)) (λ z. let e = last_count f number (count_in (take 512 file)) r.counted z in omega arith) in
      omega (arith, mul-zero (per_block f))
  more (suc left) number file n b h p =
      let i = more left (suc number) (drop 512 file) (after_length left file n) (drop_bytes 512 file b) (after left number file h) (omega arith) in
      let l = front_rows left number file n b h in
      rw (length-append (rows_in_block f (take 512 file)) (rows_from f left (drop 512 file))) (omega (arith, mul-suc (per_block f) left))

  pub fit_rows_from : (left : ℕ) (file : List ℕ) → length file ≡ 512 * left + 512 → Bytes file → Rights f 0 left file → Fit f left (rows_from f left file)
  fit_rows_from zero file n b h = record { lo = omega (arith, mul-zero (per_block f)); hi = most zero 0 file n b h }
  fit_rows_from (suc left) file n b h = let m = more (suc left) 0 file n b h (omega arith) in record { lo = omega arith; hi = most (suc left) 0 file n b h }

  -- ---- the rows ascend
  -- each block after the first starts above the last row before
  abbrev pub Follow : ℕ → List ℕ → Type 0
  Follow left file = (j : ℕ) → suc j ≤ left → follows f (block_at j file) (block_at (suc j) file) ≡ true

  after_follow : (left : ℕ) (file : List ℕ) → Follow (suc left) file → Follow left (drop 512 file)
  after_follow left file h j l =
      let s₁ : 512 + 512 * j ≡ 512 * suc j = omega arith in
      let s₂ : 512 + 512 * suc j ≡ 512 * suc (suc j) = omega arith in
      let d₁ : drop (512 * suc j) file ≡ drop (512 * j) (drop 512 file) = ap (λ (x : ℕ). drop x file) (sym s₁) ∙ sym (drop-drop (512 * j) 512 file) in
      let d₂ : drop (512 * suc (suc j)) file ≡ drop (512 * suc j) (drop 512 file) = ap (λ (x : ℕ). drop x file) (sym s₂) ∙ sym (drop-drop (512 * suc j) 512 file) in
      rw (d₁, d₂) at (h (suc j) (omega arith))

  -- the first row of some blocks is the first of the block at the front
  first_row : (left number : ℕ) (file : List ℕ) → 0 < per_block f → length file ≡ 512 * left + 512 → Bytes file → Rights f number left file → 0 < length (rows_from f left file)
      → (0 < count_in (take 512 file)) × (get_or (rows_from f left file) 0 none ≡ get_or (rows_in_block f (take 512 file)) 0 none)
  unfolding rows_from
  first_row zero number file p n b h l =
      let r = length_rows_in_block f number w (eqb 0 0) (take 512 file) (front_length 0 file n) (take_bytes 512 file b) (front 0 number file h) in
      (omega arith, refl)
  first_row (suc left) number file p n b h l =
      let k = front_rows left number file n b h in
      let r = length_rows_in_block f number w false (take 512 file) (front_length (suc left) file n) (take_bytes 512 file b) (front_full left number file h) in
      (omega arith, get_or-append (rows_in_block f (take 512 file)) (rows_from f left (drop 512 file)) none 0 (omega arith))

  pub ascending_rows_from : (left number : ℕ) (file : List ℕ) → 0 < per_block f → length file ≡ 512 * left + 512 → Bytes file → Rights f number left file → Follow left file
      → ascending (rows_from f left file) ≡ true
  unfolding rows_from
  ascending_rows_from zero number file p n b h g = (front 0 number file h).ordered
  ascending_rows_from (suc left) number file p n b h g =
      let t = take 512 file in
      let d = drop 512 file in
      let r = rows_in_block f t in
      let s = rows_from f left d in
      let nd = after_length left file n in
      let bd = drop_bytes 512 file b in
      let hd = after left number file h in
      let l : length r ≡ per_block f = front_rows left number file n b h in
      let c : length r ≡ count_in t = length_rows_in_block f number w false t (front_length (suc left) file n) (take_bytes 512 file b) (front_full left number file h) in
      let o : follows f t (take 512 d) ≡ true = g 0 (omega arith) in
      ascending_append r s (front_full left number file h).ordered (ascending_rows_from left (suc number) d p nd bd hd (after_follow left file g)) (omega arith)
      (λ k. let q = first_row left (suc number) d p nd bd hd k in
      joined_ids f t (take 512 d) s p l c o q.0 q.1)

-- ---- how many blocks so many rows make
pub fit_unique : (f : Format) (left : ℕ) (rows : List Entry) → 0 < per_block f → Fit f left rows → (length rows - 1) / per_block f ≡ left
fit_unique f left rows p fit =
    let m : per_block f * left ≡ left * per_block f = mul_comm (per_block f) left in
    let s : (left + 1) * per_block f ≡ left * per_block f + per_block f = sums left (per_block f) in
    div-eq_of_lt-le {k = left} (per_block f) (omega (arith, fit.lo)) (rw s (omega (arith, fit.hi)))
  where
    sums : (a b : ℕ) → (a + 1) * b ≡ a * b + b
    sums a b = ap (λ (x : ℕ). x * b) (add-one a) ∙ suc-mul a b
