-- The rows of a file by their places in it: those of a block that is right stand one after the other, a block before the last has as many as fit one,
-- and of a file that was written they are the rows that it was written from. Assumes nothing.
use Rattle.std.specs.Prelude.{None}
use mathlib.Core.Bool.{true, false}
use mathlib.Core.Path.{◌≡◌, refl, sym, ap, ◌∙◌}
use mathlib.Core.List.{List, ◌∷◌, ◌++◌}
use Prim.Native.Nat.{ℕ, zero, suc, ◌+◌, ◌-◌, ◌*◌, ◌/◌, ◌%◌, ◌^◌, ◌≤◌, ◌<◌}
use native.Mathlib.Nat.{mul-suc, mul-zero, mul-add-div, mul-add-mod_self_left, div-eq_of_lt, mod-eq_of_lt}
use native.Mathlib.Numerals.{add-one}
use native.Mathlib.Omega.{arith}
use lib.ListN.{length, get_or, drop, length-take, length-drop, take-append-drop, drop_of_length-le}
use lib.Seq.{drop-drop}
use Rattle.refusal.proofs.Tests.{or_false}
use Rattle.carried.specs.Carried.{width}
use Rattle.keys.specs.Keys.{brought}
use Rattle.keys.proofs.Laws.{length_brought}
use Rattle.snapshot_blocks.specs.Formats.{Format, format_of, row_length, per_block}
use Rattle.snapshot_blocks.specs.Blocks.{Entry, count_in, entry_of, entries_in, rows_in_block, any_refused, ascending}
use Rattle.snapshot_blocks.specs.Valid.{Sound, Valid, All}
use Rattle.snapshot_blocks.specs.Files.{file_from}
use Rattle.snapshot_blocks.proofs.Blocks.{per_block_some, per_block_room}
use Rattle.snapshot_blocks.proofs.Turns.{format_of_sound, format_of_short}
use Rattle.snapshot.specs.Snapshot.{block_at, is_place, wrong_at}
use Rattle.snapshot.proofs.Turns.{is_place_place, wrong_at_good, wrong_at_count}
use Rattle.snapshot_lists.specs.Lists.{total, entry_at}
use Rattle.snapshot_lists.proofs.Carried.{length_carried}
use Rattle.snapshot_lists.proofs.Rows.{full}
use Rattle.snapshot_laws.specs.Lent.{entries_from}
use Rattle.snapshot_laws.proofs.Lists.{none, all_append}
use Rattle.snapshot_laws.proofs.Files.{Fit, chunk, chunk_full, chunk_last, length_chunk_last, get_d_entries_in}
use Rattle.snapshot_laws.proofs.Steps.{block_length, length_rows, row_cons}
use Rattle.snapshot_laws.proofs.Written.{file_length_lem, file_rows, file_count, good_file_from}

pub more : (f : Format) (j : ℕ) → per_block f * j + per_block f ≡ per_block f * (j + 1)
more f j = sym (ap (λ (x : ℕ). per_block f * x) (add-one j) ∙ mul-suc (per_block f) j ∙ omega arith)

-- ---- entries_from
module _ (f : Format) (file : List ℕ) where
  pub length_entries_from : (n p : ℕ) → length (entries_from f file p n) ≡ n
  unfolding entries_from
  length_entries_from zero p = refl
  length_entries_from (suc n) p = ap suc (length_entries_from n (suc p))

  pub entries_from_add : (m n p : ℕ) → entries_from f file p (m + n) ≡ entries_from f file p m ++ entries_from f file (p + m) n
  unfolding entries_from
  entries_from_add zero n p = let e : 0 + n ≡ n = omega arith in let z : p + 0 ≡ p = omega arith in rw (e, z)
  entries_from_add (suc m) n p =
      let e : suc m + n ≡ suc (m + n) = omega arith in
      let z : suc p + m ≡ p + suc m = omega arith in
      rw (e, ← z) (ap (λ (x : List Entry). entry_at f file p ∷ x) (entries_from_add m n (suc p)))

-- ---- the rows of a block that is right
module _ (f : Format) (s : Sound f) (file : List ℕ) (j : ℕ) (g : wrong_at f j file ≡ None) where
  entry_here : (k : ℕ) → k < count_in (block_at j file) → get_or (rows_in_block f (block_at j file)) k none ≡ entry_at f file (per_block f * j + k)
  unfolding rows_in_block entry_at
  entry_here k h =
      let c = wrong_at_count f j file g in
      let some = per_block_some f s.narrow in
      let q : (per_block f * j + k) / per_block f ≡ j = mul-add-div {m = per_block f} some j k ∙ omega (arith, div-eq_of_lt {n = k} {m = per_block f} (omega arith)) in
      let r : (per_block f * j + k) % per_block f ≡ k = mul-add-mod_self_left (per_block f) j k ∙ mod-eq_of_lt {n = k} {m = per_block f} (omega arith) in
      rw (q, r) (get_d_entries_in f (count_in (block_at j file)) k (drop 8 (block_at j file)) h ∙ ap (entry_of f) (drop-drop (row_length f * k) 8 (block_at j file)))

  rows_from : (m k : ℕ) → k + m ≡ count_in (block_at j file) → drop k (rows_in_block f (block_at j file)) ≡ entries_from f file (per_block f * j + k) m
  unfolding entries_from
  rows_from zero k e =
      let l = length_rows f s file j g in
      drop_of_length-le (rows_in_block f (block_at j file)) {i = k} (omega arith)
  rows_from (suc m) k e =
      let h : k < count_in (block_at j file) = omega arith in
      let t : per_block f * j + (k + 1) ≡ suc (per_block f * j + k) = omega arith in
      row_cons f s file j g k h
      ∙ ap (λ (x : Entry). x ∷ drop (k + 1) (rows_in_block f (block_at j file))) (entry_here k h)
      ∙ ap (λ (x : List Entry). entry_at f file (per_block f * j + k) ∷ x) (rows_from m (k + 1) (omega arith) ∙ ap (λ (x : ℕ). entries_from f file x m) t)

  pub rows_block : rows_in_block f (block_at j file) ≡ entries_from f file (per_block f * j) (count_in (block_at j file))
  rows_block =
      let z : per_block f * j + 0 ≡ per_block f * j = omega arith in
      rows_from (count_in (block_at j file)) 0 (omega arith) ∙ ap (λ (x : ℕ). entries_from f file x (count_in (block_at j file))) z

  -- a full block, and then more
  pub rows_full : count_in (block_at j file) ≡ per_block f → (n : ℕ)
      → entries_from f file (per_block f * j) (per_block f + n) ≡ rows_in_block f (block_at j file) ++ entries_from f file (per_block f * (j + 1)) n
  rows_full c n =
      entries_from_add f file (per_block f) n (per_block f * j)
      ∙ ap (λ (x : ℕ). entries_from f file (per_block f * j) (per_block f) ++ entries_from f file x n) (more f j)
      ∙ ap (λ (x : List Entry). x ++ entries_from f file (per_block f * (j + 1)) n) (sym (rows_block ∙ ap (entries_from f file (per_block f * j)) c))

-- ---- what holds of the rows of each block holds of all
module _ (f : Format) (s : Sound f) (file : List ℕ) (p : is_place 0 (length file) ≡ true) (P : Entry → Type 0) (good : (j : ℕ) → j < length file / 512 → wrong_at f j file ≡ None)
    (each : (j : ℕ) → wrong_at f j file ≡ None → All P (rows_in_block f (block_at j file))) where
  abbrev last : ℕ
  last = length file / 512 - 1

  abbrev count : ℕ
  count = count_in (block_at last file)

  all_from : (m j : ℕ) → j + m ≡ last → All P (entries_from f file (per_block f * j) (per_block f * m + count))
  all_from zero j e =
      let q = is_place_place 0 (length file) p in
      let z : j ≡ last = omega arith in
      let g : wrong_at f last file ≡ None = good last (omega (arith, q.within)) in
      let c : per_block f * zero + count ≡ count = omega (arith, mul-zero (per_block f)) in
      rw (z, c, ← (rows_block f s file last g)) (each last g)
  all_from (suc m) j e =
      let q = is_place_place 0 (length file) p in
      let g : wrong_at f j file ≡ None = good j (omega (arith, q.within)) in
      let c : per_block f * suc m + count ≡ per_block f + (per_block f * m + count) = omega (arith, mul-suc (per_block f) m) in
      rw (c, rows_full f s file j g (full f file p j (omega (arith, q.within)) g) (per_block f * m + count))
      (all_append P (rows_in_block f (block_at j file)) (entries_from f file (per_block f * (j + 1)) (per_block f * m + count)) (each j g) (all_from m (j + 1) (omega arith)))

  pub all_total : All P (entries_from f file 0 (total f file))
  unfolding total
  all_total = rw (mul-zero (per_block f)) at (all_from last 0 (omega arith))

-- ---- a row that this library knows is brought in as many bytes as the store keeps
abbrev pub Brings : Entry → Type 0
Brings e = length (brought e.carried) ≡ width

brings_entries_in : (v n : ℕ) (l : List ℕ) → row_length (format_of v) * n ≤ length l → any_refused (format_of v) (entries_in (format_of v) n l) ≡ false → All Brings (entries_in (format_of v) n l)
unfolding entries_in any_refused
brings_entries_in v zero l h r = tt
brings_entries_in v (suc n) l h r =
    let f = format_of v in
    let s = format_of_sound v in
    let w : ℕ = row_length f in
    let m = mul-suc w n in
    let d : w * n ≤ length (drop w l) = rw (length-drop w l) (omega arith) in
    let o = or_false (f.refuses (entry_of f l).carried) (any_refused f (entries_in f n (drop w l))) r in
    let k : length (entry_of f l).carried ≡ f.width = length_carried f s l (omega arith) in
    (length_brought (entry_of f l).carried (omega (arith, s.wide)) (format_of_short v (entry_of f l).carried k o.0), brings_entries_in v n (drop w l) d o.1)

pub brings_block : (v : ℕ) (file : List ℕ) (j : ℕ) → wrong_at (format_of v) j file ≡ None → All Brings (rows_in_block (format_of v) (block_at j file))
unfolding rows_in_block
brings_block v file j g =
    let f = format_of v in
    let n = block_length f (format_of_sound v) file j g in
    let m = per_block_room f (count_in (block_at j file)) (wrong_at_count f j file g) in
    brings_entries_in v (count_in (block_at j file)) (drop 8 (block_at j file)) (rw (length-drop 8 (block_at j file)) (omega arith)) (wrong_at_good f j file g).right.carries

-- ---- of a file that was written
module _ (f : Format) (s : Sound f) (left : ℕ) (big : left < 2 ^ 32) (rows : List Entry)
    (fit : Fit f left rows) (a : All (Valid f) rows) (o : ascending rows ≡ true) where
  abbrev file : List ℕ
  file = file_from f 0 left rows

  last_count : count_in (block_at left file) ≡ length rows - per_block f * left
  last_count = file_count f s left big rows fit a o left (omega arith) ∙ length_chunk_last f left rows fit

  pub total_file_from : total f file ≡ length rows
  unfolding total
  total_file_from =
      let e : length file / 512 - 1 ≡ left = omega (arith, file_length_lem f s left big rows fit a o) in
      rw e (omega (arith, last_count, fit.lo))

  entries_from_lem : (m j : ℕ) → j + m ≡ left → entries_from f file (per_block f * j) (length rows - per_block f * j) ≡ drop (per_block f * j) rows
  entries_from_lem zero j e =
      let z : j ≡ left = omega arith in
      rw z
      (ap (entries_from f file (per_block f * left)) (sym last_count)
      ∙ sym (rows_block f s file left (good_file_from f s left big rows fit a o left (omega arith)))
      ∙ file_rows f s left big rows fit a o left (omega arith)
      ∙ chunk_last f left rows fit)
  entries_from_lem (suc m) j e =
      let g = good_file_from f s left big rows fit a o j (omega arith) in
      let k = chunk_full f left rows fit j (per_block_some f s.narrow) (omega arith) in
      let l : length (chunk f j rows) ≤ length rows - per_block f * j = omega (arith, length-drop (per_block f * j) rows, length-take (per_block f) (drop (per_block f * j) rows)) in
      let c : count_in (block_at j file) ≡ per_block f = file_count f s left big rows fit a o j (omega arith) ∙ k in
      let n : length rows - per_block f * j ≡ per_block f + (length rows - per_block f * (j + 1)) = omega (arith, more f j) in
      let d : drop (per_block f) (drop (per_block f * j) rows) ≡ drop (per_block f * (j + 1)) rows = drop-drop (per_block f) (per_block f * j) rows ∙ ap (λ (x : ℕ). drop x rows) (more f j) in
      ap (entries_from f file (per_block f * j)) n
      ∙ rows_full f s file j g c (length rows - per_block f * (j + 1))
      ∙ ap (λ (x : List Entry). x ++ entries_from f file (per_block f * (j + 1)) (length rows - per_block f * (j + 1))) (file_rows f s left big rows fit a o j (omega arith))
      ∙ ap (λ (x : List Entry). chunk f j rows ++ x) (entries_from_lem m (j + 1) (omega arith) ∙ sym d)
      ∙ take-append-drop (per_block f) (drop (per_block f * j) rows)

  pub entries_file_from : entries_from f file 0 (total f file) ≡ rows
  entries_file_from =
      let z : total f file ≡ length rows - 0 = total_file_from ∙ omega arith in
      ap (entries_from f file 0) z ∙ (rw (mul-zero (per_block f)) at (entries_from_lem left 0 (omega arith)))
