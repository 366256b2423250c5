-- A written file is right at every block, over the format. Assumes nothing.
use Rattle.std.specs.Prelude.{None}
use mathlib.Core.Bool.{Bool, true, false, ◌||◌}
use mathlib.Core.Path.{◌≡◌, refl, sym, ap, ◌∙◌}
use mathlib.Core.List.{List}
use Prim.Native.Nat.{ℕ, zero, suc, ◌+◌, ◌-◌, ◌*◌, ◌^◌, ◌≤◌, ◌<◌, min}
use native.Mathlib.Nat.{mul-suc, mul-le-mul_left}
use native.Mathlib.Omega.{arith}
use lib.Dec.{eqb, ltb}
use lib.ListN.{length, get_or, drop, length-take, length-drop}
use lib.Seq.{get_or-take, get_or-drop}
use borrow.Author.Tests.{le-leb, eqb-true, eqb-false, eq-eqb, ltb-true, ltb-false, lt-ltb}
use Rattle.refusal.proofs.Tests.{all}
use Rattle.snapshot_blocks.specs.Blocks.{Entry, block_of, count_in, version_in, rows_in_block, is_count, ascending, id_at}
use Rattle.snapshot_blocks.specs.Formats.{Format, per_block}
use Rattle.snapshot_blocks.specs.Valid.{Sound, All, Valid}
use Rattle.snapshot_blocks.proofs.Rows.{all_wide}
use Rattle.snapshot_blocks.proofs.Blocks.{per_block_some, Right, rows_in_block_block_of, right_block_of, count_in_block_of}
use Rattle.snapshot_blocks.specs.Files.{file_from}
use Rattle.snapshot.specs.Snapshot.{block_at, is_last, follows, wrong_at}
use Rattle.snapshot.proofs.Turns.{place_is_place}
use Rattle.snapshot_laws.proofs.Lists.{none, all_take, all_drop, ascending_take, ascending_drop, ascending_next}
use Rattle.snapshot_laws.proofs.Files.{Fit, chunk, length_chunk_le, chunk_full, length_chunk_last, length_file_from, block_at_file_from, id_at_rows_in_block, right_wrong_at}

or_right : (a : Bool) → a || true ≡ true
or_right true = refl
or_right false = refl

module _ (f : Format) (left : ℕ) (rows : List Entry) (p : 0 < per_block f) (fit : Fit f left rows) where
  -- how many rows stand in the block at j
  chunk_some : (j : ℕ) → 0 < j → j ≤ left → per_block f * j < length rows
  chunk_some zero z h = absurd (omega arith)
  chunk_some (suc i) z h =
      let m : per_block f * suc i ≤ per_block f * left = mul-le-mul_left (per_block f) h in
      omega (arith, fit.lo, mul-suc (per_block f) i)

  some_or_only : (j : ℕ) → j ≡ left → ltb 0 (length (chunk f j rows)) || eqb j 0 ≡ true
  some_or_only zero e = or_right (ltb 0 (length (chunk f 0 rows)))
  some_or_only (suc i) e =
      let s = chunk_some (suc i) (omega arith) (omega arith) in
      let l : length (chunk f (suc i) rows) ≡ length rows - per_block f * suc i = rw (← e) at (length_chunk_last f left rows fit) in
      let some : ltb 0 (length (chunk f (suc i) rows)) ≡ true = lt-ltb 0 (length (chunk f (suc i) rows)) (omega arith) in
      rw some

  counted : (j : ℕ) → j ≤ left → (last : Bool) → eqb (512 * j + 512) (512 * left + 512) ≡ last → is_count f j last (length (chunk f j rows)) ≡ true
  unfolding is_count
  counted j h true e =
      let q : 512 * j + 512 ≡ 512 * left + 512 = eqb-true (512 * j + 512) (512 * left + 512) e in
      let z : j ≡ left = omega arith in
      rw (le-leb (length (chunk f j rows)) (per_block f) (length_chunk_le f j rows), some_or_only j z)
  counted j h false e = by (ltb j left) refl
    where
      by : (t : Bool) → ltb j left ≡ t → eqb (length (chunk f j rows)) (per_block f) ≡ true
      by true q = eq-eqb (length (chunk f j rows)) (per_block f) (chunk_full f left rows fit j p (ltb-true j left q))
      by false q =
          let g : left ≤ j = ltb-false j left q in
          let same : 512 * j + 512 ≡ 512 * left + 512 = omega arith in
          absurd (eqb-false (512 * j + 512) (512 * left + 512) e same)

module _ (f : Format) (s : Sound f) (left : ℕ) (big : left < 2 ^ 32) (rows : List Entry)
    (fit : Fit f left rows) (a : All (Valid f) rows) (o : ascending rows ≡ true) where
  abbrev file : List ℕ
  file = file_from f 0 left rows

  per_some : 0 < per_block f
  per_some = per_block_some f s.narrow

  pub file_length_lem : length file ≡ 512 * left + 512
  file_length_lem = length_file_from f left 0 rows fit (all_wide f rows a)

  file_block : (j : ℕ) → j ≤ left → block_at j file ≡ block_of f j (chunk f j rows)
  file_block j h =
      let z : 0 + j ≡ j = omega arith in
      block_at_file_from f left 0 j rows h fit (all_wide f rows a) ∙ ap (λ (x : ℕ). block_of f x (chunk f j rows)) z

  pub chunk_valid : (j : ℕ) → All (Valid f) (chunk f j rows)
  chunk_valid j = all_take (Valid f) (per_block f) (drop (per_block f * j) rows) (all_drop (Valid f) (per_block f * j) rows a)

  pub file_rows : (j : ℕ) → j ≤ left → rows_in_block f (block_at j file) ≡ chunk f j rows
  file_rows j h = ap (rows_in_block f) (file_block j h) ∙ rows_in_block_block_of f j s.wide (chunk f j rows) (length_chunk_le f j rows) (chunk_valid j)

  pub file_count : (j : ℕ) → j ≤ left → count_in (block_at j file) ≡ length (chunk f j rows)
  file_count j h = ap count_in (file_block j h) ∙ count_in_block_of f j s.wide (chunk f j rows) (length_chunk_le f j rows) (chunk_valid j)

  pub file_right : (j : ℕ) → j ≤ left → Right f j (is_last j file) (block_at j file)
  file_right j h =
      let c : is_count f j (is_last j file) (length (chunk f j rows)) ≡ true =
      counted f left rows per_some fit j h (is_last j file) (ap (eqb (512 * j + 512)) (sym file_length_lem)) in
      rw (file_block j h)
      (right_block_of f j s.wide (chunk f j rows) (length_chunk_le f j rows) (chunk_valid j) (is_last j file) (omega arith) s.fits c
      (ascending_take (per_block f) (drop (per_block f * j) rows) (ascending_drop (per_block f * j) rows o)))

  file_id : (j k : ℕ) → j ≤ left → k < length (chunk f j rows) → id_at f k (block_at j file) ≡ (get_or rows (per_block f * j + k) none).id
  file_id j k h l =
      let m : k < count_in (block_at j file) = rw (file_count j h) l in
      let n : k < per_block f = omega (arith, length_chunk_le f j rows) in
      id_at_rows_in_block f k (block_at j file) m
      ∙ ap (λ (x : List Entry). (get_or x k none).id) (file_rows j h)
      ∙ ap (λ (x : Entry). x.id) (get_or-take (per_block f) (drop (per_block f * j) rows) k none n ∙ get_or-drop (per_block f * j) rows k none)

  file_follows : (i : ℕ) → suc i ≤ left → follows f (block_at i file) (block_at (suc i) file) ≡ true
  unfolding follows
  file_follows i h =
      let per = per_block f in
      let m₁ = mul-suc per i in
      let p = per_some in
      let full : length (chunk f i rows) ≡ per = chunk_full f left rows fit i per_some (omega arith) in
      let some = chunk_some f left rows per_some fit (suc i) (omega arith) h in
      let l : length (chunk f (suc i) rows) ≡ min per (length rows - per * suc i) = length-take per (drop (per * suc i) rows) ∙ ap (min per) (length-drop (per * suc i) rows) in
      let e₁ : per * i + (per - 1) + 1 ≡ per * suc i = omega arith in
      let m : ℕ = per * i + (per - 1) in
      let e₂ : suc m ≡ per * suc i + 0 = omega arith in
      let n : suc m < length rows = omega arith in
      let a₁ = file_id i (per - 1) (omega arith) (omega arith) in
      let a₂ = file_id (suc i) 0 h (omega arith) in
      let v = (file_right i (omega arith)).versioned in
      all (eq-eqb (version_in (block_at i file)) f.version v)
      (lt-ltb (id_at f (per - 1) (block_at i file)) (id_at f 0 (block_at (suc i) file)) (rw (a₁, a₂, ← e₂) (ascending_next rows m n o)))

  pub good_file_from : (j : ℕ) → j ≤ left → wrong_at f j file ≡ None
  good_file_from j h =
      let l = file_length_lem in
      right_wrong_at f j file (place_is_place j (length file) (omega arith) (omega arith)) (file_right j h) (follow j h)
    where
      follow : (j : ℕ) → j ≤ left → (j ≡ 0 → ⊥) → follows f (block_at (j - 1) file) (block_at j file) ≡ true
      follow zero h z = absurd (z refl)
      follow (suc i) h z = let e : suc i - 1 ≡ i = omega arith in rw e (file_follows i h)
