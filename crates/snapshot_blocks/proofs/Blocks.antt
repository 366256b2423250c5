-- A block and its rows, both ways, over the format: what is written is right, and what is right is what its rows give. Assumes nothing.
use mathlib.Core.Bool.{Bool, true, false, not, cond, ◌||◌}
use mathlib.Core.Path.{◌≡◌, refl, sym, ap, ◌∙◌}
use mathlib.Core.List.{List, [], ◌++◌, append_assoc}
use Prim.Native.Nat.{ℕ, ◌+◌, ◌-◌, ◌*◌, ◌^◌, ◌≤◌, ◌<◌}
use native.Mathlib.Nat.{mul-le-mul_left, mul-div-le, div-le_self, le_trans, le-div_iff_mul-le}
use native.Mathlib.Omega.{arith}
use lib.Dec.{eqb, leb, ltb}
use lib.ListN.{length, take, drop, replicate, length-append, length-drop, length-replicate}
use lib.Seq.{length-take-le, take_at, drop_at, drop-drop, take-add}
use borrow.Author.Tests.{leb-true, eqb-true, eq-eqb, not-true}
use Rattle.refusal.proofs.Tests.{and_true}
use Rattle.little_endian.specs.LittleEndian.{Bytes, bytes_of}
use Rattle.little_endian.proofs.Laws.{append_bytes, drop_bytes, zero_bytes, bytes_of_bytes, length_bytes_of, word_bytes_of, get_at_middle}
use Rattle.zeros.specs.Zeros.{all_zero}
use Rattle.zeros.proofs.Laws.{all_zero_replicate, replicate_all_zero}
use Rattle.sizes.specs.Sizes.{check_width}
use Rattle.seal.specs.Seal.{check_of, signed, is_signed}
use Rattle.seal.proofs.Laws.{length_signed, is_signed_signed, signed_is_signed}
use Rattle.snapshot_blocks.specs.Formats.{Format, row_length, per_block}
use Rattle.std.specs.Prelude.{Option, Some, None}
use Rattle.refusal.specs.declared.Kind.{Kind}
use Rattle.refusal.specs.Refusals.{check_differs, unknown_version, wrong_block}
use Rattle.snapshot_blocks.specs.Blocks.{Entry, rows_bytes, block_body, block_of, number_in, count_in, version_in, rows_in_block, any_refused, is_count, padding_after, ascending, right_in, wrong_in}
use Rattle.snapshot_blocks.specs.Valid.{Valid, All}
use Rattle.snapshot_blocks.proofs.Fields.{field_back}
use Rattle.snapshot_blocks.proofs.Rows.{Wide, all_wide, length_rows_bytes, rows_bytes_bytes, entries_in_rows_bytes, rows_bytes_entries_in, valid_entries_in, length_entries_in, any_refused_valid}

-- ---- per_block
pub per_block_some : (f : Format) → f.width ≤ 80 → 0 < per_block f
unfolding per_block
per_block_some f h = (le-div_iff_mul-le {k = row_length f} {x = 1} {y = 480} (omega arith)).1 (omega arith)

pub per_block_le : (f : Format) → per_block f ≤ 480
unfolding per_block
per_block_le f = div-le_self 480 (row_length f)

pub per_block_room : (f : Format) (n : ℕ) → n ≤ per_block f → row_length f * n ≤ 480
unfolding per_block
per_block_room f n h = le_trans (mul-le-mul_left (row_length f) h) (mul-div-le 480 (row_length f))

pub is_count_per_block : (f : Format) (number : ℕ) (last : Bool) (count : ℕ) → is_count f number last count ≡ true → count ≤ per_block f
unfolding is_count
is_count_per_block f number false count e = omega (arith, eqb-true count (per_block f) e)
is_count_per_block f number true count e = leb-true count (per_block f) (and_true (leb count (per_block f)) (ltb 0 count || eqb number 0) e).0

-- ---- when nothing is wrong in a block
pub record Right (f : Format) (number : ℕ) (last : Bool) (block : List ℕ) : Type 0 where
  pub intact : is_signed block ≡ true
  pub versioned : version_in block ≡ f.version
  pub numbered : number_in block ≡ number
  pub counted : is_count f number last (count_in block) ≡ true
  pub padded : all_zero (padding_after f (count_in block) block) ≡ true
  pub carries : any_refused f (rows_in_block f block) ≡ false
  pub ordered : ascending (rows_in_block f block) ≡ true

pub wrong_in_right : (f : Format) (number : ℕ) (last : Bool) (block : List ℕ) → wrong_in f number last block ≡ None → Right f number last block
unfolding wrong_in right_in
wrong_in_right f number last block = by (is_signed block) (eqb (version_in block) f.version) (right_in f number last block) refl refl refl
  where
    by : (t u v : Bool) → is_signed block ≡ t → eqb (version_in block) f.version ≡ u → right_in f number last block ≡ v
        → ◌≡◌ {A = Option Kind} (cond (not t) (Some check_differs) (cond (not u) (Some unknown_version) (cond (not v) (Some wrong_block) None))) None → Right f number last block
    by true true true pt pu pv e =
        let a = and_true (eqb (number_in block) number) _ pv in
        let b = and_true (is_count f number last (count_in block)) _ a.1 in
        let d = and_true (all_zero (padding_after f (count_in block) block)) _ b.1 in
        let g = and_true (not (any_refused f (rows_in_block f block))) _ d.1 in
        record {
          intact = pt;
          versioned = eqb-true (version_in block) f.version pu;
          numbered = eqb-true (number_in block) number a.0;
          counted = b.0;
          padded = d.0;
          carries = not-true _ g.0;
          ordered = g.1;
        }
    by false u v pt pu pv e = let n : ◌≡◌ {A = ℕ} 0 1 = cc in absurd (omega arith)
    by true false v pt pu pv e = let n : ◌≡◌ {A = ℕ} 0 1 = cc in absurd (omega arith)
    by true true false pt pu pv e = let n : ◌≡◌ {A = ℕ} 0 1 = cc in absurd (omega arith)

pub right_wrong_in : (f : Format) (number : ℕ) (last : Bool) (block : List ℕ) → Right f number last block → wrong_in f number last block ≡ None
unfolding wrong_in right_in
right_wrong_in f number last block r =
    rw (r.intact, eq-eqb (version_in block) f.version r.versioned, eq-eqb (number_in block) number r.numbered, r.counted, r.padded, r.carries, r.ordered)

-- ---- a written block
zeros : List Entry → List ℕ
zeros rows = replicate (500 - length (rows_bytes rows)) 0

checked : Format → ℕ → List Entry → List ℕ
checked f number rows = bytes_of check_width (check_of (block_body f number rows))

block_of_parts : (f : Format) (number : ℕ) (rows : List Entry)
    → block_of f number rows ≡ bytes_of 4 number ++ (bytes_of 2 (length rows) ++ (bytes_of 2 f.version ++ (rows_bytes rows ++ (zeros rows ++ checked f number rows))))
unfolding block_of signed block_body zeros checked
block_of_parts f number rows = simp append_assoc

module _ (f : Format) (number : ℕ) (rows : List Entry) (h : length rows ≤ per_block f) (a : All (Wide f) rows) where
  rows_length : length (rows_bytes rows) ≡ row_length f * length rows
  rows_length = length_rows_bytes f rows a

  rows_room : length (rows_bytes rows) ≤ 480
  rows_room = rw rows_length (per_block_room f (length rows) h)

  length_block_body : length (block_body f number rows) ≡ 508
  unfolding block_body
  length_block_body =
      let r = rows_room in
      simp (length-append, length_bytes_of) (omega (arith, length-replicate {A = ℕ} (500 - length (rows_bytes rows)) 0))

  pub length_block_of : length (block_of f number rows) ≡ 512
  unfolding block_of
  length_block_of = length_signed (block_body f number rows) ∙ omega (arith, length_block_body)

module _ (f : Format) (number : ℕ) (w : 8 ≤ f.width) (rows : List Entry) (h : length rows ≤ per_block f) (a : All (Valid f) rows) where
  block_body_bytes : Bytes (block_body f number rows)
  unfolding block_body
  block_body_bytes =
      let r = rows_bytes rows in
      let z : List ℕ = replicate (500 - length r) 0 in
      append_bytes (bytes_of 4 number) (bytes_of 2 (length rows) ++ (bytes_of 2 f.version ++ (r ++ z))) (bytes_of_bytes 4 number)
      (append_bytes (bytes_of 2 (length rows)) (bytes_of 2 f.version ++ (r ++ z)) (bytes_of_bytes 2 (length rows))
      (append_bytes (bytes_of 2 f.version) (r ++ z) (bytes_of_bytes 2 f.version)
      (append_bytes r z (rows_bytes_bytes f rows a) (zero_bytes (500 - length r)))))

  pub count_in_block_of : count_in (block_of f number rows) ≡ length rows
  count_in_block_of =
      let n = length rows in
      let q = bytes_of 2 f.version ++ (rows_bytes rows ++ (zeros rows ++ checked f number rows)) in
      let lt : n < 256 ^ 2 = omega (arith, per_block_le f) in
      ap count_in (block_of_parts f number rows)
      ∙ get_at_middle (bytes_of 4 number) (bytes_of 2 n) q 4 6 (length_bytes_of 4 number) (omega (arith, length_bytes_of 2 n)) (omega (arith, length_bytes_of 2 n))
      ∙ word_bytes_of 2 n lt

  number_in_block_of : number < 2 ^ 32 → number_in (block_of f number rows) ≡ number
  number_in_block_of lt =
      let q = bytes_of 2 (length rows) ++ (bytes_of 2 f.version ++ (rows_bytes rows ++ (zeros rows ++ checked f number rows))) in
      ap number_in (block_of_parts f number rows)
      ∙ get_at_middle [] (bytes_of 4 number) q 0 4 refl (omega (arith, length_bytes_of 4 number)) (omega (arith, length_bytes_of 4 number))
      ∙ word_bytes_of 4 number lt

  pub version_in_block_of : f.version < 2 ^ 16 → version_in (block_of f number rows) ≡ f.version
  version_in_block_of lt =
      let b₁ = bytes_of 4 number in
      let b₂ = bytes_of 2 (length rows) in
      let b₃ = bytes_of 2 f.version in
      let q = rows_bytes rows ++ (zeros rows ++ checked f number rows) in
      let k : length (b₁ ++ b₂) ≡ 6 = length-append b₁ b₂ ∙ omega (arith, length_bytes_of 4 number, length_bytes_of 2 (length rows)) in
      ap version_in (block_of_parts f number rows ∙ sym (append_assoc b₁ b₂ (b₃ ++ q)))
      ∙ get_at_middle (b₁ ++ b₂) b₃ q 6 8 k (omega (arith, length_bytes_of 2 f.version)) (omega (arith, length_bytes_of 2 f.version))
      ∙ word_bytes_of 2 f.version lt

  -- what stands after the head
  after_head : drop 8 (block_of f number rows) ≡ rows_bytes rows ++ (zeros rows ++ checked f number rows)
  after_head =
      let b₁ = bytes_of 4 number in
      let b₂ = bytes_of 2 (length rows) in
      let b₃ = bytes_of 2 f.version in
      let q = rows_bytes rows ++ (zeros rows ++ checked f number rows) in
      let k : length (b₁ ++ (b₂ ++ b₃)) ≡ 8 =
      length-append b₁ (b₂ ++ b₃) ∙ omega (arith, length-append b₂ b₃, length_bytes_of 4 number, length_bytes_of 2 (length rows), length_bytes_of 2 f.version) in
      let split : b₁ ++ (b₂ ++ (b₃ ++ q)) ≡ (b₁ ++ (b₂ ++ b₃)) ++ q = sym (append_assoc b₁ (b₂ ++ b₃) q ∙ ap (λ (x : List ℕ). b₁ ++ x) (append_assoc b₂ b₃ q)) in
      ap (drop 8) (block_of_parts f number rows ∙ split) ∙ drop_at (b₁ ++ (b₂ ++ b₃)) q 8 k

  -- the rows come back
  pub rows_in_block_block_of : rows_in_block f (block_of f number rows) ≡ rows
  unfolding rows_in_block
  rows_in_block_block_of = rw (count_in_block_of, after_head) (entries_in_rows_bytes f w rows (zeros rows ++ checked f number rows) a)

  padding_block_of : padding_after f (length rows) (block_of f number rows) ≡ zeros rows
  unfolding zeros
  padding_block_of =
      let r = rows_bytes rows in
      let l = rows_length f number rows h (all_wide f rows a) in
      let m = rows_room f number rows h (all_wide f rows a) in
      let s : row_length f * length rows ≡ length r = sym l in
      let z = zeros rows ++ checked f number rows in
      let d : drop (8 + row_length f * length rows) (block_of f number rows) ≡ z =
      sym (drop-drop (row_length f * length rows) 8 (block_of f number rows)) ∙ ap (drop (row_length f * length rows)) after_head ∙ drop_at r z (row_length f * length rows) l in
      let n : length (zeros rows) ≡ 508 - (8 + row_length f * length rows) = length-replicate {A = ℕ} (500 - length r) 0 ∙ omega arith in
      ap (take (508 - (8 + row_length f * length rows))) d ∙ take_at (zeros rows) (checked f number rows) (508 - (8 + row_length f * length rows)) n

  pub intact_block_of : is_signed (block_of f number rows) ≡ true
  unfolding block_of
  intact_block_of = is_signed_signed (block_body f number rows) block_body_bytes

  -- a written block is right at its place
  pub right_block_of : (last : Bool) → number < 2 ^ 32 → f.version < 2 ^ 16 → is_count f number last (length rows) ≡ true → ascending rows ≡ true
      → Right f number last (block_of f number rows)
  unfolding zeros
  right_block_of last n v c o =
      record {
        intact = intact_block_of;
        versioned = version_in_block_of v;
        numbered = number_in_block_of n;
        counted = rw count_in_block_of c;
        padded = rw (count_in_block_of, padding_block_of) (all_zero_replicate (500 - length (rows_bytes rows)));
        carries = rw rows_in_block_block_of (any_refused_valid f rows a);
        ordered = rw rows_in_block_block_of o;
      }

-- ---- a block that is right is what its rows give
module _ (f : Format) (number : ℕ) (w : 8 ≤ f.width) (last : Bool) (block : List ℕ) (n : length block ≡ 512) (b : Bytes block) (r : Right f number last block) where
  pub right_count : count_in block ≤ per_block f
  right_count = is_count_per_block f number last (count_in block) r.counted

  right_room : row_length f * count_in block ≤ length (drop 8 block)
  right_room = let m = per_block_room f (count_in block) right_count in rw (length-drop 8 block) (omega arith)

  pub length_rows_in_block : length (rows_in_block f block) ≡ count_in block
  unfolding rows_in_block
  length_rows_in_block = length_entries_in f (count_in block) (drop 8 block)

  pub valid_rows_in_block : All (Valid f) (rows_in_block f block)
  unfolding rows_in_block
  valid_rows_in_block = valid_entries_in f w (count_in block) (drop 8 block) (drop_bytes 8 block b) right_room r.carries

  rows_bytes_lem : rows_bytes (rows_in_block f block) ≡ take (row_length f * count_in block) (drop 8 block)
  unfolding rows_in_block
  rows_bytes_lem = rows_bytes_entries_in f w (count_in block) (drop 8 block) (drop_bytes 8 block b) right_room

  body_block_body : take 508 block ≡ block_body f number (rows_in_block f block)
  unfolding block_body
  body_block_body =
      let k = row_length f * count_in block in
      let m : k ≤ 480 = per_block_room f (count_in block) right_count in
      let rows = rows_in_block f block in
      let lr : length (rows_bytes rows) ≡ k = ap length rows_bytes_lem ∙ length-take-le k (drop 8 block) right_room in
      let pad = take (500 - k) (drop (8 + k) block) in
      let same : 508 - (8 + k) ≡ 500 - k = omega arith in
      let lp : length pad ≡ 500 - k = length-take-le (500 - k) (drop (8 + k) block) (rw (length-drop (8 + k) block) (omega arith)) in
      let z : all_zero pad ≡ true = rw same at r.padded in
      let zs : pad ≡ replicate (500 - length (rows_bytes rows)) 0 = replicate_all_zero pad z ∙ ap (λ (x : ℕ). replicate x 0) (lp ∙ ap (λ (x : ℕ). 500 - x) (sym lr)) in
      let f₁ : take 4 block ≡ bytes_of 4 number = sym (field_back 0 4 4 block refl (omega arith) (omega arith) b) ∙ ap (bytes_of 4) r.numbered in
      let f₂ : take 2 (drop 4 block) ≡ bytes_of 2 (length rows) = sym (field_back 4 6 2 block refl (omega arith) (omega arith) b) ∙ ap (bytes_of 2) (sym length_rows_in_block) in
      let f₃ : take 2 (drop 6 block) ≡ bytes_of 2 f.version = sym (field_back 6 8 2 block refl (omega arith) (omega arith) b) ∙ ap (bytes_of 2) r.versioned in
      let s : 508 ≡ 4 + (2 + (2 + (k + (500 - k)))) = omega arith in
      ap (λ (x : ℕ). take x block) s
      ∙ take-add 4 (2 + (2 + (k + (500 - k)))) block
      ∙ ap (λ (x : List ℕ). x ++ take (2 + (2 + (k + (500 - k)))) (drop 4 block)) f₁
      ∙ ap (λ (x : List ℕ). bytes_of 4 number ++ x)
      (take-add 2 (2 + (k + (500 - k))) (drop 4 block)
      ∙ ap (λ (x : List ℕ). x ++ take (2 + (k + (500 - k))) (drop 2 (drop 4 block))) f₂
      ∙ ap (λ (x : List ℕ). bytes_of 2 (length rows) ++ x)
      (ap (take (2 + (k + (500 - k)))) (drop-drop 2 4 block)
      ∙ take-add 2 (k + (500 - k)) (drop 6 block)
      ∙ ap (λ (x : List ℕ). x ++ take (k + (500 - k)) (drop 2 (drop 6 block))) f₃
      ∙ ap (λ (x : List ℕ). bytes_of 2 f.version ++ x)
      (ap (take (k + (500 - k))) (drop-drop 2 6 block)
      ∙ take-add k (500 - k) (drop 8 block)
      ∙ ap (λ (x : List ℕ). x ++ take (500 - k) (drop k (drop 8 block))) (sym rows_bytes_lem)
      ∙ ap (λ (x : List ℕ). rows_bytes rows ++ x) (ap (take (500 - k)) (drop-drop k 8 block) ∙ zs))))

  pub block_of_rows_in_block : block ≡ block_of f number (rows_in_block f block)
  unfolding block_of
  block_of_rows_in_block =
      let e : length block - check_width ≡ 508 = omega arith in
      signed_is_signed block b (omega arith) r.intact ∙ ap signed (ap (λ (x : ℕ). take x block) e ∙ body_block_body)
