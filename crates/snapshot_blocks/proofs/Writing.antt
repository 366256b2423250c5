-- Writing a block from the tables: a row by what it carries and three numbers, row after row, then head, padding and check. Assumes nothing.
use mathlib.Core.Bool.{false}
use mathlib.Core.Path.{◌≡◌, refl, sym, ap, ◌∙◌}
use mathlib.Core.List.{List, [], ◌∷◌, ◌++◌, map, append-nil, append_assoc}
use Prim.Native.Nat.{ℕ, suc, ◌+◌, ◌-◌, ◌*◌, ◌^◌, ◌≤◌, ◌<◌}
use native.Mathlib.Numerals.{add-one}
use native.Mathlib.Omega.{arith}
use lib.ListN.{length, get_or, take, drop, replicate, length-append, length-drop, take-append-drop, drop_of_length-le}
use lib.Seq.{length-take-le, take_all, take_at, take-suc, take-add, take-take, drop_at, drop-drop, drop-append-le}
use Rattle.list_parts.specs.Parts.{part}
use borrow.Rule.Slice.PartMut.{put_mid}
use Rattle.list_parts.proofs.Parts.{length_part_full, part_range}
use Rattle.list_parts.proofs.Ranges.{put_range}
use Rattle.carried.specs.Carried.{put_row}
use Rattle.carried.proofs.Laws.{put_row_done}
use Rattle.little_endian.specs.LittleEndian.{Bytes, bytes_of, get_at, put_at}
use Rattle.little_endian.proofs.Laws.{take_bytes, drop_bytes, bytes_of_zero, length_bytes_of}
use Rattle.seal.specs.Seal.{signed, resigned}
use Rattle.seal.proofs.Laws.{resigned_body}
use Rattle.snapshot_blocks.specs.Formats.{Format}
use Rattle.snapshot_blocks.specs.Blocks.{Entry, entry_for, AreRows, row_bytes, rows_bytes, block_body, block_of}
use Rattle.snapshot_blocks.specs.Valid.{Valid, All}
use Rattle.snapshot_blocks.proofs.Fields.{field_back, put_at_front}
use Rattle.snapshot_blocks.proofs.Rows.{Wide, length_row_bytes}

-- ---- the rows of the tables
module _ (f : Format) (locations carried : List ℕ) where
  tail_rows : (i : ℕ) (ids : List ℕ) → AreRows f.width locations carried (i ∷ ids) → AreRows f.width locations carried ids
  tail_rows i ids h k l = h (suc k) (omega arith)

  pub wide_entries_for : (ids : List ℕ) → AreRows f.width locations carried ids → All (Wide f) (map (entry_for f.width locations carried) ids)
  wide_entries_for [] h = tt
  wide_entries_for (i ∷ ids) h = (length_part_full f.width carried i (h 0 (omega arith)).1, wide_entries_for ids (tail_rows i ids h))

  -- ids and locations of 64 bits and bytes, as all that is lent as such is
  pub valid_entries_for : (ids : List ℕ) → ((k : ℕ) → get_or ids k 0 < 2 ^ 64) → ((k : ℕ) → get_or locations k 0 < 2 ^ 64) → Bytes carried
      → ((i : ℕ) → f.refuses (part f.width carried i) ≡ false) → AreRows f.width locations carried ids → All (Valid f) (map (entry_for f.width locations carried) ids)
  valid_entries_for [] n l b c h = tt
  valid_entries_for (i ∷ ids) n l b c h = (
    record {
      id_fits = n 0;
      location_fits = l i;
      wide = length_part_full f.width carried i (h 0 (omega arith)).1;
      bytes = take_bytes f.width (drop (i * f.width) carried) (drop_bytes (i * f.width) carried b);
      carries = c i;
    },
    valid_entries_for ids (λ k. n (suc k)) l b c (tail_rows i ids h),
  )

-- ---- a row: three numbers, one after the other
three_put : (b b₁ b₂ b₃ : List ℕ) (start id collection location : ℕ) → start + 24 ≤ length b → b₁ ≡ put_at start (start + 8) id b → b₂ ≡ put_at (start + 8) (start + 16) collection b₁
    → b₃ ≡ put_at (start + 16) (start + 24) location b₂
    → b₃ ≡ take start b ++ ((bytes_of 8 id ++ (bytes_of 8 collection ++ bytes_of 8 location)) ++ drop (start + 24) b)
three_put b b₁ b₂ b₃ start id collection location h e₁ e₂ e₃ =
    let p = take start b in
    let r = drop start b in
    let p₁ = p ++ bytes_of 8 id in
    let p₂ = p₁ ++ bytes_of 8 collection in
    let r₁ = drop 8 r in
    let r₂ = drop 8 r₁ in
    let k : length p ≡ start = length-take-le start b (omega arith) in
    let k₁ : length p₁ ≡ start + 8 = length-append p (bytes_of 8 id) ∙ omega (arith, length_bytes_of 8 id) in
    let k₂ : length p₂ ≡ start + 16 = length-append p₁ (bytes_of 8 collection) ∙ omega (arith, length_bytes_of 8 collection) in
    let n = length-drop start b in
    let n₁ = length-drop 8 r in
    let n₂ = length-drop 8 r₁ in
    let f₁ : b₁ ≡ p₁ ++ r₁ = e₁ ∙ ap (put_at start (start + 8) id) (sym (take-append-drop start b)) ∙ put_at_front p r start (start + 8) 8 id k refl (omega arith) in
    let f₂ : b₂ ≡ p₂ ++ r₂ = e₂ ∙ ap (put_at (start + 8) (start + 16) collection) f₁ ∙ put_at_front p₁ r₁ (start + 8) (start + 16) 8 collection k₁ (omega arith) (omega arith) in
    let d : drop 8 r₂ ≡ drop (start + 24) b = ap (drop 8) (drop-drop 8 8 r) ∙ drop-drop 8 16 r ∙ drop-drop 24 start b in
    e₃ ∙ ap (put_at (start + 16) (start + 24) location) f₂ ∙ put_at_front p₂ r₂ (start + 16) (start + 24) 8 location k₂ (omega arith) (omega arith)
    ∙ ap (λ (x : List ℕ). (p₂ ++ bytes_of 8 location) ++ x) d
    ∙ ap (λ (x : List ℕ). x ++ drop (start + 24) b) (append_assoc p₁ (bytes_of 8 collection) (bytes_of 8 location) ∙ append_assoc p (bytes_of 8 id) (bytes_of 8 collection ++ bytes_of 8 location))
    ∙ append_assoc p (bytes_of 8 id ++ (bytes_of 8 collection ++ bytes_of 8 location)) (drop (start + 24) b)

pub length_row_for : (locations carried : List ℕ) (id : ℕ) → id * 80 + 80 ≤ length carried → length (row_bytes (entry_for 80 locations carried id)) ≡ 96
length_row_for locations carried id h = length_row_bytes (entry_for 80 locations carried id) ∙ omega (arith, length_part_full 80 carried id h)

-- what a row carries, over the part of a block that it takes with the location before it
pub row_over : (b carried : List ℕ) (start id : ℕ) (over : List ℕ) → start + 96 ≤ length b → id * 80 + 80 ≤ length carried
    → over ≡ put_row 80 (take (start + 16 + 80 - (start + 16)) (drop (start + 16) b)) 0 (take (id * 80 + 80 - id * 80) (drop (id * 80) carried))
    → put_mid (start + 16) (start + 16 + 80 - (start + 16)) b over ≡ take (start + 16) b ++ (part 80 carried id ++ drop (start + 96) b)
row_over b carried start id over h room e =
    let c = part 80 carried id in
    let n : length c ≡ 80 = length_part_full 80 carried id room in
    let w : start + 16 + 80 - (start + 16) ≡ 80 = omega arith in
    let m = take 80 (drop (start + 16) b) in
    let k : length m ≡ 80 = length-take-le 80 (drop (start + 16) b) (rw (length-drop (start + 16) b) (omega arith)) in
    let z : drop 80 m ≡ [] = drop_of_length-le m {i = 80} (omega arith) in
    let e₂ : over ≡ put_row 80 m 0 c = rw (w, part_range 80 carried id) at e in
    let o : over ≡ c = e₂ ∙ put_row_done 80 m 0 c (omega arith) n ∙ ap (λ (x : List ℕ). c ++ x) z ∙ append-nil c in
    let s : start + 16 + 80 ≡ start + 96 = omega arith in
    put_range b (start + 16) (start + 16 + 80) (omega arith) over ∙ ap (λ (x : List ℕ). take (start + 16) b ++ (x ++ drop (start + 16 + 80) b)) o
    ∙ ap (λ (x : ℕ). take (start + 16) b ++ (c ++ drop x b)) s

-- what it carries, put eight bytes too early, and the three numbers over its first eight bytes and what stands before
pub row_put : (b b₁ b₂ b₃ b₄ locations carried : List ℕ) (start id collection : ℕ) → start + 96 ≤ length b → id * 80 + 80 ≤ length carried → Bytes carried
    → b₁ ≡ take (start + 16) b ++ (part 80 carried id ++ drop (start + 96) b) → collection ≡ get_at (id * 80) (id * 80 + 8) carried
    → b₂ ≡ put_at start (start + 8) id b₁ → b₃ ≡ put_at (start + 8) (start + 16) collection b₂ → b₄ ≡ put_at (start + 16) (start + 24) (get_or locations id 0) b₃
    → b₄ ≡ take start b ++ (row_bytes (entry_for 80 locations carried id) ++ drop (start + 96) b)
unfolding row_bytes
row_put b b₁ b₂ b₃ b₄ locations carried start id collection h room bytes e₁ ec e₂ e₃ e₄ =
    let c = part 80 carried id in
    let d = drop (id * 80) carried in
    let p = take start b in
    let q = take 16 (drop start b) in
    let tail = drop (start + 96) b in
    let location : ℕ = get_or locations id 0 in
    let n : length c ≡ 80 = length_part_full 80 carried id room in
    let kp : length p ≡ start = length-take-le start b (omega arith) in
    let kq : length q ≡ 16 = length-take-le 16 (drop start b) (rw (length-drop start b) (omega arith)) in
    let kpq : length (p ++ q) ≡ start + 16 = length-append p q ∙ omega arith in
    let f₁ : b₁ ≡ (p ++ q) ++ (c ++ tail) = e₁ ∙ ap (λ (x : List ℕ). x ++ (c ++ tail)) (take-add start 16 b) in
    let room₁ : start + 24 ≤ length b₁ = rw (f₁, length-append (p ++ q) (c ++ tail), length-append c tail) (omega arith) in
    let front : take start b₁ ≡ p = ap (take start) (f₁ ∙ append_assoc p q (c ++ tail)) ∙ take_at p (q ++ (c ++ tail)) start kp in
    let eight : start + 16 + 8 ≡ start + 24 = omega arith in
    let back : drop (start + 24) b₁ ≡ drop 8 c ++ tail =
    ap (λ (x : ℕ). drop x b₁) (sym eight) ∙ sym (drop-drop 8 (start + 16) b₁)
    ∙ ap (drop 8) (ap (drop (start + 16)) f₁ ∙ drop_at (p ++ q) (c ++ tail) (start + 16) kpq)
    ∙ drop-append-le 8 c tail (omega arith) in
    let t : bytes_of 8 collection ≡ take 8 c = ap (bytes_of 8) ec ∙ field_back (id * 80) (id * 80 + 8) 8 carried refl (omega arith) (omega arith) bytes ∙ sym (take-take 8 80 d (omega arith)) in
    let x₁ = bytes_of 8 id in
    let x₃ = bytes_of 8 location in
    three_put b₁ b₂ b₃ b₄ start id collection location room₁ e₂ e₃ e₄
    ∙ ap (λ (x : List ℕ). x ++ ((x₁ ++ (bytes_of 8 collection ++ x₃)) ++ drop (start + 24) b₁)) front
    ∙ ap (λ (x : List ℕ). p ++ ((x₁ ++ (bytes_of 8 collection ++ x₃)) ++ x)) back
    ∙ ap (λ (x : List ℕ). p ++ ((x₁ ++ (x ++ x₃)) ++ (drop 8 c ++ tail))) t
    ∙ ap (λ (x : List ℕ). p ++ x) (simp append_assoc)

-- ---- row after row: the first i of them stand after the head, what follows is as it was
abbrev pub Laid : (ℕ → Entry) → List ℕ → List ℕ → ℕ → List ℕ → Type 0
Laid e ids old i block =
    (length (rows_bytes (map e (take i ids))) ≡ 96 * i) × (block ≡ take 8 old ++ (rows_bytes (map e (take i ids)) ++ drop (8 + 96 * i) old))

pub laid_start : (e : ℕ → Entry) (ids old : List ℕ) → Laid e ids old 0 old
unfolding rows_bytes
laid_start e ids old = (refl, sym (take-append-drop 8 old))

rows_bytes_snoc : (es : List Entry) (e : Entry) → rows_bytes (es ++ (e ∷ [])) ≡ rows_bytes es ++ row_bytes e
unfolding rows_bytes
rows_bytes_snoc [] e = append-nil (row_bytes e)
rows_bytes_snoc (x ∷ es) e = ap (λ (y : List ℕ). row_bytes x ++ y) (rows_bytes_snoc es e) ∙ sym (append_assoc (row_bytes x) (rows_bytes es) (row_bytes e))

map_snoc : (e : ℕ → Entry) (ids : List ℕ) (i : ℕ) → map e (ids ++ (i ∷ [])) ≡ map e ids ++ (e i ∷ [])
map_snoc e [] i = refl
map_snoc e (x ∷ ids) i = ap (λ (y : List Entry). e x ∷ y) (map_snoc e ids i)

pub laid_turn : (e : ℕ → Entry) (ids old block after row : List ℕ) (i : ℕ) → i < length ids → 8 + 96 * i + 96 ≤ length old → Laid e ids old i block
    → length row ≡ 96 → row ≡ row_bytes (e (get_or ids i 0)) → after ≡ take (8 + 96 * i) block ++ (row ++ drop (8 + 96 * i + 96) block) → Laid e ids old (i + 1) after
laid_turn e ids old block after row i h room laid n r a =
    let es = map e (take i ids) in
    let bs = rows_bytes es in
    let head = take 8 old in
    let rest = drop (8 + 96 * i) old in
    let now = map e (take (i + 1) ids) in
    let m : now ≡ es ++ (e (get_or ids i 0) ∷ []) = ap (λ (x : ℕ). map e (take x ids)) (add-one i) ∙ ap (map e) (take-suc ids i 0 h) ∙ map_snoc e (take i ids) (get_or ids i 0) in
    let s : rows_bytes now ≡ bs ++ row = ap rows_bytes m ∙ rows_bytes_snoc es (e (get_or ids i 0)) ∙ ap (λ (x : List ℕ). bs ++ x) (sym r) in
    let k : length head ≡ 8 = length-take-le 8 old (omega arith) in
    let kb : length (head ++ bs) ≡ 8 + 96 * i = length-append head bs ∙ omega (arith, laid.0) in
    let split : block ≡ (head ++ bs) ++ rest = laid.1 ∙ sym (append_assoc head bs rest) in
    let t : take (8 + 96 * i) block ≡ head ++ bs = ap (take (8 + 96 * i)) split ∙ take_at (head ++ bs) rest (8 + 96 * i) kb in
    let w : 8 + 96 * i + 96 ≡ 8 + 96 * (i + 1) = omega arith in
    let d : drop (8 + 96 * i + 96) block ≡ drop (8 + 96 * (i + 1)) old =
    sym (drop-drop 96 (8 + 96 * i) block) ∙ ap (drop 96) (ap (drop (8 + 96 * i)) split ∙ drop_at (head ++ bs) rest (8 + 96 * i) kb)
    ∙ drop-drop 96 (8 + 96 * i) old ∙ ap (λ (x : ℕ). drop x old) w in
    let tail = drop (8 + 96 * (i + 1)) old in (
      ap length s ∙ length-append bs row ∙ omega (arith, laid.0),
      a ∙ ap (λ (x : List ℕ). x ++ (row ++ drop (8 + 96 * i + 96) block)) t ∙ ap (λ (x : List ℕ). (head ++ bs) ++ (row ++ x)) d
          ∙ append_assoc head bs (row ++ tail) ∙ ap (λ (x : List ℕ). head ++ x) (sym (append_assoc bs row tail) ∙ ap (λ (x : List ℕ). x ++ tail) (sym s)),
    )

pub laid_done : (e : ℕ → Entry) (ids old block : List ℕ) (i : ℕ) → i ≡ length ids → Laid e ids old i block → block ≡ take 8 old ++ (rows_bytes (map e ids) ++ drop (8 + 96 * length ids) old)
laid_done e ids old block i h laid =
    let t : take i ids ≡ ids = take_all i ids (omega arith) in
    laid.1 ∙ rw (t, h)

-- ---- a block: its head, its rows, its padding, its check
pub block_written : (f : Format) (number n end : ℕ) (rows : List Entry) (block b₁ b₂ b₃ b₄ b₅ after : List ℕ) → length rows ≡ n → length (rows_bytes rows) + 8 ≡ end → end ≤ 508
    → length block ≡ 512 → b₁ ≡ put_at 0 4 number block → b₂ ≡ put_at 4 6 n b₁ → b₃ ≡ put_at 6 8 f.version b₂ → b₄ ≡ take 8 b₃ ++ (rows_bytes rows ++ drop end b₃)
    → b₅ ≡ put_at end 508 0 b₄ → after ≡ resigned b₅ → after ≡ block_of f number rows
unfolding block_of block_body
block_written f number n end rows block b₁ b₂ b₃ b₄ b₅ after en er room hb e₁ e₂ e₃ e₄ e₅ e₆ =
    let v = f.version in
    let r = rows_bytes rows in
    let h₁ = bytes_of 4 number in
    let h₂ = h₁ ++ bytes_of 2 n in
    let h₃ = h₂ ++ bytes_of 2 v in
    let o₁ = drop 4 block in
    let o₂ = drop 2 o₁ in
    let o₃ = drop 2 o₂ in
    let o₄ = drop (length r) o₃ in
    let m₁ = length-drop 4 block in
    let m₂ = length-drop 2 o₁ in
    let m₃ = length-drop 2 o₂ in
    let m₄ = length-drop (length r) o₃ in
    let w : ℕ = 500 - length r in
    let m₅ = length-drop w o₄ in
    let k₁ = length_bytes_of 4 number in
    let k₂ : length h₂ ≡ 6 = length-append h₁ (bytes_of 2 n) ∙ omega (arith, length_bytes_of 2 n) in
    let k₃ : length h₃ ≡ 8 = length-append h₂ (bytes_of 2 v) ∙ omega (arith, length_bytes_of 2 v) in
    let kp : length (h₃ ++ r) ≡ end = length-append h₃ r ∙ omega arith in
    let f₁ : b₁ ≡ h₁ ++ o₁ = e₁ ∙ put_at_front [] block 0 4 4 number refl refl (omega arith) in
    let f₂ : b₂ ≡ h₂ ++ o₂ = e₂ ∙ ap (put_at 4 6 n) f₁ ∙ put_at_front h₁ o₁ 4 6 2 n k₁ refl (omega arith) in
    let f₃ : b₃ ≡ h₃ ++ o₃ = e₃ ∙ ap (put_at 6 8 v) f₂ ∙ put_at_front h₂ o₂ 6 8 2 v k₂ refl (omega arith) in
    let t : take 8 b₃ ≡ h₃ = ap (take 8) f₃ ∙ take_at h₃ o₃ 8 k₃ in
    let s : end ≡ 8 + length r = omega arith in
    let d : drop end b₃ ≡ o₄ = ap (λ (x : ℕ). drop x b₃) s ∙ sym (drop-drop (length r) 8 b₃) ∙ ap (drop (length r)) (ap (drop 8) f₃ ∙ drop_at h₃ o₃ 8 k₃) in
    let f₄ : b₄ ≡ (h₃ ++ r) ++ o₄ = e₄ ∙ ap (λ (x : List ℕ). x ++ (r ++ drop end b₃)) t ∙ ap (λ (x : List ℕ). h₃ ++ (r ++ x)) d ∙ sym (append_assoc h₃ r o₄) in
    let f₅ : b₅ ≡ ((h₃ ++ r) ++ bytes_of w 0) ++ drop w o₄ = e₅ ∙ ap (put_at end 508 0) f₄ ∙ put_at_front (h₃ ++ r) o₄ end 508 w 0 kp (omega arith) (omega arith) in
    let z : List ℕ = replicate w 0 in
    let whole : (h₃ ++ r) ++ bytes_of w 0 ≡ h₁ ++ (bytes_of 2 (length rows) ++ (bytes_of 2 v ++ (r ++ z))) =
    rw (en, bytes_of_zero w)
    (append_assoc h₃ r z ∙ append_assoc h₂ (bytes_of 2 v) (r ++ z) ∙ append_assoc h₁ (bytes_of 2 n) (bytes_of 2 v ++ (r ++ z))) in
    e₆ ∙ ap resigned f₅ ∙ resigned_body ((h₃ ++ r) ++ bytes_of w 0) (drop w o₄) (omega arith) ∙ ap signed whole
