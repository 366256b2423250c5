-- Rows and their bytes, both ways, over the format. Assumes nothing.
use mathlib.Core.Bool.{false}
use mathlib.Core.Path.{◌≡◌, refl, sym, ap, ◌∙◌}
use mathlib.Core.List.{List, [], ◌∷◌, ◌++◌, append_assoc}
use Prim.Native.Nat.{ℕ, zero, suc, ◌+◌, ◌-◌, ◌*◌, ◌≤◌}
use native.Mathlib.Nat.{mul-suc, mul-zero}
use native.Mathlib.Omega.{arith}
use lib.Dec.{lit<}
use lib.ListN.{length, take, drop, length-append, length-take, length-drop, take-append-drop}
use lib.Seq.{length-take-le, take_at, drop_at, drop-drop, take-add}
use Rattle.refusal.proofs.Tests.{or_false}
use Rattle.little_endian.specs.LittleEndian.{Bytes, bytes_of, get_at}
use Rattle.little_endian.proofs.Laws.{append_bytes, take_bytes, drop_bytes, bytes_of_bytes, length_bytes_of, word_bytes_of, word_fits, get_at_middle}
use Rattle.snapshot_blocks.specs.Formats.{Format, row_length}
use Rattle.snapshot_blocks.specs.Blocks.{Entry, row_bytes, rows_bytes, entry_of, entries_in, any_refused}
use Rattle.snapshot_blocks.specs.Valid.{Valid, All}
use Rattle.snapshot_blocks.proofs.Fields.{get_at_part, field_back}

-- so many bytes are carried
abbrev pub Wide : Format → Entry → Type 0
Wide f e = length e.carried ≡ f.width

-- ---- row_bytes, rows_bytes
pub length_row_bytes : (e : Entry) → length (row_bytes e) ≡ 16 + length e.carried
unfolding row_bytes
length_row_bytes e = simp (length-append, length_bytes_of, length-take, length-drop) (omega arith)

pub length_rows_bytes : (f : Format) (es : List Entry) → All (Wide f) es → length (rows_bytes es) ≡ row_length f * length es
unfolding rows_bytes
length_rows_bytes f [] a = sym (mul-zero (row_length f))
length_rows_bytes f (e ∷ es) a =
    let w : length e.carried ≡ f.width = a.0 in
    length-append (row_bytes e) (rows_bytes es)
    ∙ omega (arith, length_row_bytes e, length_rows_bytes f es a.1, mul-suc (row_length f) (length es))

pub all_wide : (f : Format) (es : List Entry) → All (Valid f) es → All (Wide f) es
all_wide f [] a = tt
all_wide f (e ∷ es) a = (a.0.wide, all_wide f es a.1)

-- ---- bytes
pub row_bytes_bytes : (f : Format) (e : Entry) → Valid f e → Bytes (row_bytes e)
unfolding row_bytes
row_bytes_bytes f e v =
    append_bytes (bytes_of 8 e.id) (take 8 e.carried ++ (bytes_of 8 e.location ++ drop 8 e.carried)) (bytes_of_bytes 8 e.id)
    (append_bytes (take 8 e.carried) (bytes_of 8 e.location ++ drop 8 e.carried) (take_bytes 8 e.carried v.bytes)
    (append_bytes (bytes_of 8 e.location) (drop 8 e.carried) (bytes_of_bytes 8 e.location) (drop_bytes 8 e.carried v.bytes)))

pub rows_bytes_bytes : (f : Format) (es : List Entry) → All (Valid f) es → Bytes (rows_bytes es)
unfolding rows_bytes
rows_bytes_bytes f [] a = λ k. lit< tt
rows_bytes_bytes f (e ∷ es) a = append_bytes (row_bytes e) (rows_bytes es) (row_bytes_bytes f e a.0) (rows_bytes_bytes f es a.1)

-- ---- a row comes back from its bytes, whatever follows
same_entry : (e : Entry) (id location : ℕ) (carried : List ℕ) → id ≡ e.id → carried ≡ e.carried → location ≡ e.location
    → ◌≡◌ {A = Entry} (record { id = id; carried = carried; location = location }) e
same_entry e id location carried p q r = rw (p, q, r)

module _ (f : Format) (h : 8 ≤ f.width) where
  pub entry_of_row_bytes : (e : Entry) (q : List ℕ) → Valid f e → entry_of f (row_bytes e ++ q) ≡ e
  unfolding row_bytes entry_of
  entry_of_row_bytes e q v =
      let c = e.carried in
      let b₁ = bytes_of 8 e.id in
      let b₂ = take 8 c in
      let b₃ = bytes_of 8 e.location in
      let b₄ = drop 8 c in
      let wc : length c ≡ f.width = v.wide in
      let k₁ = length_bytes_of 8 e.id in
      let k₂ : length b₂ ≡ 8 = length-take-le 8 c (omega arith) in
      let k₃ = length_bytes_of 8 e.location in
      let k₄ : length b₄ ≡ f.width - 8 = length-drop 8 c ∙ omega arith in
      let split : (b₁ ++ (b₂ ++ (b₃ ++ b₄))) ++ q ≡ b₁ ++ (b₂ ++ (b₃ ++ (b₄ ++ q))) = simp append_assoc in
      let split₂ : (b₁ ++ (b₂ ++ (b₃ ++ b₄))) ++ q ≡ (b₁ ++ b₂) ++ (b₃ ++ (b₄ ++ q)) = split ∙ sym (append_assoc b₁ b₂ (b₃ ++ (b₄ ++ q))) in
      let split₃ : (b₁ ++ (b₂ ++ (b₃ ++ b₄))) ++ q ≡ ((b₁ ++ b₂) ++ b₃) ++ (b₄ ++ q) = split₂ ∙ sym (append_assoc (b₁ ++ b₂) b₃ (b₄ ++ q)) in
      let k₅ : length (b₁ ++ b₂) ≡ 16 = length-append b₁ b₂ ∙ omega arith in
      let k₆ : length ((b₁ ++ b₂) ++ b₃) ≡ 24 = length-append (b₁ ++ b₂) b₃ ∙ omega arith in
      let id : get_at 0 8 ((b₁ ++ (b₂ ++ (b₃ ++ b₄))) ++ q) ≡ e.id =
      ap (get_at 0 8) split ∙ get_at_middle [] b₁ (b₂ ++ (b₃ ++ (b₄ ++ q))) 0 8 refl (omega arith) (omega arith) ∙ word_bytes_of 8 e.id v.id_fits in
      let location : get_at 16 24 ((b₁ ++ (b₂ ++ (b₃ ++ b₄))) ++ q) ≡ e.location =
      ap (get_at 16 24) split₂ ∙ get_at_middle (b₁ ++ b₂) b₃ (b₄ ++ q) 16 24 k₅ (omega arith) (omega arith) ∙ word_bytes_of 8 e.location v.location_fits in
      let c₁ : take 8 (drop 8 ((b₁ ++ (b₂ ++ (b₃ ++ b₄))) ++ q)) ≡ b₂ =
      ap (λ (x : List ℕ). take 8 (drop 8 x)) split ∙ ap (take 8) (drop_at b₁ (b₂ ++ (b₃ ++ (b₄ ++ q))) 8 k₁) ∙ take_at b₂ (b₃ ++ (b₄ ++ q)) 8 k₂ in
      let c₂ : take (f.width - 8) (drop 24 ((b₁ ++ (b₂ ++ (b₃ ++ b₄))) ++ q)) ≡ b₄ =
      ap (λ (x : List ℕ). take (f.width - 8) (drop 24 x)) split₃ ∙ ap (take (f.width - 8)) (drop_at ((b₁ ++ b₂) ++ b₃) (b₄ ++ q) 24 k₆) ∙ take_at b₄ q (f.width - 8) k₄ in
      same_entry e _ _ _ id (rw (c₁, c₂) (take-append-drop 8 c)) location

  pub entries_in_rows_bytes : (es : List Entry) (q : List ℕ) → All (Valid f) es → entries_in f (length es) (rows_bytes es ++ q) ≡ es
  unfolding entries_in rows_bytes
  entries_in_rows_bytes [] q a = refl
  entries_in_rows_bytes (e ∷ es) q a =
      let split : (row_bytes e ++ rows_bytes es) ++ q ≡ row_bytes e ++ (rows_bytes es ++ q) = append_assoc (row_bytes e) (rows_bytes es) q in
      let w : length e.carried ≡ f.width = a.0.wide in
      let l : length (row_bytes e) ≡ row_length f = length_row_bytes e ∙ omega arith in
      let first : entry_of f ((row_bytes e ++ rows_bytes es) ++ q) ≡ e = ap (entry_of f) split ∙ entry_of_row_bytes e (rows_bytes es ++ q) a.0 in
      let rest : drop (row_length f) ((row_bytes e ++ rows_bytes es) ++ q) ≡ rows_bytes es ++ q = ap (drop (row_length f)) split ∙ drop_at (row_bytes e) (rows_bytes es ++ q) (row_length f) l in
      rw (first, rest, entries_in_rows_bytes es q a.1)

  -- ---- bytes come back from the row that they start with
  pub row_bytes_entry_of : (l : List ℕ) → Bytes l → row_length f ≤ length l → row_bytes (entry_of f l) ≡ take (row_length f) l
  unfolding row_bytes entry_of
  row_bytes_entry_of l b n =
      let t₁ = take 8 l in
      let t₂ = take 8 (drop 8 l) in
      let t₃ = take 8 (drop 16 l) in
      let t₄ = take (f.width - 8) (drop 24 l) in
      let k₂ : length t₂ ≡ 8 = length-take-le 8 (drop 8 l) (rw (length-drop 8 l) (omega arith)) in
      let i : bytes_of 8 (get_at 0 8 l) ≡ t₁ = field_back 0 8 8 l refl (omega arith) (omega arith) b in
      let o : bytes_of 8 (get_at 16 24 l) ≡ t₃ = field_back 16 24 8 l refl (omega arith) (omega arith) b in
      let w₁ : row_length f ≡ 8 + (8 + (8 + (f.width - 8))) = omega arith in
      let whole : take (row_length f) l ≡ t₁ ++ (t₂ ++ (t₃ ++ t₄)) =
      ap (λ (k : ℕ). take k l) w₁ ∙ take-add 8 (8 + (8 + (f.width - 8))) l
      ∙ ap (λ (x : List ℕ). t₁ ++ x) (take-add 8 (8 + (f.width - 8)) (drop 8 l)
      ∙ ap (λ (x : List ℕ). t₂ ++ x) (ap (take (8 + (f.width - 8))) (drop-drop 8 8 l) ∙ take-add 8 (f.width - 8) (drop 16 l)
      ∙ ap (λ (x : List ℕ). t₃ ++ x) (ap (take (f.width - 8)) (drop-drop 8 16 l)))) in
      rw (i, o, take_at t₂ t₄ 8 k₂, drop_at t₂ t₄ 8 k₂) (sym whole)

  pub valid_entry_of : (l : List ℕ) → Bytes l → row_length f ≤ length l → f.refuses (entry_of f l).carried ≡ false → Valid f (entry_of f l)
  unfolding entry_of
  valid_entry_of l b n c =
      let t₁ = take 8 l in
      let t₃ = take 8 (drop 16 l) in
      let k₁ : length t₁ ≤ 8 = rw (length-take 8 l) (omega arith) in
      let k₃ : length t₃ ≤ 8 = rw (length-take 8 (drop 16 l)) (omega arith) in
      let k₂ : length (take 8 (drop 8 l)) ≡ 8 = length-take-le 8 (drop 8 l) (rw (length-drop 8 l) (omega arith)) in
      let k₄ : length (take (f.width - 8) (drop 24 l)) ≡ f.width - 8 = length-take-le (f.width - 8) (drop 24 l) (rw (length-drop 24 l) (omega arith)) in
      record {
        id_fits = rw (get_at_part 0 8 8 l refl (omega arith) (omega arith)) (word_fits 8 t₁ (take_bytes 8 l b) k₁);
        location_fits = rw (get_at_part 16 24 8 l refl (omega arith) (omega arith)) (word_fits 8 t₃ (take_bytes 8 (drop 16 l) (drop_bytes 16 l b)) k₃);
        wide = length-append (take 8 (drop 8 l)) (take (f.width - 8) (drop 24 l)) ∙ omega arith;
        bytes = append_bytes (take 8 (drop 8 l)) (take (f.width - 8) (drop 24 l)) (take_bytes 8 (drop 8 l) (drop_bytes 8 l b)) (take_bytes (f.width - 8) (drop 24 l) (drop_bytes 24 l b));
        carries = c;
      }

  pub rows_bytes_entries_in : (n : ℕ) (l : List ℕ) → Bytes l → row_length f * n ≤ length l → rows_bytes (entries_in f n l) ≡ take (row_length f * n) l
  unfolding entries_in rows_bytes
  rows_bytes_entries_in zero l b h = rw (mul-zero (row_length f))
  rows_bytes_entries_in (suc n) l b h =
      let r : ℕ = row_length f in
      let m : r * suc n ≡ r + r * n = mul-suc r n ∙ omega arith in
      let k : r + r * n ≤ length l = rw m at h in
      let d : r * n ≤ length (drop r l) = rw (length-drop r l) (omega arith) in
      rw (row_bytes_entry_of l b (omega arith), rows_bytes_entries_in n (drop r l) (drop_bytes r l b) d, m) (sym (take-add r (r * n) l))

  pub valid_entries_in : (n : ℕ) (l : List ℕ) → Bytes l → row_length f * n ≤ length l → any_refused f (entries_in f n l) ≡ false → All (Valid f) (entries_in f n l)
  unfolding entries_in any_refused
  valid_entries_in zero l b h c = tt
  valid_entries_in (suc n) l b h c =
      let r : ℕ = row_length f in
      let m : r * suc n ≡ r + r * n = mul-suc r n ∙ omega arith in
      let k : r + r * n ≤ length l = rw m at h in
      let d : r * n ≤ length (drop r l) = rw (length-drop r l) (omega arith) in
      let o = or_false (f.refuses (entry_of f l).carried) (any_refused f (entries_in f n (drop r l))) c in
      (valid_entry_of l b (omega arith) o.0, valid_entries_in n (drop r l) (drop_bytes r l b) d o.1)

pub length_entries_in : (f : Format) (n : ℕ) (l : List ℕ) → length (entries_in f n l) ≡ n
unfolding entries_in
length_entries_in f zero l = refl
length_entries_in f (suc n) l = ap suc (length_entries_in f n (drop (row_length f) l))

-- ---- any_refused
pub any_refused_valid : (f : Format) (es : List Entry) → All (Valid f) es → any_refused f es ≡ false
unfolding any_refused
any_refused_valid f [] a = refl
any_refused_valid f (e ∷ es) a = rw a.0.carries (any_refused_valid f es a.1)
