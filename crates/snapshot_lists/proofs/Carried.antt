-- What a row carries, from the bytes that it starts: its length, its key, and the form in which a rebuild takes it. A row of a block that is right is not
-- refused, so that its key stands whole within it. Assumes nothing.
use Rattle.std.specs.Prelude.{None}
use mathlib.Core.Bool.{false, cond}
use mathlib.Core.Path.{◌≡◌, refl, sym, ap, ◌∙◌}
use mathlib.Core.List.{List, [], ◌∷◌, ◌++◌, append_assoc, append-nil}
use Prim.Native.Nat.{ℕ, zero, suc, ◌+◌, ◌-◌, ◌*◌, ◌≤◌, ◌<◌}
use native.Mathlib.Nat.{mul-suc, mul-zero}
use native.Mathlib.Omega.{arith}
use lib.Dec.{ltb}
use lib.ListN.{length, get_or, take, drop, replicate, length-append, length-drop, length-replicate, replicate-append-replicate}
use lib.Seq.{length-take-le, take_at, drop_at, take-take, take_all, get_or-take, get_or-drop, get_or-append-add, drop-append-add, drop-cons, drop-drop}
use borrow.Author.Tests.{ltb-true, ltb-false}
use borrow.Rule.Slice.PartMut.{put_mid}
use Rattle.refusal.proofs.Tests.{by_test, or_false}
use Rattle.list_parts.proofs.Ranges.{put_range}
use Rattle.little_endian.specs.LittleEndian.{word, bytes_of, get_at, put_at}
use Rattle.little_endian.proofs.Laws.{length_bytes_of}
use Rattle.keys.specs.Keys.{key_length, key_of, brought}
use Rattle.snapshot_blocks.specs.Formats.{Format, row_length}
use Rattle.snapshot_blocks.specs.Blocks.{count_in, entry_of, entries_in, rows_in_block, any_refused, key_length_in}
use Rattle.snapshot_blocks.specs.Valid.{Sound}
use Rattle.snapshot_blocks.proofs.Fields.{get_at_part, put_at_front}
use Rattle.snapshot.specs.Snapshot.{block_at, wrong_at}
use Rattle.snapshot.proofs.Turns.{wrong_at_good}

-- ---- a part of a part
pub part_within : (a n m : ℕ) (l : List ℕ) → a + n ≤ m → take n (drop a (take m l)) ≡ take n (drop a l)
part_within zero n m l h = take-take n m l (omega arith)
part_within (suc a) n zero l h = absurd (omega arith)
part_within (suc a) n (suc m) [] h = refl
part_within (suc a) n (suc m) (x ∷ l) h = part_within a n m l (omega arith)

-- ---- a row of a block that is right is not refused
refused_entries_in : (f : Format) (n k : ℕ) (l : List ℕ) → k < n → any_refused f (entries_in f n l) ≡ false → f.refuses (entry_of f (drop (row_length f * k) l)).carried ≡ false
unfolding entries_in any_refused
refused_entries_in f zero k l h r = absurd (omega arith)
refused_entries_in f (suc n) zero l h r = rw (mul-zero (row_length f)) (or_false (f.refuses (entry_of f l).carried) (any_refused f (entries_in f n (drop (row_length f) l))) r).0
refused_entries_in f (suc n) (suc k) l h r =
    let m : row_length f + row_length f * k ≡ row_length f * suc k = sym (mul-suc (row_length f) k ∙ omega arith) in
    let d : drop (row_length f * k) (drop (row_length f) l) ≡ drop (row_length f * suc k) l = drop-drop (row_length f * k) (row_length f) l ∙ ap (λ (x : ℕ). drop x l) m in
    rw d at (refused_entries_in f n k (drop (row_length f) l) (omega arith) (or_false (f.refuses (entry_of f l).carried) (any_refused f (entries_in f n (drop (row_length f) l))) r).1)

pub refused_not : (f : Format) (file : List ℕ) (j k : ℕ) → wrong_at f j file ≡ None → k < count_in (block_at j file)
    → f.refuses (entry_of f (drop (8 + row_length f * k) (block_at j file))).carried ≡ false
unfolding rows_in_block
refused_not f file j k g h =
    let block = block_at j file in
    rw (drop-drop (row_length f * k) 8 block) at (refused_entries_in f (count_in block) k (drop 8 block) h (wrong_at_good f j file g).right.carries)

-- ---- what a row carries, that these bytes start with
module _ (f : Format) (s : Sound f) (l : List ℕ) (n : row_length f ≤ length l) where
  abbrev more : List ℕ
  more = take (f.width - 8) (drop 24 l)

  pub eight : length (take 8 (drop 8 l)) ≡ 8
  eight = length-take-le 8 (drop 8 l) (rw (length-drop 8 l) (omega (arith, s.wide)))

  carried_parts : (entry_of f l).carried ≡ take 8 (drop 8 l) ++ more
  unfolding entry_of
  carried_parts = refl

  pub length_carried : length (entry_of f l).carried ≡ f.width
  length_carried =
      let m : length more ≡ f.width - 8 = length-take-le (f.width - 8) (drop 24 l) (rw (length-drop 24 l) (omega (arith, s.wide))) in
      ap length carried_parts ∙ length-append (take 8 (drop 8 l)) more ∙ omega (arith, eight, m, s.wide)

  pub first_carried : take 8 (entry_of f l).carried ≡ take 8 (drop 8 l)
  first_carried = ap (take 8) carried_parts ∙ take_at (take 8 (drop 8 l)) more 8 eight

  key_length_more : key_length (entry_of f l).carried ≡ get_or more 0 0
  key_length_more =
      let e : length (take 8 (drop 8 l)) + 0 ≡ 8 = omega (arith, eight) in
      ap key_length carried_parts ∙ (rw e at (get_or-append-add (take 8 (drop 8 l)) more 0 0))

  after_length : drop 9 (entry_of f l).carried ≡ drop 1 more
  after_length =
      let e : length (take 8 (drop 8 l)) + 1 ≡ 9 = omega (arith, eight) in
      ap (drop 9) carried_parts ∙ (rw e at (drop-append-add (take 8 (drop 8 l)) more 1))

  -- the length of the key, where the row has one
  length_wide : 8 < f.width → get_or l 24 0 ≡ get_or more 0 0
  length_wide h = sym (get_or-take (f.width - 8) (drop 24 l) 0 0 (omega arith) ∙ get_or-drop 24 l 0 0)

  byte_at : 24 < length l → word (take 1 (drop 24 l)) ≡ get_or l 24 0
  unfolding word
  byte_at h = rw (drop-cons l 24 0 h) (omega arith)

  pub key_length_in_carried : key_length_in f l ≡ key_length (entry_of f l).carried
  key_length_in_carried =
      by_test (ltb 8 f.width)
      (λ t. let h : 8 < f.width = ltb-true 8 f.width t in
      rw t (get_at_part 24 25 1 l refl (omega arith) (omega arith) ∙ byte_at (omega arith) ∙ length_wide h ∙ sym key_length_more))
      (λ t. let z : f.width - 8 ≡ 0 = omega (arith, ltb-false 8 f.width t) in
      rw t (sym (key_length_more ∙ ap (λ (x : ℕ). get_or (take x (drop 24 l)) 0 0) z)))

  -- the key stands behind its length, where it is not too long
  module _ (r : f.refuses (entry_of f l).carried ≡ false) where
    pub key_length_within : key_length (entry_of f l).carried ≤ f.width - 9
    key_length_within = s.keyed (entry_of f l).carried length_carried r

    key_more : (len : ℕ) → len ≤ f.width - 9 → take len (drop 1 more) ≡ take len (drop 25 l)
    key_more len h =
        by_test (ltb 8 f.width)
        (λ t. let w : 8 < f.width = ltb-true 8 f.width t in part_within 1 len (f.width - 8) (drop 24 l) (omega arith) ∙ ap (take len) (drop-drop 1 24 l))
        (λ t. let w : f.width ≤ 8 = ltb-false 8 f.width t in let z : len ≡ 0 = omega arith in rw z)

    pub key_of_carried : key_of (entry_of f l).carried ≡ take (key_length_in f l) (drop 25 l)
    key_of_carried =
        let len = key_length (entry_of f l).carried in
        ap (take len) after_length ∙ key_more len key_length_within ∙ ap (λ (x : ℕ). take x (drop 25 l)) (sym key_length_in_carried)

    pub brought_carried : 25 + key_length_in f l ≤ length l
        → brought (entry_of f l).carried ≡ take 8 (drop 8 l) ++ (bytes_of 8 (key_length_in f l) ++ (take (key_length_in f l) (drop 25 l) ++ replicate (64 - key_length_in f l) 0))
    unfolding brought
    brought_carried h =
        let k : length (take (key_length_in f l) (drop 25 l)) ≡ key_length_in f l = length-take-le (key_length_in f l) (drop 25 l) (rw (length-drop 25 l) (omega arith)) in
        rw (first_carried, key_of_carried, k)

-- a row put into a list, by its bytes
pub brought_row : (f : Format) → Sound f → (l : List ℕ) (wide long : ℕ) (held : List ℕ) → f.width ≡ wide → f.refuses (entry_of f l).carried ≡ false → 16 + wide ≤ length l
    → long ≡ cond (ltb 8 wide) (get_at 24 25 l) 0 → 25 + long ≤ length l
    → held ≡ take 8 (drop 8 l) ++ (bytes_of 8 long ++ (take long (drop 25 l) ++ replicate (64 - long) 0)) → held ≡ brought (entry_of f l).carried
brought_row f s l wide long held w r n e h q =
    let k : long ≡ key_length_in f l = e ∙ ap (λ (x : ℕ). cond (ltb 8 x) (get_at 24 25 l) 0) (sym w) in
    let m : 25 + key_length_in f l ≤ length l = rw k at h in
    q ∙ rw k (sym (brought_carried f s l (omega arith) r m))

pub id_row : (f : Format) (l : List ℕ) → get_at 0 8 l ≡ (entry_of f l).id
unfolding entry_of
id_row f l = refl

pub location_row : (f : Format) (l : List ℕ) → get_at 16 24 l ≡ (entry_of f l).location
unfolding entry_of
location_row f l = refl

-- ---- the same, written over zeros: eight bytes, the length, the key
drop_zeros : (n m k : ℕ) → n + m ≡ k → drop n (replicate k 0) ≡ replicate {A = ℕ} m 0
drop_zeros n m k e =
    ap (λ (x : ℕ). drop n (replicate x 0)) (sym e) ∙ ap (drop n) (sym (replicate-append-replicate n m 0)) ∙ drop_at (replicate n 0) (replicate m 0) n (length-replicate {A = ℕ} n 0)

module _ (row to to₁ to₂ part : List ℕ) (len : ℕ) (h : len ≤ 64) (n : 25 + len ≤ length row) (z : to ≡ replicate 80 0)
    (e₁ : to₁ ≡ take (length (take (16 - 8) (drop 8 row))) (take (16 - 8) (drop 8 row)) ++ drop (length (take (16 - 8) (drop 8 row))) to)
    (e₂ : to₂ ≡ put_at 8 16 len to₁) where
  abbrev first : List ℕ
  first = take 8 (drop 8 row)

  abbrev zeros : ℕ → List ℕ
  zeros k = replicate k 0

  first_eight : length first ≡ 8
  first_eight = length-take-le 8 (drop 8 row) (rw (length-drop 8 row) (omega arith))

  pub written_first : to₁ ≡ first ++ zeros 72
  written_first =
      e₁ ∙ ap (λ (x : ℕ). take x first ++ drop x to) first_eight
      ∙ ap (λ (x : List ℕ). x ++ drop 8 to) (take_all 8 first (omega (arith, first_eight)))
      ∙ ap (λ (x : List ℕ). first ++ x) (ap (drop 8) z ∙ drop_zeros 8 72 80 refl)

  pub written_length : to₂ ≡ (first ++ bytes_of 8 len) ++ zeros 64
  written_length =
      let l : length (zeros 72) ≡ 72 = length-replicate {A = ℕ} 72 0 in
      e₂ ∙ ap (put_at 8 16 len) written_first ∙ put_at_front first (zeros 72) 8 16 8 len first_eight refl (omega arith)
      ∙ ap (λ (x : List ℕ). (first ++ bytes_of 8 len) ++ x) (drop_zeros 8 64 72 refl)

  head_length : length (first ++ bytes_of 8 len) ≡ 16
  head_length = length-append first (bytes_of 8 len) ∙ omega (arith, first_eight, length_bytes_of 8 len)

  pub length_written : length to₂ ≡ 80
  length_written =
      ap length written_length ∙ length-append (first ++ bytes_of 8 len) (zeros 64) ∙ omega (arith, head_length, length-replicate {A = ℕ} 64 0)

  pub written_key : (key : List ℕ) → key ≡ take (25 + len - 25) (drop 25 row) → part ≡ take (length key) key ++ drop (length key) (take (80 - 16) (drop 16 to₂))
      → put_mid 16 (80 - 16) to₂ part ≡ first ++ (bytes_of 8 len ++ (take len (drop 25 row) ++ zeros (64 - len)))
  written_key key k p =
      let w : 25 + len - 25 ≡ len = omega arith in
      let same : key ≡ take len (drop 25 row) = k ∙ ap (λ (x : ℕ). take x (drop 25 row)) w in
      let l : length key ≡ len = ap length same ∙ length-take-le len (drop 25 row) (rw (length-drop 25 row) (omega arith)) in
      let l₆ = length-replicate {A = ℕ} 64 0 in
      let d : drop 16 to₂ ≡ zeros 64 = ap (drop 16) written_length ∙ drop_at (first ++ bytes_of 8 len) (zeros 64) 16 head_length in
      let e : drop 80 to₂ ≡ [] = sym (drop-drop 64 16 to₂) ∙ ap (drop 64) d ∙ drop_zeros 64 0 64 refl in
      let t : take 16 to₂ ≡ first ++ bytes_of 8 len = ap (take 16) written_length ∙ take_at (first ++ bytes_of 8 len) (zeros 64) 16 head_length in
      let q : part ≡ take len (drop 25 row) ++ zeros (64 - len) =
      p ∙ ap (λ (x : List ℕ). x ++ drop (length key) (take 64 (drop 16 to₂))) (take_all (length key) key (omega arith) ∙ same)
      ∙ ap (λ (x : List ℕ). take len (drop 25 row) ++ drop (length key) (take 64 x)) d
      ∙ ap (λ (x : List ℕ). take len (drop 25 row) ++ drop (length key) x) (take_all 64 (zeros 64) (omega arith))
      ∙ ap (λ (x : ℕ). take len (drop 25 row) ++ drop x (zeros 64)) l
      ∙ ap (λ (x : List ℕ). take len (drop 25 row) ++ x) (drop_zeros len (64 - len) 64 (omega arith)) in
      put_range to₂ 16 80 (omega arith) part ∙ rw (t, e, append-nil part, q) (append_assoc first (bytes_of 8 len) (take len (drop 25 row) ++ zeros (64 - len)))
