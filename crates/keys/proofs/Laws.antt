-- Laws of a row with a key: what is kept is 80 bytes with zeros behind the key, and what is brought again is kept as it was. Assumes nothing.
use mathlib.Core.Path.{◌≡◌, refl, sym, ap, ◌∙◌}
use mathlib.Core.Bool.{Bool, true, false, ◌&&◌, true≢false}
use mathlib.Core.List.{List, [], ◌∷◌, ◌++◌}
use Prim.Native.Nat.{ℕ, zero, suc, ◌+◌, ◌-◌, ◌*◌, ◌≤◌, ◌<◌, min}
use native.Mathlib.Nat.{suc-mul}
use native.Mathlib.Omega.{arith}
use lib.Dec.{leb}
use lib.ListN.{length, get_or, take, drop, replicate, length-append, length-take, length-drop, length-replicate, length-map, take-append-drop}
use lib.ListN.{get_or-eq_default, get_or-map}
use lib.Seq.{length-take-le, take_all, take_at, drop_at, get_or_at, drop-drop, split_at}
use borrow.Author.Tests.{leb-true, le-leb, le-ltb}
use Rattle.list_parts.specs.Parts.{part}
use Rattle.little_endian.specs.LittleEndian.{bytes_of}
use Rattle.little_endian.proofs.Laws.{length_bytes_of, word_bytes_of, get_at_middle}
use Rattle.zeros.specs.Zeros.{all_zero}
use Rattle.zeros.proofs.Laws.{all_zero_replicate, replicate_all_zero}
use Rattle.carried.specs.Carried.{width}
use Rattle.carried.proofs.Laws.{rows_first}
use Rattle.keys.specs.Keys.{most_key, said_length, key_is_long, kept_length, normal, normal_of, normal_rows, is_store, stores_of, all_stored}
use Rattle.keys.specs.Keys.{key_length, key_of, is_normal, brought}

-- ---- a row by its parts: a collection p of eight bytes, and a key

-- as it is kept
abbrev kept : List ℕ → List ℕ → List ℕ
kept p key = p ++ (length key ∷ (key ++ replicate (71 - length key) 0))

-- as it is brought
abbrev bring : List ℕ → List ℕ → List ℕ
bring p key = p ++ (bytes_of 8 (length key) ++ (key ++ replicate (most_key - length key) 0))

module _ (p key : List ℕ) (hp : length p ≡ 8) (hk : length key ≤ most_key) where
  length_kept : length (kept p key) ≡ width
  length_kept =
      let z = length-replicate {A = ℕ} (71 - length key) 0 in
      let a = length-append key (replicate (71 - length key) 0) in
      length-append p (length key ∷ (key ++ replicate (71 - length key) 0)) ∙ omega (arith, z, a, hp)

  key_length_kept : key_length (kept p key) ≡ length key
  key_length_kept = get_or_at p (length key) (key ++ replicate (71 - length key) 0) 0 8 hp

  after_key : drop (9 + length key) (kept p key) ≡ replicate (71 - length key) 0
  after_key =
      let z = replicate {A = ℕ} (71 - length key) 0 in
      let e : 9 + length key ≡ 8 + suc (length key) = omega arith in
      ap (λ n. drop n (kept p key)) e
      ∙ sym (drop-drop (suc (length key)) 8 (kept p key))
      ∙ ap (drop (suc (length key))) (drop_at p (length key ∷ (key ++ z)) 8 hp)
      ∙ drop_at key z (length key) refl

  is_normal_kept : is_normal (kept p key) ≡ true
  unfolding is_normal
  is_normal_kept =
      let n = le-leb (length key) most_key hk in
      rw (key_length_kept, after_key, all_zero_replicate (71 - length key), n)

  length_bring : length (bring p key) ≡ width
  length_bring =
      let z = length-replicate {A = ℕ} (most_key - length key) 0 in
      let a = length-append key (replicate (most_key - length key) 0) in
      let b = length-append (bytes_of 8 (length key)) (key ++ replicate (most_key - length key) 0) in
      length-append p (bytes_of 8 (length key) ++ (key ++ replicate (most_key - length key) 0)) ∙ omega (arith, z, a, b, hp, length_bytes_of 8 (length key))

  said_length_bring : said_length (bring p key) ≡ length key
  said_length_bring =
      let n = length_bytes_of 8 (length key) in
      get_at_middle p (bytes_of 8 (length key)) (key ++ replicate (most_key - length key) 0) 8 16 hp (omega (arith, n)) (omega (arith, n))
      ∙ word_bytes_of 8 (length key) (omega arith)

  key_is_long_bring : key_is_long (bring p key) ≡ false
  unfolding key_is_long
  key_is_long_bring = rw said_length_bring (le-ltb most_key (length key) hk)

  normal_bring : normal (bring p key) ≡ kept p key
  unfolding normal
  normal_bring =
      let k : kept_length (bring p key) ≡ length key = ap (min most_key) said_length_bring ∙ omega arith in
      let rest = key ++ replicate (most_key - length key) 0 in
      let d : drop 16 (bring p key) ≡ rest =
      sym (drop-drop 8 8 (bring p key)) ∙ ap (drop 8) (drop_at p (bytes_of 8 (length key) ++ rest) 8 hp)
      ∙ drop_at (bytes_of 8 (length key)) rest 8 (length_bytes_of 8 (length key)) in
      rw (k, d, take_at p (bytes_of 8 (length key) ++ rest) 8 hp, take_at key (replicate (most_key - length key) 0) (length key) refl)

-- ---- normal

-- the bytes of the key that are kept
pub length_key : (row : List ℕ) → length row ≡ width → length (take (kept_length row) (drop 16 row)) ≡ kept_length row
length_key row l = length-take-le (kept_length row) (drop 16 row) (rw (length-drop 16 row, l) (omega arith))

normal_kept : (row : List ℕ) → length row ≡ width → normal row ≡ kept (take 8 row) (take (kept_length row) (drop 16 row))
unfolding normal
normal_kept row l = rw (length_key row l)

first_eight : (row : List ℕ) → 8 ≤ length row → length (take 8 row) ≡ 8
first_eight row h = length-take-le 8 row h

key_short : (row : List ℕ) → length (take (kept_length row) (drop 16 row)) ≤ most_key
key_short row = omega (arith, length-take (kept_length row) (drop 16 row))

pub length_normal : (row : List ℕ) → length row ≡ width → length (normal row) ≡ width
length_normal row l =
    ap length (normal_kept row l) ∙ length_kept (take 8 row) (take (kept_length row) (drop 16 row)) (first_eight row (omega arith)) (key_short row)

pub normal_is_normal : (row : List ℕ) → length row ≡ width → is_normal (normal row) ≡ true
normal_is_normal row l =
    ap is_normal (normal_kept row l) ∙ is_normal_kept (take 8 row) (take (kept_length row) (drop 16 row)) (first_eight row (omega arith)) (key_short row)

pub zeros_is_normal : is_normal (replicate width 0) ≡ true
unfolding is_normal all_zero
zeros_is_normal = refl

-- ---- normal_rows

pub length_normal_of : (s : Bool) (row : List ℕ) → length row ≡ width → length (normal_of s row) ≡ width
length_normal_of true row l = length_normal row l
length_normal_of false row l = length-replicate {A = ℕ} width 0

normal_of_is_normal : (s : Bool) (row : List ℕ) → length row ≡ width → is_normal (normal_of s row) ≡ true
normal_of_is_normal true row l = normal_is_normal row l
normal_of_is_normal false row l = zeros_is_normal

pub length_normal_rows : (ss : List Bool) (bytes : List ℕ) → length bytes ≡ length ss * width → length (normal_rows ss bytes) ≡ length ss * width
unfolding normal_rows
length_normal_rows [] bytes l = refl
length_normal_rows (s ∷ ss) bytes l =
    let f = rows_first width (length ss) bytes l in
    let n = length_normal_of s (take width bytes) f.0 in
    let m = length_normal_rows ss (drop width bytes) f.1 in
    length-append (normal_of s (take width bytes)) (normal_rows ss (drop width bytes)) ∙ omega (arith, n, m, suc-mul (length ss) width)

pub normal_rows_part : (ss : List Bool) (bytes : List ℕ) (i : ℕ) → length bytes ≡ length ss * width → i < length ss
    → is_normal (part width (normal_rows ss bytes) i) ≡ true
unfolding normal_rows
normal_rows_part [] bytes i l h = absurd (omega arith)
normal_rows_part (s ∷ ss) bytes zero l h =
    let f = rows_first width (length ss) bytes l in
    ap is_normal (take_at (normal_of s (take width bytes)) (normal_rows ss (drop width bytes)) width (length_normal_of s (take width bytes) f.0))
    ∙ normal_of_is_normal s (take width bytes) f.0
normal_rows_part (s ∷ ss) bytes (suc i) l h =
    let f = rows_first width (length ss) bytes l in
    let row = normal_of s (take width bytes) in
    let rest = normal_rows ss (drop width bytes) in
    let e : suc i * width ≡ width + i * width = omega arith in
    let d : drop (suc i * width) (row ++ rest) ≡ drop (i * width) rest =
    ap (λ n. drop n (row ++ rest)) e ∙ sym (drop-drop (i * width) width (row ++ rest))
    ∙ ap (drop (i * width)) (drop_at row rest width (length_normal_of s (take width bytes) f.0)) in
    ap (λ x. is_normal (take width x)) d ∙ normal_rows_part ss (drop width bytes) i f.1 (omega arith)

-- ---- brought

-- a row that is kept, by its parts
is_normal_both : (c : List ℕ) → is_normal c ≡ true → (key_length c ≤ most_key) × (all_zero (drop (9 + key_length c) c) ≡ true)
unfolding is_normal
is_normal_both c h = go (leb (key_length c) most_key) refl h
  where
    go : (b : Bool) → leb (key_length c) most_key ≡ b → (b && all_zero (drop (9 + key_length c) c)) ≡ true
        → (key_length c ≤ most_key) × (all_zero (drop (9 + key_length c) c) ≡ true)
    go true p q = (leb-true _ _ p, q)
    go false p q = absurd (true≢false (sym q))

pub is_normal_short : (c : List ℕ) → is_normal c ≡ true → key_length c ≤ most_key
is_normal_short c h = (is_normal_both c h).0

key_of_short : (c : List ℕ) → key_length c ≤ most_key → length (key_of c) ≤ most_key
key_of_short c h = omega (arith, h, length-take (key_length c) (drop 9 c))

brought_bring : (c : List ℕ) → brought c ≡ bring (take 8 c) (key_of c)
unfolding brought
brought_bring c = refl

pub length_brought : (c : List ℕ) → 8 ≤ length c → key_length c ≤ most_key → length (brought c) ≡ width
length_brought c h k = ap length (brought_bring c) ∙ length_bring (take 8 c) (key_of c) (first_eight c h) (key_of_short c k)

pub key_is_long_brought : (c : List ℕ) → 8 ≤ length c → key_length c ≤ most_key → key_is_long (brought c) ≡ false
key_is_long_brought c h k = ap key_is_long (brought_bring c) ∙ key_is_long_bring (take 8 c) (key_of c) (first_eight c h) (key_of_short c k)

normal_again : (c : List ℕ) → 8 ≤ length c → key_length c ≤ most_key → normal (brought c) ≡ kept (take 8 c) (key_of c)
normal_again c h k = ap normal (brought_bring c) ∙ normal_bring (take 8 c) (key_of c) (first_eight c h) (key_of_short c k)

pub normal_brought : (c : List ℕ) → length c ≡ width → is_normal c ≡ true → normal (brought c) ≡ c
normal_brought c l h =
    let b = is_normal_both c h in
    let k = b.0 in
    let n : length (key_of c) ≡ key_length c = length-take-le (key_length c) (drop 9 c) (rw (length-drop 9 c, l) (omega arith)) in
    let m : length (drop (9 + key_length c) c) ≡ 71 - key_length c = length-drop (9 + key_length c) c ∙ omega arith in
    let z : drop (key_length c) (drop 9 c) ≡ replicate (71 - key_length c) 0 =
    drop-drop (key_length c) 9 c ∙ replicate_all_zero (drop (9 + key_length c) c) b.1 ∙ ap (λ x. replicate x 0) m in
    let e : key_of c ++ replicate (71 - key_length c) 0 ≡ drop 9 c =
    ap (λ x. key_of c ++ x) (sym z) ∙ take-append-drop (key_length c) (drop 9 c) in
    normal_again c (omega arith) k
    ∙ ap (λ x. take 8 c ++ (x ∷ (key_of c ++ replicate (71 - x) 0))) n
    ∙ ap (λ x. take 8 c ++ (key_length c ∷ x)) e
    ∙ sym (split_at c 8 0 (omega arith))

-- a row of version 1 has no key
pub normal_brought_1 : (c : List ℕ) → length c ≡ 8 → normal (brought c) ≡ c ++ replicate 72 0
normal_brought_1 c l =
    let k : key_length c ≡ 0 = get_or-eq_default c 0 {n = 8} (omega arith) in
    let e : key_of c ≡ [] = ap (λ n. take n (drop 9 c)) k in
    normal_again c (omega arith) (omega arith)
    ∙ ap (λ x. take 8 c ++ (length x ∷ (x ++ replicate (71 - length x) 0))) e
    ∙ ap (λ x. x ++ replicate 72 0) (take_all 8 c (omega arith))

-- ---- stores_of

pub length_stores_of : (bs : List ℕ) → length (stores_of bs) ≡ length bs
length_stores_of bs = length-map bs is_store

pub get_d_stores_of : (bs : List ℕ) (i : ℕ) → is_store (get_or bs i 0) ≡ get_or (stores_of bs) i false
get_d_stores_of bs i = sym (get_or-map is_store bs i 0)

-- ---- all_stored

pub all_stored_replicate : (is : List ℕ) → all_stored is ≡ replicate (length is) true
all_stored_replicate [] = refl
all_stored_replicate (i ∷ is) = ap (λ (x : List Bool). true ∷ x) (all_stored_replicate is)
