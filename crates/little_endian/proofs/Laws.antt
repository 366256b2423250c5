-- Laws of `word` and `bytes_of`: each width at once. Assumes nothing.
use mathlib.Core.Path.{◌≡◌, refl, sym, ap, ◌∙◌}
use mathlib.Core.List.{List, [], ◌∷◌, ◌++◌, append-nil, append_assoc}
use Prim.Native.Nat.{ℕ, zero, suc, ◌+◌, ◌-◌, ◌*◌, ◌/◌, ◌%◌, ◌^◌, ◌≤◌, ◌<◌}
use native.Mathlib.Numerals.{add-one}
use native.Mathlib.Nat.{zero-mul, mul_assoc, pow-suc, pow-le-pow_right, lt_of_lt_of_le}
use native.Mathlib.Omega.{arith}
use lib.ListN.{length, get_or, take, drop, set, replicate, length-take, length-append}
use lib.Seq.{drop-cons, take-suc-set, append_snoc, take_all, get_or-drop, take_at, drop_at, drop-drop, take-append_seam, drop-append_seam}
use lib.Dec.{lit<}
use mathlib.Core.Bool.{true}
use borrow.Author.Tests.{le-leb, lt-leb}
use mathlib.Core.Bool.{cond, and-false}
use mathlib.Core.Logic.{◌⊎◌, inl, inr}
use lib.Dec.{leb}
use Rattle.std.specs.Int.{sum_through, byte_worth}
use Rattle.std.specs.List.{fold}
use Rattle.std.specs.Prelude.{reverse}
use lib.Bits.{bit_or}
use Rattle.std.proofs.lemmas.List.{reverse-append}
use Rattle.std.proofs.lemmas.List.Sums.{fold-append}
use Rattle.std.proofs.lemmas.Nat.{or_shifted}
use Rattle.little_endian.specs.LittleEndian.{Bytes, word, bytes_of, is_part, get_at, put_at}

pub tail_bytes : (b : ℕ) (bs : List ℕ) → Bytes (b ∷ bs) → Bytes bs
tail_bytes b bs h k = h (suc k)

pub take_bytes : (n : ℕ) (l : List ℕ) → Bytes l → Bytes (take n l)
take_bytes zero l h k = lit< tt
take_bytes (suc n) [] h k = lit< tt
take_bytes (suc n) (b ∷ bs) h zero = h 0
take_bytes (suc n) (b ∷ bs) h (suc k) = take_bytes n bs (tail_bytes b bs h) k

pub drop_bytes : (n : ℕ) (l : List ℕ) → Bytes l → Bytes (drop n l)
drop_bytes n l h k = rw (get_or-drop n l k 0) (h (n + k))

pub append_bytes : (xs ys : List ℕ) → Bytes xs → Bytes ys → Bytes (xs ++ ys)
append_bytes [] ys hx hy k = hy k
append_bytes (x ∷ xs) ys hx hy zero = hx 0
append_bytes (x ∷ xs) ys hx hy (suc k) = append_bytes xs ys (tail_bytes x xs hx) hy k

pub zero_bytes : (n : ℕ) → Bytes (replicate n 0)
zero_bytes zero k = lit< tt
zero_bytes (suc n) zero = lit< tt
zero_bytes (suc n) (suc k) = zero_bytes n k

-- ---- word
pub word_cons : (l : List ℕ) (i : ℕ) → i < length l → word (drop i l) ≡ word (drop (i + 1) l) * 256 + get_or l i 0
unfolding word
word_cons l i h = rw (drop-cons l i 0, add-one)

pub word_at : (l : List ℕ) (i j : ℕ) → i ≡ j → word (drop i l) ≡ word (drop j l)
word_at l i j e = ap (λ (k : ℕ). word (drop k l)) e

pub word_two : (l : List ℕ) (i : ℕ) → i + 2 ≤ length l → word (drop i l) ≡ word (drop (i + 2) l) * 2 ^ 16 + (get_or l i 0 + get_or l (i + 1) 0 * 256)
word_two l i h = omega (arith, word_cons l i (omega arith), word_cons l (i + 1) (omega arith), word_at l ((i + 1) + 1) (i + 2) (omega arith))

-- the first k bytes are the lower part
pub word_split : (k : ℕ) (l : List ℕ) → word l ≡ word (drop k l) * 256 ^ k + word (take k l)
unfolding word
word_split zero l = omega arith
word_split (suc k) [] = omega arith
word_split (suc k) (b ∷ bs) =
    let e : 256 ^ suc k ≡ 256 ^ k * 256 = pow-suc 256 k in
    rw (e, ← mul_assoc (word (drop k bs)) (256 ^ k) 256) (omega (arith, word_split k bs))

pub word_lt : (l : List ℕ) → Bytes l → word l < 256 ^ length l
unfolding word
word_lt [] h = lit< tt
word_lt (b ∷ bs) h =
    let r = word_lt bs (tail_bytes b bs h) in
    let e : 256 ^ suc (length bs) ≡ 256 ^ length bs * 256 = pow-suc 256 (length bs) in
    rw e (omega (arith, h 0))

pub word_fits : (k : ℕ) (l : List ℕ) → Bytes l → length l ≤ k → word l < 256 ^ k
word_fits k l h le = lt_of_lt_of_le (word_lt l h) (pow-le-pow_right (lit< tt) le)

-- ---- bytes_of
pub length_bytes_of : (width n : ℕ) → length (bytes_of width n) ≡ width
unfolding bytes_of
length_bytes_of zero n = refl
length_bytes_of (suc width) n = ap suc (length_bytes_of width (n / 2 ^ 8))

pub bytes_of_bytes : (width n : ℕ) → Bytes (bytes_of width n)
unfolding bytes_of
bytes_of_bytes zero n k = lit< tt
bytes_of_bytes (suc width) n zero = omega arith
bytes_of_bytes (suc width) n (suc k) = bytes_of_bytes width (n / 2 ^ 8) k

-- a number that fits comes back
pub word_bytes_of : (width n : ℕ) → n < 256 ^ width → word (bytes_of width n) ≡ n
unfolding word bytes_of
word_bytes_of zero n h = omega arith
word_bytes_of (suc width) n h =
    let e : 256 ^ suc width ≡ 256 ^ width * 256 = pow-suc 256 width in
    let l : n < 256 ^ width * 256 = rw e at h in
    let d : n / 2 ^ 8 < 256 ^ width = omega arith in
    rw (word_bytes_of width (n / 2 ^ 8) d) (omega arith)

-- bytes come back
pub bytes_of_word : (l : List ℕ) → Bytes l → bytes_of (length l) (word l) ≡ l
unfolding word bytes_of
bytes_of_word [] h = refl
bytes_of_word (b ∷ bs) h =
    let lt = h 0 in
    let m : (word bs * 2 ^ 8 + b) % 2 ^ 8 ≡ b = omega arith in
    let d : (word bs * 2 ^ 8 + b) / 2 ^ 8 ≡ word bs = omega arith in
    rw (m, d, bytes_of_word bs (tail_bytes b bs h))

-- one more byte is written
pub bytes_of_turn : (l : List ℕ) (i rest : ℕ) → i < length l
    → take (i + 1) (set l i (rest % 256)) ++ bytes_of (length l - (i + 1)) (rest / 256) ≡ take i l ++ bytes_of (length l - i) rest
unfolding bytes_of
bytes_of_turn l i rest h =
    let e : length l - i ≡ suc (length l - (i + 1)) = omega arith in
    rw (e, add-one, take-suc-set l i (rest % 256) h) (append_snoc (take i l) (rest % 256) (bytes_of (length l - suc i) (rest / 256)))

-- the last byte is written
pub bytes_of_done : (l : List ℕ) (i rest : ℕ) → length l ≤ i → take i l ++ bytes_of (length l - i) rest ≡ l
unfolding bytes_of
bytes_of_done l i rest h =
    let e : length l - i ≡ zero = omega arith in
    rw (e, take_all i l h) (append-nil l)

-- ---- as std reads numbers
word_more : (k : ℕ) (l : List ℕ) → word (take (suc k) l) ≡ word (take k l) + get_or l k 0 * 256 ^ k
unfolding word
word_more zero [] = omega arith
word_more zero (b ∷ bs) = omega arith
word_more (suc k) [] = rw (zero-mul (256 ^ suc k))
word_more (suc k) (b ∷ bs) =
    rw (pow-suc 256 k, ← mul_assoc (get_or bs k 0) (256 ^ k) 256) (omega (arith, word_more k bs))

pub word_worth : (k : ℕ) (l : List ℕ) → sum_through (λ i. byte_worth i (get_or l i 0)) k ≡ word (take (suc k) l)
unfolding word
word_worth zero l = sym (omega (arith, word_more 0 l))
word_worth (suc k) l = ap (λ n. n + get_or l (suc k) 0 * 256 ^ suc k) (word_worth k l) ∙ sym (word_more (suc k) l)

-- n bytes and no more
pub word_whole : (k : ℕ) (l : List ℕ) (r : ℕ) → length l ≡ suc k → suc k ≤ 8 → r ≡ sum_through (λ i. byte_worth i (get_or l i 0)) k → r ≡ word (take 8 l)
word_whole k l r n h e = e ∙ word_worth k l ∙ ap word (take_all (suc k) l (omega arith) ∙ sym (take_all 8 l (omega arith)))

-- the first eight
pub word_first : (l first : List ℕ) (r : ℕ) → first ≡ take 8 l → r ≡ sum_through (λ i. byte_worth i (get_or first i 0)) 7 → r ≡ word (take 8 l)
word_first l first r f e = e ∙ word_worth 7 first ∙ ap word (take_all 8 first (rw (f, length-take 8 l) (omega arith)) ∙ f)

-- one byte after the other, from the highest down
abbrev pub gather_byte : ℕ → ℕ → ℕ
gather_byte number byte = bit_or (number * 2 ^ 8 % 2 ^ 64) byte

gathered_byte : (number byte : ℕ) → number < 256 ^ 7 → byte < 2 ^ 8 → gather_byte number byte ≡ number * 2 ^ 8 + byte
gathered_byte number byte h b =
    let e : number * 2 ^ 8 % 2 ^ 64 ≡ number * 2 ^ 8 = omega arith in
    rw e (or_shifted number 8 byte b)

gathered : (l : List ℕ) → Bytes l → length l ≤ 7 → fold gather_byte 0 (reverse l) ≡ word l
unfolding word
gathered [] h n = refl
gathered (b ∷ bs) h n =
    let t = tail_bytes b bs h in
    ap (fold gather_byte 0) (reverse-append (b ∷ []) bs)
    ∙ fold-append gather_byte 0 (reverse bs) (b ∷ [])
    ∙ ap (λ (x : ℕ). gather_byte x b) (gathered bs t (omega arith))
    ∙ gathered_byte (word bs) b (word_fits 7 bs t (omega arith)) (h 0)

pub word_gathered : (l : List ℕ) (r : ℕ) → Bytes l → length l < 8 → r ≡ fold gather_byte 0 (reverse l) → r ≡ word (take 8 l)
word_gathered l r h n e = e ∙ gathered l h (omega arith) ∙ ap word (sym (take_all 8 l (omega arith)))

-- ---- a part in the middle: p, then m, then q
module _ (p m q : List ℕ) (start end : ℕ) (hp : length p ≡ start) (hm : start + length m ≡ end) where
  middle_is : is_part start end (p ++ (m ++ q)) ≡ true
  middle_is =
      let l : end ≤ length (p ++ (m ++ q)) = rw (length-append p (m ++ q), length-append m q) (omega arith) in
      simp (le-leb start end (omega arith), le-leb end (length (p ++ (m ++ q))) l)

  middle_end : drop end (p ++ (m ++ q)) ≡ q
  middle_end = rw (← hm, ← drop-drop (length m) start (p ++ (m ++ q)), drop_at p (m ++ q) start hp) (drop-append_seam m q)

  pub put_at_middle : (number : ℕ) → put_at start end number (p ++ (m ++ q)) ≡ p ++ (bytes_of (length m) number ++ q)
  unfolding put_at
  put_at_middle number =
      let w : end - start ≡ length m = omega arith in
      rw (middle_is, take_at p (m ++ q) start hp, w, middle_end)

  -- fields written one after the other: p is done, and m is the next
  pub put_at_next : (number width : ℕ) → length m ≡ width → put_at start end number (p ++ (m ++ q)) ≡ (p ++ bytes_of width number) ++ q
  put_at_next number width w =
      put_at_middle number ∙ sym (append_assoc p (bytes_of (length m) number) q) ∙ ap (λ (k : ℕ). (p ++ bytes_of k number) ++ q) w

  pub get_at_middle : length m ≤ 8 → get_at start end (p ++ (m ++ q)) ≡ word m
  unfolding get_at
  get_at_middle h =
      let w : end - start ≡ length m = omega arith in
      rw (middle_is, drop_at p (m ++ q) start hp, w, take-append_seam m q, take_all 8 m h)

-- ---- a part that there is, or not
pub get_at_part : (start end : ℕ) (l part : List ℕ) (r : ℕ) → start ≤ end → end ≤ length l → part ≡ take (end - start) (drop start l)
    → r ≡ word (take 8 part) → r ≡ get_at start end l
unfolding get_at
get_at_part start end l part r h g p e = e ∙ rw (le-leb start end h, le-leb end (length l) g, p)

pub get_at_none : (start end : ℕ) (l : List ℕ) → (end < start) ⊎ (length l < end) → 0 ≡ get_at start end l
unfolding get_at
get_at_none start end l (inl h) = rw (lt-leb start end h)
get_at_none start end l (inr h) = rw (lt-leb end (length l) h) (sym (ap (λ b. cond b (word (take 8 (take (end - start) (drop start l)))) 0) (and-false (leb start end))))

-- a number of no bytes set is zeros
pub bytes_of_zero : (width : ℕ) → bytes_of width 0 ≡ replicate width 0
unfolding bytes_of
bytes_of_zero zero = refl
bytes_of_zero (suc width) = ap (λ (bs : List ℕ). 0 ∷ bs) (bytes_of_zero width)
