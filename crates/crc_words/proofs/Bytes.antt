-- Lists of bytes, and the numbers that they stand for: a number depends on each element alone, and is linear.
-- Assumes nothing.
use mathlib.Core.Path.{◌≡◌, refl, sym, ap, ap₂, ◌∙◌, subst}
use mathlib.Core.List.{List, [], ◌∷◌, ◌++◌}
use Prim.Native.Nat.{ℕ, zero, suc, ◌+◌, ◌*◌, ◌^◌, ◌≤◌, ◌<◌}
use native.Mathlib.Nat.{mul_assoc, le_of_suc-le-suc, not-suc-le-zero}
use native.Mathlib.Omega.{arith}
use lib.Arith.{digits_lt}
use lib.Pow.{pow-add}
use lib.Bits.{bit_xor, xor_block, xor_lt, xor_shifted}
use lib.ListN.{length, get_or, drop, length-drop}
use lib.Seq.{get_or-drop, drop-append-le}
use Rattle.little_endian.specs.LittleEndian.{Bytes, word}
use Rattle.little_endian.proofs.Laws.{drop_bytes}
use Rattle.crc_steps.proofs.Xor.{four}

-- 2 ^ (8 * suc l) is 256 times as much
pow_byte : (l : ℕ) → 2 ^ (8 * suc l) ≡ 2 ^ (8 * l) * 2 ^ 8
pow_byte l = let e : 8 * suc l ≡ 8 * l + 8 = omega arith in ap (λ (n : ℕ). 2 ^ n) e ∙ pow-add 2 (8 * l) 8

word_lt : (xs : List ℕ) → Bytes xs → word xs < 2 ^ (8 * length xs)
unfolding word
word_lt [] h = omega arith
word_lt (b ∷ xs) h =
    subst (λ (n : ℕ). word xs * 2 ^ 8 + b < n) (sym (pow_byte (length xs))) (digits_lt (word_lt xs (λ j. h (suc j))) (h 0))

word_snoc : (xs : List ℕ) (x : ℕ) → word (xs ++ (x ∷ [])) ≡ x * 2 ^ (8 * length xs) + word xs
unfolding word
word_snoc [] x = omega arith
word_snoc (b ∷ xs) x =
    let e : x * 2 ^ (8 * suc (length xs)) ≡ x * 2 ^ (8 * length xs) * 2 ^ 8 =
    ap (λ (n : ℕ). x * n) (pow_byte (length xs)) ∙ sym (mul_assoc x (2 ^ (8 * length xs)) (2 ^ 8)) in
    omega (arith, word_snoc xs x)

-- the word from d on, with one element more in front and with one more at the end
pub word_before : (d b : ℕ) (r : List ℕ) → d ≤ length r → word (drop d (b ∷ r)) ≡ word (drop d r) * 2 ^ 8 + get_or (b ∷ r) d 0
unfolding word
word_before zero b r l = refl
word_before (suc d) b [] l = absurd (not-suc-le-zero l)
word_before (suc d) b (a ∷ r) l = word_before d a r (le_of_suc-le-suc l)

pub word_after : (d m x : ℕ) (r : List ℕ) → Bytes r → length r ≡ d + m → word (drop d (r ++ (x ∷ []))) ≡ bit_xor (x * 2 ^ (8 * m)) (word (drop d r))
word_after d m x r h l =
    let k : length (drop d r) ≡ m = simp length-drop (omega arith) in
    let u : word (drop d r) < 2 ^ (8 * m) = subst (λ (n : ℕ). word (drop d r) < 2 ^ (8 * n)) k (word_lt (drop d r) (drop_bytes d r h)) in
    let a : drop d (r ++ (x ∷ [])) ≡ drop d r ++ (x ∷ []) = drop-append-le d r (x ∷ []) (omega arith) in
    ap word a
    ∙ word_snoc (drop d r) x
    ∙ ap (λ (n : ℕ). x * 2 ^ (8 * n) + word (drop d r)) k
    ∙ sym (xor_shifted x (8 * m) (word (drop d r)) u)

-- the first byte and the others, of an empty list too
pub word_head : (xs : List ℕ) → word xs ≡ word (drop 1 xs) * 2 ^ 8 + get_or xs 0 0
unfolding word
word_head [] = refl
word_head (x ∷ xs) = refl

-- four numbers, each with a byte below
pub four_block : (a b c d p q r s : ℕ) → p < 2 ^ 8 → q < 2 ^ 8 → r < 2 ^ 8 → s < 2 ^ 8
    → four (a * 2 ^ 8 + p) (b * 2 ^ 8 + q) (c * 2 ^ 8 + r) (d * 2 ^ 8 + s) ≡ four a b c d * 2 ^ 8 + four p q r s
four_block a b c d p q r s hp hq hr hs =
    ap (λ (x : ℕ). bit_xor (bit_xor x (c * 2 ^ 8 + r)) (d * 2 ^ 8 + s)) (xor_block 8 a b p q hp hq)
    ∙ ap (λ (x : ℕ). bit_xor x (d * 2 ^ 8 + s)) (xor_block 8 (bit_xor a b) c (bit_xor p q) r (xor_lt 8 p q hp hq) hr)
    ∙ xor_block 8 (bit_xor (bit_xor a b) c) d (bit_xor (bit_xor p q) r) s (xor_lt 8 (bit_xor p q) r (xor_lt 8 p q hp hq) hr) hs

pub four_lt : (p q r s : ℕ) → p < 2 ^ 8 → q < 2 ^ 8 → r < 2 ^ 8 → s < 2 ^ 8 → four p q r s < 2 ^ 8
four_lt p q r s hp hq hr hs =
    xor_lt 8 (bit_xor (bit_xor p q) r) s (xor_lt 8 (bit_xor p q) r (xor_lt 8 p q hp hq) hr) hs

-- a number depends on each element alone, and an end of zeros counts for nothing
tail_at : (xs : List ℕ) (k : ℕ) → get_or (drop 1 xs) k 0 ≡ get_or xs (1 + k) 0
tail_at xs k = get_or-drop 1 xs k 0

tail_le : (xs : List ℕ) (n : ℕ) → length xs ≤ suc n → length (drop 1 xs) ≤ n
tail_le xs n l = simp length-drop (omega arith)

word_none : (xs : List ℕ) → length xs ≤ 0 → word xs ≡ 0
unfolding word
word_none [] l = refl
word_none (x ∷ xs) l = absurd (not-suc-le-zero l)

pub word_same : (n : ℕ) (xs ys : List ℕ) → length xs ≤ n → length ys ≤ n → ((k : ℕ) → get_or xs k 0 ≡ get_or ys k 0) → word xs ≡ word ys
word_same zero xs ys l m h = word_none xs l ∙ sym (word_none ys m)
word_same (suc n) xs ys l m h =
    word_head xs
    ∙ ap₂ (λ (a b : ℕ). a * 2 ^ 8 + b)
    (word_same n (drop 1 xs) (drop 1 ys) (tail_le xs n l) (tail_le ys n m) (λ k. tail_at xs k ∙ h (1 + k) ∙ sym (tail_at ys k)))
    (h 0)
    ∙ sym (word_head ys)

-- and it is linear: here of five lists
abbrev pub five : ℕ → ℕ → ℕ → ℕ → ℕ → ℕ
five a b c d e = bit_xor a (four b c d e)

pub five_lt : (a b c d e : ℕ) → a < 2 ^ 8 → b < 2 ^ 8 → c < 2 ^ 8 → d < 2 ^ 8 → e < 2 ^ 8 → five a b c d e < 2 ^ 8
five_lt a b c d e ha hb hc hd he = xor_lt 8 a (four b c d e) ha (four_lt b c d e hb hc hd he)

pub five_ap : {a b c d e a' b' c' d' e' : ℕ} → a ≡ a' → b ≡ b' → c ≡ c' → d ≡ d' → e ≡ e' → five a b c d e ≡ five a' b' c' d' e'
five_ap p q r s t = cc

pub word_five : (n : ℕ) (u a b c d e : List ℕ) → length u ≤ n → length a ≤ n → length b ≤ n → length c ≤ n → length d ≤ n → length e ≤ n
    → Bytes a → Bytes b → Bytes c → Bytes d → Bytes e
    → ((k : ℕ) → get_or u k 0 ≡ five (get_or a k 0) (get_or b k 0) (get_or c k 0) (get_or d k 0) (get_or e k 0))
    → word u ≡ five (word a) (word b) (word c) (word d) (word e)
word_five zero u a b c d e lu la lb lc ld le ha hb hc hd he h =
    word_none u lu ∙ sym (five_ap (word_none a la) (word_none b lb) (word_none c lc) (word_none d ld) (word_none e le))
word_five (suc n) u a b c d e lu la lb lc ld le ha hb hc hd he h =
    let a₀ = get_or a 0 0 in
    let b₀ = get_or b 0 0 in
    let c₀ = get_or c 0 0 in
    let d₀ = get_or d 0 0 in
    let e₀ = get_or e 0 0 in
    let wa = word (drop 1 a) in
    let wb = word (drop 1 b) in
    let wc = word (drop 1 c) in
    let wd = word (drop 1 d) in
    let we = word (drop 1 e) in
    let t : word (drop 1 u) ≡ five wa wb wc wd we =
    word_five n (drop 1 u) (drop 1 a) (drop 1 b) (drop 1 c) (drop 1 d) (drop 1 e) (tail_le u n lu) (tail_le a n la) (tail_le b n lb) (tail_le c n lc) (tail_le d n ld) (tail_le e n le)
    (drop_bytes 1 a ha) (drop_bytes 1 b hb) (drop_bytes 1 c hc) (drop_bytes 1 d hd) (drop_bytes 1 e he)
    (λ k. tail_at u k ∙ h (1 + k) ∙ sym (five_ap (tail_at a k) (tail_at b k) (tail_at c k) (tail_at d k) (tail_at e k))) in
    word_head u
    ∙ ap₂ (λ (x y : ℕ). x * 2 ^ 8 + y) t (h 0)
    ∙ sym
    (five_ap (word_head a) (word_head b) (word_head c) (word_head d) (word_head e)
    ∙ ap (bit_xor (wa * 2 ^ 8 + a₀)) (four_block wb wc wd we b₀ c₀ d₀ e₀ (hb 0) (hc 0) (hd 0) (he 0))
    ∙ xor_block 8 wa (four wb wc wd we) a₀ (four b₀ c₀ d₀ e₀) (ha 0) (four_lt b₀ c₀ d₀ e₀ (hb 0) (hc 0) (hd 0) (he 0)))
