-- The register after words, from what is pending before them.
-- Assumes nothing.
use mathlib.Core.Path.{◌≡◌, refl, sym, ap, ap₂, ◌∙◌}
use mathlib.Core.List.{List, [], ◌∷◌}
use Prim.Native.Nat.{ℕ, zero, suc, ◌+◌, ◌-◌, ◌*◌, ◌/◌, ◌%◌, ◌^◌, ◌≤◌, ◌<◌}
use native.Mathlib.Nat.{mod-lt, add-mul, mul_right_comm, mul-div-mul_right, mul-add-mod_self_right}
use native.Mathlib.Omega.{arith}
use lib.Pow.{pow_pos, pow-add, split, high, shr-shr}
use lib.Bits.{bit_xor, xor_shifted, xor_comm}
use lib.ListN.{length, get_or, take, drop, length-take, length-drop, drop_of_length-le}
use lib.Seq.{drop-drop, drop-cons}
use Rattle.std.specs.Simd.{first_chunks}
use Rattle.little_endian.specs.LittleEndian.{Bytes, word}
use Rattle.little_endian.proofs.Laws.{take_bytes, drop_bytes, word_split, word_fits}
use Rattle.crc_steps.specs.Crc32.{steps, crc_over}
use Rattle.crc_words.specs.Fold.{up, over, num, Turn, number, register_after, Passed, Far}
use Rattle.crc_steps.proofs.Linear.{steps_add, steps_shift, steps_zero}
use Rattle.crc_steps.proofs.Laws.{over_word}
use Rattle.crc_words.proofs.Bytes.{word_head}
use Rattle.crc_words.proofs.Passed.{passed_append, length_chunks}
use Rattle.crc_words.proofs.Turns.{last_turn}
use Rattle.crc_steps.proofs.Agree.{shifted_xor}

-- a word is read, where at least k bits come after it
pub word_read : (x : List ℕ) (rest : List (List ℕ)) (k w z r : ℕ) → Turn k w z r → w ≡ word x → k ≤ 64 * length rest
    → register_after (x ∷ rest) z ≡ register_after rest r
unfolding register_after number Turn
word_read x rest k w z r t e l =
    let n = 64 * length rest - k in
    let f : k + n ≡ 64 * length rest = omega arith in
    let g : 64 * suc (length rest) ≡ 64 + (k + n) = omega arith in
    ap₂ (λ (m v : ℕ). steps m (bit_xor (over v (number rest)) z)) g (sym e)
    ∙ t n (number rest)
    ∙ ap (λ (m : ℕ). steps m (bit_xor (number rest) r)) f

pub onward : (ws : List (List ℕ)) (d : List ℕ) (m k w z r : ℕ) → Turn k w z r → m < length ws → k ≤ 64 * m → w ≡ word (get_or ws (length ws - m - 1) d)
    → register_after (drop (length ws - (m + 1)) ws) z ≡ register_after (drop (length ws - m) ws) r
onward ws d m k w z r t n l e =
    let i = length ws - m - 1 in
    let f : length ws - (m + 1) ≡ i = omega arith in
    let j : suc i ≡ length ws - m = omega arith in
    ap (λ (us : List (List ℕ)). register_after us z) (ap (λ (n : ℕ). drop n ws) f ∙ drop-cons ws i d (omega arith))
    ∙ word_read (get_or ws i d) (drop (suc i) ws) k w z r t e (simp length-drop (omega arith))
    ∙ ap (λ (n : ℕ). register_after (drop n ws) r) j

pub far_word : (x : List ℕ) (w z r : ℕ) → Turn 268 w z r → w ≡ word x → Far (x ∷ []) z r
unfolding Passed
far_word x w z r t e rest l = word_read x rest 268 w z r t e (omega arith)

pub far_cons : (w : List ℕ) (ws : List (List ℕ)) (z r t : ℕ) → Far (w ∷ []) z r → Far ws r t → Far (w ∷ ws) z t
far_cons w ws z r t f g = passed_append register_after 5 (w ∷ []) ws z r t f g

pub five_words : (ws : List (List ℕ)) → length ws ≡ 5 → ws ≡ get_or ws 0 [] ∷ get_or ws 1 [] ∷ get_or ws 2 [] ∷ get_or ws 3 [] ∷ get_or ws 4 [] ∷ []
five_words [] l = absurd (omega arith)
five_words (a ∷ []) l = absurd (omega arith)
five_words (a ∷ b ∷ []) l = absurd (omega arith)
five_words (a ∷ b ∷ c ∷ []) l = absurd (omega arith)
five_words (a ∷ b ∷ c ∷ d ∷ []) l = absurd (omega arith)
five_words (a ∷ b ∷ c ∷ d ∷ e ∷ []) l = refl
five_words (a ∷ b ∷ c ∷ d ∷ e ∷ f ∷ ws) l = absurd (omega arith)

-- the words of a slice, and of its bytes
number_chunks : (n : ℕ) (s : List ℕ) → Bytes s → length s ≡ 8 * n → number (first_chunks 8 n s) ≡ word s
unfolding number over word
number_chunks zero [] h e = refl
number_chunks zero (b ∷ s) h e = omega arith
number_chunks (suc n) s h e =
    ap₂ over refl (number_chunks n (drop 8 s) (drop_bytes 8 s h) (simp length-drop (omega arith)))
    ∙ xor_shifted (word (drop 8 s)) 64 (word (take 8 s)) (word_fits 8 (take 8 s) (take_bytes 8 s h) (simp length-take (omega arith)))
    ∙ sym (word_split 8 s)

after_chunks : (n : ℕ) (s : List ℕ) (z : ℕ) → Bytes s → length s ≡ 8 * n
    → register_after (first_chunks 8 n s) z ≡ steps (8 * length s) (bit_xor (word s) z)
unfolding register_after
after_chunks n s z h e =
    let f : 64 * length (first_chunks 8 n s) ≡ 8 * length s = omega (arith, length_chunks 8 n s) in
    ap₂ (λ (m v : ℕ). steps m (bit_xor v z)) f (number_chunks n s h e)

-- the register itself is pending
pub begin : (n : ℕ) (s : List ℕ) → Bytes s → length s ≡ 8 * n → (c : ℕ) → register_after (first_chunks 8 n s) (num c 0 0 0 0) ≡ crc_over c s
unfolding num over
begin n s h e c = after_chunks n s c h e ∙ ap (steps (8 * length s)) (xor_comm (word s) c) ∙ sym (over_word s h c)

-- the first h bytes as a word of their own: zeros before them, and before the register, change nothing
word_shr : (s : List ℕ) → Bytes s → (h : ℕ) → word s / 2 ^ (8 * h) ≡ word (drop h s)
word_shr s b zero = omega arith
word_shr s b (suc h) =
    let e : 8 * suc h ≡ 8 + 8 * h = omega arith in
    let f : 1 + h ≡ suc h = omega arith in
    ap (λ (n : ℕ). word s / 2 ^ n) e
    ∙ sym (shr-shr (word s) 8 (8 * h))
    ∙ ap (λ (x : ℕ). x / 2 ^ (8 * h)) (ap (λ (x : ℕ). x / 2 ^ 8) (word_head s) ∙ high (word (drop 1 s)) 8 (b 0))
    ∙ word_shr (drop 1 s) (drop_bytes 1 s b) h
    ∙ ap word (drop-drop h 1 s)
    ∙ ap (λ (n : ℕ). word (drop n s)) f

up_split : (x p m : ℕ) → m + p ≡ 64 → x * 2 ^ p ≡ bit_xor (x / 2 ^ m * 2 ^ 64) (up p x)
up_split x p m e =
    let t : 2 ^ 64 ≡ 2 ^ m * 2 ^ p = ap (λ (n : ℕ). 2 ^ n) (sym e) ∙ pow-add 2 m p in
    sym (split (x * 2 ^ p) 64)
    ∙ ap (λ (y : ℕ). y * 2 ^ 64 + up p x) (ap (λ (n : ℕ). x * 2 ^ p / n) t ∙ mul-div-mul_right x (2 ^ m) (pow_pos p))
    ∙ sym (xor_shifted (x / 2 ^ m) 64 (up p x) (mod-lt (x * 2 ^ p) (pow_pos 64)))

up_low : (p q w : ℕ) → up p (q * 2 ^ 64 + w) ≡ up p w
up_low p q w =
    ap (λ (x : ℕ). x % 2 ^ 64) (add-mul (q * 2 ^ 64) w (2 ^ p) ∙ ap (λ (x : ℕ). x + w * 2 ^ p) (mul_right_comm q (2 ^ 64) (2 ^ p)))
    ∙ mul-add-mod_self_right (q * 2 ^ p) (2 ^ 64) (w * 2 ^ p)

headed : (s : List ℕ) → Bytes s → (c h p w : ℕ) → 8 * h + p ≡ 64 → h ≤ length s → word s ≡ word (drop 8 s) * 2 ^ 64 + w
    → steps (64 + 8 * (length s - h)) (bit_xor (over (up p w) (word (drop h s))) (num (up p c) (c / 2 ^ (8 * h)) 0 0 0)) ≡ crc_over c s
unfolding over num
headed s b c h p w e l f =
    let x = word s in
    let n = 8 * length s in
    let q = word (drop h s) in
    let d : 64 + 8 * (length s - h) ≡ p + n = omega arith in
    let y : bit_xor (over (up p w) q) (over (up p c) (c / 2 ^ (8 * h))) ≡ bit_xor c x * 2 ^ p =
    xor_comm (over (up p w) q) (over (up p c) (c / 2 ^ (8 * h)))
    ∙ ap₂ bit_xor
    (sym (up_split c p (8 * h) e))
    (ap₂ (λ (g v : ℕ). bit_xor (g * 2 ^ 64) v) (sym (word_shr s b h)) (sym (ap (up p) f ∙ up_low p (word (drop 8 s)) w)) ∙ sym (up_split x p (8 * h) e))
    ∙ sym (shifted_xor p c x) in
    ap₂ steps d y ∙ steps_add p n (bit_xor c x * 2 ^ p) ∙ ap (steps n) (steps_shift p (bit_xor c x)) ∙ sym (over_word s b c)

pub started : (s : List ℕ) → Bytes s → (c h p w r n : ℕ) → 8 * h + p ≡ 64 → length s ≡ h + 8 * n → 0 < n → w ≡ word (take 8 s)
    → Turn 64 (up p w) (num (up p c) (c / 2 ^ (8 * h)) 0 0 0) r → register_after (first_chunks 8 n (drop h s)) r ≡ crc_over c s
unfolding Turn
started s b c h p w r n e l m f t =
    let q = word (drop h s) in
    let j = 64 * n - 64 in
    let a : 8 * length (drop h s) ≡ 64 + j = simp length-drop (omega arith) in
    let d : 64 + (64 + j) ≡ 64 + 8 * (length s - h) = omega arith in
    let g : word s ≡ word (drop 8 s) * 2 ^ 64 + w = word_split 8 s ∙ ap (λ (x : ℕ). word (drop 8 s) * 2 ^ 64 + x) (sym f) in
    after_chunks n (drop h s) r (drop_bytes h s b) (simp length-drop (omega arith))
    ∙ ap (λ (m : ℕ). steps m (bit_xor q r)) a
    ∙ sym (t j q)
    ∙ ap (λ (m : ℕ). steps m (bit_xor (over (up p w) q) (num (up p c) (c / 2 ^ (8 * h)) 0 0 0))) d
    ∙ headed s b c h p w e (omega arith) g

-- no bytes, and fewer than a word has
pub no_bytes : (s : List ℕ) (c : ℕ) → length s ≡ 0 → c ≡ crc_over c s
unfolding crc_over
no_bytes s c e = let l : length s ≤ 0 = omega arith in sym (ap (crc_over c) (drop_of_length-le s l))

pub fewer : (s : List ℕ) → Bytes s → (c p w : ℕ) → 8 * length s + p ≡ 64 → w ≡ word (take 8 s)
    → steps 64 (bit_xor (up p w) (num (up p c) (c / 2 ^ (8 * length s)) 0 0 0)) ≡ crc_over c s
unfolding word over
fewer s h c p w l f =
    let n = length s in
    let le : n ≤ 8 = omega arith in
    let g : word s ≡ word (drop 8 s) * 2 ^ 64 + w = word_split 8 s ∙ ap (λ (x : ℕ). word (drop 8 s) * 2 ^ 64 + x) (sym f) in
    let d : 64 ≡ 64 + 8 * (n - n) = omega arith in
    let all : length s ≤ n = omega arith in
    ap₂ (λ (m v : ℕ). steps m (bit_xor (over (up p w) v) (num (up p c) (c / 2 ^ (8 * n)) 0 0 0))) d (sym (ap word (drop_of_length-le s all)))
    ∙ headed s h c n p w l (omega arith) g

-- after the last word what is pending is the register
small : (a b c d e : ℕ) → a < 2 ^ 64 → num a b c d e < 2 ^ 32 → num a b c d e ≡ a
unfolding num over
small a b c d e l h =
    let t = over b (over c (over d e)) in
    let f : num a b c d e ≡ t * 2 ^ 64 + a = xor_shifted t 64 a l in
    omega arith

pub ended : (a b c d e w : ℕ) → bit_xor b (steps 64 (bit_xor w a)) < 2 ^ 64 → steps 64 (bit_xor w (num a b c d e)) < 2 ^ 32
    → steps 64 (bit_xor w (num a b c d e)) ≡ bit_xor b (steps 64 (bit_xor w a))
unfolding Turn over
ended a b c d e w l h =
    let f = bit_xor b (steps 64 (bit_xor w a)) in
    let r : steps 64 (bit_xor w (num a b c d e)) ≡ num f c d e 0 = last_turn a b c d e w 0 0 ∙ steps_zero (num f c d e 0) in
    r ∙ small f c d e 0 l (omega arith)

pub last_word : (ws : List (List ℕ)) (x : List ℕ) (w z : ℕ) → 0 < length ws → x ≡ get_or ws (length ws - 1) [] → w ≡ word x
    → register_after (drop (length ws - 1) ws) z ≡ steps 64 (bit_xor w z)
unfolding register_after number over
last_word ws x w z l e f =
    let n : length ws ≤ suc (length ws - 1) = omega arith in
    ap (λ (us : List (List ℕ)). register_after us z)
    (drop-cons ws (length ws - 1) [] (omega arith)
    ∙ ap₂ (λ (y : List ℕ) (us : List (List ℕ)). y ∷ us) (sym e) (drop_of_length-le ws n))
    ∙ ap (λ (v : ℕ). steps 64 (bit_xor v z)) (sym f)
