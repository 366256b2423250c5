-- The pending bytes: what one turn makes of them, in a list and in the array that holds them; and at the end they go into the bytes read.
-- Assumes nothing.
use mathlib.Core.Path.{◌≡◌, refl, sym, ap, ap₂, ◌∙◌, subst}
use mathlib.Core.List.{List, [], ◌∷◌, ◌++◌}
use Prim.Native.Nat.{ℕ, suc, ◌+◌, ◌-◌, ◌*◌, ◌^◌, ◌≤◌, ◌<◌}
use native.Mathlib.Numerals.{add-one}
use native.Mathlib.Omega.{arith}
use lib.Bits.{bit_xor, xor_block, xor_lt, xor_shifted, xor_comm}
use native.Mathlib.Decide.{dec_lt}
use lib.ListN.{length, get_or, take, drop, set, replicate, get_or-replicate, length-replicate, length-drop, length-append, get_or-eq_default}
use Rattle.std.proofs.lemmas.List.{get_or_append_left}
use lib.Seq.{get_or-append_right, drop-cons, drop-set-add, take-suc-set, length-take-le, get_or-take, get_or-drop}
use Rattle.little_endian.specs.LittleEndian.{Bytes, word}
use Rattle.little_endian.proofs.Laws.{take_bytes, drop_bytes}
use Rattle.crc_steps.specs.Crc32.{steps, crc_over}
use Rattle.crc_words.specs.Fold.{Passed}
use Rattle.crc_blocks.specs.Sparse.{pend, taken_in, left, Off}
use Rattle.crc_steps.proofs.Xor.{four, four_xor, xor_assoc}
use Rattle.crc_steps.proofs.Laws.{over_word}
use Rattle.crc_words.proofs.Bytes.{word_before, word_after, four_block, four_lt, word_same, five, five_lt, five_ap, word_five}
use Rattle.crc_blocks.proofs.Relation.{spread, push}

-- what is pending of the bytes after the first
unfoldable pub rest : List ℕ → ℕ
rest r = four (word (drop 234 r)) (word (drop 230 r)) (word (drop 171 r)) (word r)

-- the pending byte
unfoldable pub now : List ℕ → ℕ
now p = four (get_or p 234 0) (get_or p 230 0) (get_or p 171 0) (get_or p 0 0)

before : (b : ℕ) (r : List ℕ) → length r ≡ 514 → Bytes (b ∷ r) → pend (b ∷ r) ≡ rest r * 2 ^ 8 + now (b ∷ r)
unfolding pend rest now
before b r l h =
    ap₂ (λ (x y : ℕ). four x y (word (drop 171 (b ∷ r))) (word (b ∷ r))) (word_before 234 b r (omega arith)) (word_before 230 b r (omega arith))
    ∙ ap₂ (λ (x y : ℕ). four (word (drop 234 r) * 2 ^ 8 + get_or (b ∷ r) 234 0) (word (drop 230 r) * 2 ^ 8 + get_or (b ∷ r) 230 0) x y)
    (word_before 171 b r (omega arith))
    (word_before 0 b r (omega arith))
    ∙ four_block (word (drop 234 r)) (word (drop 230 r)) (word (drop 171 r)) (word r)
    (get_or (b ∷ r) 234 0) (get_or (b ∷ r) 230 0) (get_or (b ∷ r) 171 0) (get_or (b ∷ r) 0 0) (h 234) (h 230) (h 171) (h 0)

after : (x : ℕ) (r : List ℕ) → length r ≡ 514 → Bytes r → pend (r ++ (x ∷ [])) ≡ bit_xor (rest r) (spread x)
unfolding pend rest
after x r l h =
    ap₂ (λ (y z : ℕ). four y z (word (drop 171 (r ++ (x ∷ [])))) (word (r ++ (x ∷ [])))) (word_after 234 280 x r h l) (word_after 230 284 x r h l)
    ∙ ap₂ (λ (y z : ℕ). four (bit_xor (x * 2 ^ (8 * 280)) (word (drop 234 r))) (bit_xor (x * 2 ^ (8 * 284)) (word (drop 230 r))) y z)
    (word_after 171 343 x r h l)
    (word_after 0 514 x r h l)
    ∙ sym (four_xor (x * 2 ^ (8 * 280)) (x * 2 ^ (8 * 284)) (x * 2 ^ (8 * 343)) (x * 2 ^ (8 * 514)) (word (drop 234 r)) (word (drop 230 r)) (word (drop 171 r)) (word r))
    ∙ xor_comm (spread x) (four (word (drop 234 r)) (word (drop 230 r)) (word (drop 171 r)) (word r))

-- one turn: a byte is read, and with what is pending there it is put off
next : (a : ℕ) (s : List ℕ) (b : ℕ) (r : List ℕ) → a < 2 ^ 8 → 514 ≤ length s → length r ≡ 514 → Bytes (b ∷ r)
    → left (a ∷ s) (pend (b ∷ r)) ≡ left s (pend (r ++ (bit_xor a (now (b ∷ r)) ∷ [])))
unfolding left now word
next a s b r ha l k h =
    let w = word s in
    let n = now (b ∷ r) in
    let x = bit_xor a n in
    let q = 8 * (suc (length s) - 515) in
    let hn : n < 2 ^ 8 = four_lt (get_or (b ∷ r) 234 0) (get_or (b ∷ r) 230 0) (get_or (b ∷ r) 171 0) (get_or (b ∷ r) 0 0) (h 234) (h 230) (h 171) (h 0) in
    let hx : x < 2 ^ 8 = xor_lt 8 a n ha hn in
    let e : 8 * suc (length s) ≡ 4120 + q = omega arith in
    let f : 4112 + q ≡ 8 * length s = omega arith in
    ap₂ steps e
    (ap (bit_xor (w * 2 ^ 8 + a)) (before b r k h)
    ∙ xor_block 8 w (rest r) a n ha hn
    ∙ sym (xor_shifted (bit_xor w (rest r)) 8 x hx))
    ∙ push q x (bit_xor w (rest r)) hx
    ∙ ap₂ steps f (xor_assoc w (rest r) (spread x) ∙ ap (bit_xor w) (sym (after x r k (λ j. h (suc j)))))

-- the same in an array: the pending bytes are the 515 at j
window : (y : List ℕ) (j : ℕ) → j < length y → take 515 (drop j y) ≡ get_or y j 0 ∷ take 514 (drop (j + 1) y)
window y j l = rw (add-one, drop-cons y j 0)

pub window_at : (y : List ℕ) (j d : ℕ) → d < 515 → get_or (take 515 (drop j y)) d 0 ≡ get_or y (j + d) 0
window_at y j d l = get_or-take 515 (drop j y) d 0 l ∙ get_or-drop j y d 0

window_set : (y : List ℕ) (j x : ℕ) → j + 515 < length y → take 515 (drop (j + 1) (set y (j + 515) x)) ≡ take 514 (drop (j + 1) y) ++ (x ∷ [])
window_set y j x l =
    let e : j + 515 ≡ (j + 1) + 514 = omega arith in
    let k : 514 < length (drop (j + 1) y) = simp length-drop (omega arith) in
    ap (λ (n : ℕ). take 515 (drop (j + 1) (set y n x))) e
    ∙ ap (take 515) (drop-set-add (j + 1) y 514 x)
    ∙ take-suc-set (drop (j + 1) y) 514 x k

now_at : (y : List ℕ) (j : ℕ) → now (take 515 (drop j y)) ≡ four (get_or y (j + 234) 0) (get_or y (j + 230) 0) (get_or y (j + 171) 0) (get_or y j 0)
unfolding now
now_at y j =
    ap₂ (λ (a b : ℕ). four a b (get_or (take 515 (drop j y)) 171 0) (get_or (take 515 (drop j y)) 0 0))
    (window_at y j 234 (omega arith))
    (window_at y j 230 (omega arith))
    ∙ ap₂ (λ (a b : ℕ). four (get_or y (j + 234) 0) (get_or y (j + 230) 0) a b)
    (window_at y j 171 (omega arith))
    (let e : j + 0 ≡ j = omega arith in window_at y j 0 (omega arith) ∙ ap (λ (n : ℕ). get_or y n 0) e)

pub off_byte : (a : ℕ) (y : List ℕ) (j : ℕ) → a < 2 ^ 8 → Bytes y → j + 515 < length y
    → Off (a ∷ []) (pend (take 515 (drop j y))) (pend (take 515 (drop (j + 1) (set y (j + 515) (taken_in y j a)))))
unfolding Passed
off_byte a y j ha hy m s l =
    let r = take 514 (drop (j + 1) y) in
    let b = get_or y j 0 in
    let w : take 515 (drop j y) ≡ b ∷ r = window y j (omega arith) in
    let k : length r ≡ 514 = length-take-le 514 (drop (j + 1) y) (simp length-drop (omega arith)) in
    let h : Bytes (b ∷ r) = subst Bytes w (take_bytes 515 (drop j y) (drop_bytes j y hy)) in
    ap (λ (p : List ℕ). left (a ∷ s) (pend p)) w
    ∙ next a s b r ha (omega arith) k h
    ∙ ap (λ (p : List ℕ). left s (pend p))
    (ap (λ (x : ℕ). r ++ (bit_xor a x ∷ [])) (ap now (sym w) ∙ now_at y j)
    ∙ sym (window_set y j (taken_in y j a) m))

-- the start: the register is pending
pub left_first : (s p : List ℕ) (c : ℕ) → Bytes s → pend p ≡ c → left s (pend p) ≡ crc_over c s
unfolding left
left_first s p c hs h = ap (steps (8 * length s)) (ap (bit_xor (word s)) h ∙ xor_comm (word s) c) ∙ sym (over_word s hs c)

pub pend_same : (n : ℕ) (xs ys : List ℕ) → length xs ≤ n → length ys ≤ n → ((k : ℕ) → get_or xs k 0 ≡ get_or ys k 0) → pend xs ≡ pend ys
unfolding pend
pend_same n xs ys l m h =
    let at : (d : ℕ) → word (drop d xs) ≡ word (drop d ys) =
    λ d. word_same n (drop d xs) (drop d ys) (simp length-drop (omega arith)) (simp length-drop (omega arith)) (λ k. get_or-drop d xs k 0 ∙ h (d + k) ∙ sym (get_or-drop d ys k 0)) in
    ap₂ (λ (a b : ℕ). four a b (word (drop 171 xs)) (word xs)) (at 234) (at 230) ∙ ap₂ (λ (a b : ℕ). four (word (drop 234 ys)) (word (drop 230 ys)) a b) (at 171) (at 0)

pub zeros : (n k : ℕ) → get_or {A = ℕ} (replicate n 0) k 0 ≡ 0
zeros n k =
    elim (dec_lt k n) [
      | yes u ↦ get_or-replicate {A = ℕ} n k 0 0 u
      | no u ↦ get_or-eq_default {A = ℕ} (replicate n 0) 0 (simp (length-replicate {A = ℕ}) (omega arith))
    ]

pub padded_past : (p : List ℕ) (n k : ℕ) → length p ≤ k → get_or (p ++ replicate n 0) k 0 ≡ 0
padded_past p n k l = get_or-append_right p (replicate n 0) k 0 l ∙ zeros n (k - length p)

padded_at : (p : List ℕ) (n k : ℕ) → get_or (p ++ replicate n 0) k 0 ≡ get_or p k 0
padded_at p n k =
    elim (dec_lt k (length p)) [
      | yes u ↦ get_or_append_left p (replicate n 0) 0 k u
      | no u ↦ padded_past p n k (omega arith) ∙ sym (get_or-eq_default p 0 (omega arith))
    ]

pub padded_bytes : (p : List ℕ) (n : ℕ) → Bytes p → Bytes (p ++ replicate n 0)
padded_bytes p n h k = rw (padded_at p n k) (h k)

-- zeros after them change nothing
pub pend_padded : (p : List ℕ) → length p ≡ 515 → pend (p ++ replicate 515 0) ≡ pend p
pend_padded p l =
    pend_same 1030 (p ++ replicate 515 0) p (simp length-append (omega arith)) (omega arith) (padded_at p 515)

-- the end: t has the last bytes, with what was pending taken in
pub settled : (s p t : List ℕ) → Bytes s → Bytes p → length s ≡ 515 → length p ≡ 1030 → length t ≡ 1030
    → ((k : ℕ) → 515 ≤ k → get_or p k 0 ≡ 0) → ((k : ℕ) → k < 515 → get_or t k 0 ≡ taken_in p k (get_or s k 0))
    → crc_over 0 (take 515 t) ≡ left s (pend p)
unfolding left pend
settled s p t hs hp ls lp lt z h =
    let u = take 515 t in
    let l : length u ≡ 515 = length-take-le 515 t (omega arith) in
    let at : (d k : ℕ) → get_or (drop d p) k 0 ≡ get_or p (k + d) 0 = λ d k. let f : d + k ≡ k + d = omega arith in get_or-drop d p k 0 ∙ ap (λ (m : ℕ). get_or p m 0) f in
    let each : (k : ℕ) → get_or u k 0 ≡ five (get_or s k 0) (get_or (drop 234 p) k 0) (get_or (drop 230 p) k 0) (get_or (drop 171 p) k 0) (get_or p k 0) =
    λ k.
    elim (dec_lt k 515) [
      | yes m ↦ get_or-take 515 t k 0 m ∙ h k m ∙ sym (five_ap (refl {a = get_or s k 0}) (at 234 k) (at 230 k) (at 171 k) refl)
      | no m ↦
          get_or-eq_default u 0 (omega arith)
          ∙ sym
          (five_ap (get_or-eq_default s 0 (omega arith)) (at 234 k ∙ z (k + 234) (omega arith)) (at 230 k ∙ z (k + 230) (omega arith)) (at 171 k ∙ z (k + 171) (omega arith)) (z k (omega arith)))
    ] in
    let bu : Bytes u = λ k. rw each (five_lt (get_or s k 0) (get_or (drop 234 p) k 0) (get_or (drop 230 p) k 0) (get_or (drop 171 p) k 0) (get_or p k 0) (hs k) (drop_bytes 234 p hp k) (drop_bytes 230 p hp k) (drop_bytes 171 p hp k) (hp k)) in
    let w : word u ≡ five (word s) (word (drop 234 p)) (word (drop 230 p)) (word (drop 171 p)) (word p) =
    word_five 1030 u s (drop 234 p) (drop 230 p) (drop 171 p) p (omega arith) (omega arith) (simp length-drop (omega arith)) (simp length-drop (omega arith)) (simp length-drop (omega arith)) (omega arith)
    hs (drop_bytes 234 p hp) (drop_bytes 230 p hp) (drop_bytes 171 p hp) hp each in
    let n : 8 * length u ≡ 8 * length s = omega arith in
    over_word u bu 0 ∙ ap₂ steps n w
