-- Laws of `all_zero`: of zeros repeated, of parts, and by the number that bytes stand for. Assumes nothing.
use mathlib.Core.Path.{◌≡◌, refl, sym, ap, ◌∙◌}
use mathlib.Core.Bool.{Bool, true, false, ◌&&◌, true≢false}
use mathlib.Core.Bool as B
use mathlib.Core.List.{List, [], ◌∷◌}
use Prim.Native.Nat.{ℕ, zero, suc, ◌+◌, ◌-◌, ◌*◌, ◌^◌, ◌≤◌}
use native.Mathlib.Nat.{suc-ne-zero}
use native.Mathlib.Omega.{arith}
use lib.Bits.{bit_or, bit_and, or_add_and, and_le_l, and_comm}
use lib.Dec.{eqb}
use lib.ListN.{length, take, drop, replicate, length-take, drop_of_length-le}
use lib.Seq.{take_all, drop-drop}
use borrow.Author.Tests.{eq-eqb, ne_eqb}
use Rattle.refusal.proofs.Tests.{all, and_true, both_ways}
use Rattle.list_parts.specs.Parts.{part}
use Rattle.list_parts.proofs.Parts.{part_range}
use Rattle.list_parts.proofs.Ranges.{rest_part}
use Rattle.little_endian.specs.LittleEndian.{word}
use lib.ListN.{get_or, length-drop}
use Rattle.std.specs.Int.{sum_through, byte_worth}
use Rattle.std.specs.List.{fold}
use Rattle.std.specs.Simd.{first_chunks}
use Rattle.little_endian.proofs.Laws.{word_worth}
use Rattle.zeros.specs.Zeros.{all_zero}

-- ---- zeros repeated
pub all_zero_replicate : (n : ℕ) → all_zero (replicate n 0) ≡ true
unfolding all_zero
all_zero_replicate zero = refl
all_zero_replicate (suc n) = all_zero_replicate n

pub replicate_all_zero : (l : List ℕ) → all_zero l ≡ true → l ≡ replicate (length l) 0
unfolding all_zero
replicate_all_zero [] h = refl
replicate_all_zero (zero ∷ bs) h = ap (λ (x : List ℕ). 0 ∷ x) (replicate_all_zero bs h)
replicate_all_zero (suc b ∷ bs) h = absurd (true≢false (sym h))

-- ---- parts
all_zero_parts : (n : ℕ) (l : List ℕ) → all_zero l ≡ (all_zero (take n l) && all_zero (drop n l))
unfolding all_zero
all_zero_parts zero l = refl
all_zero_parts (suc n) [] = refl
all_zero_parts (suc n) (zero ∷ bs) = all_zero_parts n bs
all_zero_parts (suc n) (suc b ∷ bs) = refl

-- from k on, and so from any later place on
all_zero_after : (l : List ℕ) (k i : ℕ) → k ≤ i → all_zero (drop k l) ≡ true → all_zero (drop i l) ≡ true
all_zero_after l k i h z =
    let e : k + (i - k) ≡ i = omega arith in
    let d : drop (i - k) (drop k l) ≡ drop i l = drop-drop (i - k) k l ∙ ap (λ (n : ℕ). drop n l) e in
    (and_true (all_zero (take (i - k) (drop k l))) (all_zero (drop i l)) (rw (← d) (sym (all_zero_parts (i - k) (drop k l)) ∙ z))).1

-- ---- numbers: x is 0 exactly if a and b are
not_zero : (n : ℕ) → eqb (suc n) 0 ≡ false
not_zero n = ne_eqb (suc n) 0 (suc-ne-zero n)

both_zero : (x a b : ℕ) → (x ≡ 0 → (a ≡ 0) × (b ≡ 0)) → (a ≡ 0 → b ≡ 0 → x ≡ 0) → eqb x 0 ≡ (eqb a 0 && eqb b 0)
both_zero zero a b f g = rw (eq-eqb a 0 (f refl).0, eq-eqb b 0 (f refl).1)
both_zero (suc x) zero zero f g = absurd (suc-ne-zero x (g refl refl))
both_zero (suc x) zero (suc b) f g = rw (not_zero x, not_zero b)
both_zero (suc x) (suc a) b f g = rw (not_zero x, not_zero a)

or_none : (a b : ℕ) → bit_or a b ≡ 0 → (a ≡ 0) × (b ≡ 0)
or_none a b e =
    let s = or_add_and a b in
    let p = and_le_l a b in
    let q : bit_and a b ≤ b = rw (and_comm a b) (and_le_l b a) in
    (omega arith, omega arith)

or_zero : (a b : ℕ) → eqb (bit_or a b) 0 ≡ (eqb a 0 && eqb b 0)
or_zero a b = both_zero (bit_or a b) a b (or_none a b) (λ e f. omega (arith, or_add_and a b))

pub all_zero_word : (l : List ℕ) → eqb (word l) 0 ≡ all_zero l
unfolding all_zero word
all_zero_word [] = refl
all_zero_word (zero ∷ bs) =
    both_zero (word bs * 2 ^ 8 + zero) zero (word bs) (λ e. (refl, omega arith)) (λ e f. omega arith) ∙ all_zero_word bs
all_zero_word (suc b ∷ bs) = ne_eqb (word bs * 2 ^ 8 + suc b) 0 (λ e. omega arith)

-- ---- a number that was read
pub all_zero_get : (l : List ℕ) (r : ℕ) → length l ≤ 8 → r ≡ word (take 8 l) → eqb r 0 ≡ all_zero l
all_zero_get l r h e = rw (e, take_all 8 l h) (all_zero_word l)

-- ---- a turn: w bytes at i, whose bits are joined in r
pub all_zero_turn : (l : List ℕ) (i w any r : ℕ) → eqb r 0 ≡ all_zero (take (i + w - i) (drop i l))
    → (eqb any 0 && all_zero (drop i l)) ≡ (eqb (bit_or any r) 0 && all_zero (drop (i + w) l))
all_zero_turn l i w any r e =
    let n : i + w - i ≡ w = omega arith in
    ap (λ (x : Bool). eqb any 0 && x)
    (all_zero_parts w (drop i l) ∙ ap (λ (x : Bool). x && all_zero (drop w (drop i l))) (sym (e ∙ ap (λ (k : ℕ). all_zero (take k (drop i l))) n)))
    ∙ sym (B.and_assoc (eqb any 0) (eqb r 0) (all_zero (drop w (drop i l))))
    ∙ ap (λ (x : Bool). x && all_zero (drop w (drop i l))) (sym (or_zero any r))
    ∙ ap (λ (x : List ℕ). eqb (bit_or any r) 0 && all_zero x) (drop-drop w i l)

-- nothing is left
pub all_zero_end : (l : List ℕ) (i any : ℕ) → length l ≤ i → (eqb any 0 && all_zero (drop i l)) ≡ eqb any 0
unfolding all_zero
all_zero_end l i any h = ap (λ (x : List ℕ). eqb any 0 && all_zero x) (drop_of_length-le l h) ∙ B.and-true (eqb any 0)

-- ---- the bits of k words together, and those of a
abbrev pub join_word : ℕ → List ℕ → ℕ
join_word a w = bit_or a (sum_through (λ i. byte_worth i (get_or w i 0)) 7)

pub joined_words : (k : ℕ) (l : List ℕ) (a : ℕ) → length l ≡ k * 8 → eqb (fold join_word a (first_chunks 8 k l)) 0 ≡ (eqb a 0 && all_zero l)
joined_words zero l a h = sym (all_zero_end l 0 a (omega (arith, h)))
joined_words (suc k) l a h =
    let w = take 8 l in
    let n : length w ≤ 8 = rw (length-take 8 l) (omega arith) in
    let r = sum_through (λ i. byte_worth i (get_or w i 0)) 7 in
    joined_words k (drop 8 l) (join_word a w) (omega (arith, length-drop 8 l, h)) ∙ sym (all_zero_turn l 0 8 a r (all_zero_get w r n (word_worth 7 w)))

-- bytes one by one
pub joined_bytes : (l : List ℕ) (a : ℕ) → eqb (fold bit_or a l) 0 ≡ (eqb a 0 && all_zero l)
unfolding all_zero
joined_bytes [] a = sym (B.and-true (eqb a 0))
joined_bytes (zero ∷ bs) a = joined_bytes bs (bit_or a 0) ∙ ap (λ (x : Bool). x && all_zero bs) (or_zero a 0 ∙ B.and-true (eqb a 0))
joined_bytes (suc b ∷ bs) a =
    joined_bytes bs (bit_or a (suc b)) ∙ ap (λ (x : Bool). x && all_zero bs) (or_zero a (suc b) ∙ ap (λ (x : Bool). eqb a 0 && x) (not_zero b))
    ∙ B.and_assoc (eqb a 0) false (all_zero bs)

-- ---- block i, whose bits are joined in r
pub block_turn : (l : List ℕ) (i any r : ℕ) → eqb r 0 ≡ all_zero (part 64 l i)
    → (eqb any 0 && all_zero (drop (i * 64) l)) ≡ (eqb (bit_or any r) 0 && all_zero (drop ((i + 1) * 64) l))
block_turn l i any r e =
    let n : i * 64 + 64 ≡ (i + 1) * 64 = omega arith in
    all_zero_turn l (i * 64) 64 any r (e ∙ sym (ap all_zero (part_range 64 l i)))
    ∙ ap (λ (k : ℕ). eqb (bit_or any r) 0 && all_zero (drop k l)) n

-- ---- the last w bytes, whose bits are joined in r: what was looked at of them before may be looked at again
again : (l : List ℕ) (k i : ℕ) (z : Bool) → k ≤ i → all_zero l ≡ (z && all_zero (drop i l)) → (z && all_zero (drop k l)) ≡ all_zero l
again l k i z h e = both_ways (z && all_zero (drop k l)) (all_zero l)
    (λ p. let q = and_true z (all_zero (drop k l)) p in e ∙ all q.0 (all_zero_after l k i h q.1))
    (λ p. all (and_true z (all_zero (drop i l)) (sym e ∙ p)).0 (and_true (all_zero (take k l)) (all_zero (drop k l)) (sym (all_zero_parts k l) ∙ p)).1)

pub all_zero_last : (l : List ℕ) (w i any r : ℕ) → length l ≤ i + w → all_zero l ≡ (eqb any 0 && all_zero (drop i l))
    → eqb r 0 ≡ all_zero (take (length l - (length l - w)) (drop (length l - w) l)) → eqb (bit_or any r) 0 ≡ all_zero l
all_zero_last l w i any r h e f =
    or_zero any r ∙ ap (λ (x : Bool). eqb any 0 && x) (f ∙ ap all_zero (rest_part l (length l - w)))
    ∙ again l (length l - w) i (eqb any 0) (omega arith) e

-- the first w bytes are all that comes before them
pub all_zero_ends : (l : List ℕ) (w any r : ℕ) → length l ≤ w + w → eqb any 0 ≡ all_zero (take w l)
    → eqb r 0 ≡ all_zero (take (length l - (length l - w)) (drop (length l - w) l)) → eqb (bit_or any r) 0 ≡ all_zero l
all_zero_ends l w any r h e f = all_zero_last l w w any r h (all_zero_parts w l ∙ ap (λ (x : Bool). x && all_zero (drop w l)) (sym e)) f
