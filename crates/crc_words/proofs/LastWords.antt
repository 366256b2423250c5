-- The turn over the last words as they were put off: what they leave on each word to come is linear in them, so the newest adds what
-- `far_turn` says.
-- Assumes nothing.
use mathlib.Core.Path.{◌≡◌, refl, sym, ap, ap₂, ◌∙◌, subst}
use Prim.Native.Nat.{ℕ, ◌+◌, ◌/◌, ◌^◌, ◌<◌}
use lib.Bits.{bit_xor, xor_comm, xor_zero_r}
use Rattle.crc_steps.specs.Crc32.{steps}
use Rattle.crc_words.specs.Fold.{up, over, num, Turn, pulled, past_of}
use Rattle.crc_steps.proofs.Xor.{xor_assoc, xor_swap}
use Rattle.crc_steps.proofs.Agree.{id, down}
use Rattle.crc_words.proofs.Shifts.{lup, over_xor}
use Rattle.crc_words.proofs.Turns.{far_turn, num_xor}

-- x is a and b together
record Sum (x a b : ℕ) : Type 0 where
  pub law : x ≡ bit_xor a b

up_sum : (k a b : ℕ) → Sum (up k (bit_xor a b)) (up k a) (up k b)
up_sum k a b = record { law = (lup k id).law a b }

down_sum : (k a b : ℕ) → Sum (bit_xor a b / 2 ^ k) (a / 2 ^ k) (b / 2 ^ k)
down_sum k a b = record { law = (down k id).law a b }

sums : {x a b y c d : ℕ} → Sum x a b → Sum y c d → Sum (bit_xor x y) (bit_xor a c) (bit_xor b d)
sums {x} {a} {b} {y} {c} {d} s t = record { law = ap₂ bit_xor s.law t.law ∙ xor_swap a b c d }

pulled_xor : (a b c d p q r s : ℕ) → pulled (bit_xor a p) (bit_xor b q) (bit_xor c r) (bit_xor d s) ≡ bit_xor (pulled a b c d) (pulled p q r s)
unfolding pulled
pulled_xor a b c d p q r s =
    (sums
    (sums (sums (sums (up_sum 17 a p) (down_sum 47 b q)) (up_sum 44 c r)) (sums (sums (up_sum 55 a p) (down_sum 9 b q)) (up_sum 19 b q)))
    (sums (down_sum 45 c r) (down_sum 20 d s))
    ).law

-- one word alone
one_a : (y : ℕ) → pulled y 0 0 0 ≡ bit_xor (up 17 y) (up 55 y)
unfolding pulled
one_a y = simp xor_zero_r

one_b : (y : ℕ) → pulled 0 y 0 0 ≡ bit_xor (bit_xor (y / 2 ^ 47) (y / 2 ^ 9)) (up 19 y)
unfolding pulled
one_b y = simp xor_zero_r (sym (xor_assoc (y / 2 ^ 47) (y / 2 ^ 9) (up 19 y)))

one_c : (y : ℕ) → pulled 0 0 y 0 ≡ bit_xor (y / 2 ^ 45) (up 44 y)
unfolding pulled
one_c y = simp xor_zero_r (xor_comm (up 44 y) (y / 2 ^ 45))

one_d : (y : ℕ) → pulled 0 0 0 y ≡ y / 2 ^ 20
unfolding pulled
one_d y = refl

-- and with older ones
with_a : (y b c d : ℕ) → bit_xor (pulled 0 b c d) (bit_xor (up 17 y) (up 55 y)) ≡ pulled y b c d
with_a y b c d = ap (bit_xor (pulled 0 b c d)) (sym (one_a y)) ∙ sym (simp xor_zero_r at (pulled_xor 0 b c d y 0 0 0))

with_b : (y c d : ℕ) → bit_xor (pulled 0 0 c d) (bit_xor (bit_xor (y / 2 ^ 47) (y / 2 ^ 9)) (up 19 y)) ≡ pulled 0 y c d
with_b y c d = ap (bit_xor (pulled 0 0 c d)) (sym (one_b y)) ∙ sym (simp xor_zero_r at (pulled_xor 0 0 c d 0 y 0 0))

with_c : (y d : ℕ) → bit_xor (pulled 0 0 0 d) (bit_xor (y / 2 ^ 45) (up 44 y)) ≡ pulled 0 0 y d
with_c y d = ap (bit_xor (pulled 0 0 0 d)) (sym (one_c y)) ∙ sym (simp xor_zero_r at (pulled_xor 0 0 0 d 0 0 y 0))

-- a word is read
past_turn : (p q r s t w : ℕ) → w < 2 ^ 64 → pulled q r s t < 2 ^ 64 → Turn 268 w (past_of p q r s t) (past_of (bit_xor w (pulled q r s t)) p q r s)
unfolding past_of
past_turn p q r s t w l m =
    let a = pulled q r s t in
    let b = pulled p q r s in
    let c = pulled 0 p q r in
    let d = pulled 0 0 p q in
    let e = pulled 0 0 0 p in
    let y = bit_xor w a in
    subst (Turn 268 w (num a b c d e))
    (ap₂ (λ (f g : ℕ). num b f g (bit_xor e (bit_xor (y / 2 ^ 45) (up 44 y))) (y / 2 ^ 20)) (with_a y p q r) (with_b y p q)
    ∙ ap₂ (λ (f g : ℕ). num b (pulled y p q r) (pulled 0 y p q) f g) (with_c y p) (sym (one_d y)))
    (far_turn a b c d e w l m)

-- with x besides, and t after it
turn_with : (k w x z r t : ℕ) → Turn k (bit_xor w x) z r → Turn k w (bit_xor z (over x t)) (bit_xor r t)
unfolding Turn
turn_with k w x z r t h n q =
    ap (steps (64 + (k + n)))
    (ap (bit_xor (over w q)) (xor_comm z (over x t))
    ∙ sym (xor_assoc (over w q) (over x t) z)
    ∙ ap (λ (v : ℕ). bit_xor v z) (over_xor w x q t))
    ∙ h n (bit_xor q t)
    ∙ ap (steps (k + n)) (xor_assoc q t r ∙ ap (bit_xor q) (xor_comm t r))

pub past_with : (p q r s t w x u : ℕ) → bit_xor w x < 2 ^ 64 → pulled q r s t < 2 ^ 64
    → Turn 268 w (bit_xor (past_of p q r s t) (over x u)) (bit_xor (past_of (bit_xor (bit_xor w x) (pulled q r s t)) p q r s) u)
past_with p q r s t w x u l m =
    turn_with 268 w x (past_of p q r s t) (past_of (bit_xor (bit_xor w x) (pulled q r s t)) p q r s) u (past_turn p q r s t (bit_xor w x) l m)

-- nothing yet
pub past_none : past_of 0 0 0 0 0 ≡ 0
unfolding past_of num over pulled
past_none = refl

pub past_zero : (p q r s t : ℕ) → p ≡ 0 → q ≡ 0 → r ≡ 0 → s ≡ 0 → t ≡ 0 → past_of p q r s t ≡ 0
past_zero p q r s t a b c d e = rw (a, b, c, d, e) past_none

num_none : num 0 0 0 0 0 ≡ 0
unfolding num over
num_none = refl

pub num_zero : (p q r s t : ℕ) → p ≡ 0 → q ≡ 0 → r ≡ 0 → s ≡ 0 → t ≡ 0 → num p q r s t ≡ 0
num_zero p q r s t a b c d e = rw (a, b, c, d, e) num_none

-- two words taken in
pub num_with : (a b c d e p q : ℕ) → bit_xor (num a b c d e) (over p q) ≡ num (bit_xor a p) (bit_xor b q) c d e
unfolding num over
num_with a b c d e p q = simp xor_zero_r at (num_xor a b c d e p q 0 0 0)
