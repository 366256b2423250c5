-- Two linear maps that agree at the powers of two below 2 ^ n agree below 2 ^ n; antt computes both at each power.
-- Assumes nothing.
use mathlib.Core.Path.{◌≡◌, refl, sym, ap, ap₂, ◌∙◌, subst}
use mathlib.Core.Bool.{Bool, true, false}
use Prim.Native.Nat.{ℕ, zero, suc, ◌+◌, ◌*◌, ◌/◌, ◌%◌, ◌^◌, ◌<◌}
use native.Mathlib.Nat.{mod-lt, zero-mul, one-mul, add-zero, pow-suc, not-suc-le-zero}
use native.Mathlib.Omega.{arith}
use borrow.Author.Count.{below_more}
use lib.Dec.{T, eqb, eqb→eq, eqb_refl}
use lib.Arith.{lt-one}
use lib.Pow.{pow_pos, split, shr_lt}
use lib.Bits.{bit_xor, xor_shifted, xor_block, xor_shr, xor_mod}
use Rattle.crc_steps.specs.Crc32.{step, steps}
use Rattle.crc_steps.proofs.Xor.{xor_swap}
use Rattle.crc_steps.proofs.Linear.{step_xor, steps_xor, step_shift}

pub record Lin (f : ℕ → ℕ) : Type 0 where
  pub law : (a b : ℕ) → f (bit_xor a b) ≡ bit_xor (f a) (f b)

pub shifted_xor : (k a b : ℕ) → bit_xor a b * 2 ^ k ≡ bit_xor (a * 2 ^ k) (b * 2 ^ k)
shifted_xor k a b = sym (simp add-zero at (xor_block k a b 0 0 (pow_pos k) (pow_pos k)))

pub id : Lin (λ x. x)
id = record { law = λ a b. refl }

pub down : (k : ℕ) {f : ℕ → ℕ} → Lin f → Lin (λ x. f x / 2 ^ k)
down k {f} l = record { law = λ a b. ap (λ (x : ℕ). x / 2 ^ k) (l.law a b) ∙ xor_shr (f a) (f b) k }

pub low : (k : ℕ) {f : ℕ → ℕ} → Lin f → Lin (λ x. f x % 2 ^ k)
low k {f} l = record { law = λ a b. ap (λ (x : ℕ). x % 2 ^ k) (l.law a b) ∙ xor_mod (f a) (f b) k }

pub both : {f g : ℕ → ℕ} → Lin f → Lin g → Lin (λ x. bit_xor (f x) (g x))
both {f} {g} l m = record { law = λ a b. ap₂ bit_xor (l.law a b) (m.law a b) ∙ xor_swap (f a) (f b) (g a) (g b) }

pub after : {f g : ℕ → ℕ} → Lin f → Lin g → Lin (λ x. f (g x))
after {f} {g} l m = record { law = λ a b. ap f (m.law a b) ∙ l.law (g a) (g b) }

pub lin_steps : (n : ℕ) → Lin (steps n)
lin_steps n = record { law = steps_xor n }

-- ---- the test
abbrev pub also : Bool → Bool → Bool
also true b = b
also false b = false

also_left : (a b : Bool) → T (also a b) → T a
also_left true b t = tt
also_left false b t = t

also_right : (a b : Bool) → T (also a b) → T b
also_right true b t = t
also_right false b t = absurd t

unfoldable pub same : (ℕ → ℕ) → (ℕ → ℕ) → ℕ → Bool
same f g zero = eqb (f 0) (g 0)
same f g (suc n) = also (eqb (f (2 ^ n)) (g (2 ^ n))) (same f g n)

same_zero : (f g : ℕ → ℕ) (n : ℕ) → T (same f g n) → f 0 ≡ g 0
unfolding same
same_zero f g zero t = eqb→eq (f 0) (g 0) t
same_zero f g (suc n) t = same_zero f g n (also_right (eqb (f (2 ^ n)) (g (2 ^ n))) (same f g n) t)

-- a digit of 2 ^ k
digit : (f g : ℕ → ℕ) (k h : ℕ) → h < 2 → f 0 ≡ g 0 → f (2 ^ k) ≡ g (2 ^ k) → f (h * 2 ^ k) ≡ g (h * 2 ^ k)
digit f g k zero l z r = subst (λ (x : ℕ). f x ≡ g x) (sym (zero-mul (2 ^ k))) z
digit f g k (suc zero) l z r = subst (λ (x : ℕ). f x ≡ g x) (sym (one-mul (2 ^ k))) r
digit f g k (suc (suc h)) l z r = omega arith

pub agree : (f g : ℕ → ℕ) → Lin f → Lin g → (n : ℕ) → T (same f g n) → (x : ℕ) → x < 2 ^ n → f x ≡ g x
unfolding same
agree f g lf lg zero t x l = subst (λ (y : ℕ). f y ≡ g y) (sym (lt-one l)) (eqb→eq (f 0) (g 0) t)
agree f g lf lg (suc n) t x l =
    let e : f (2 ^ n) ≡ g (2 ^ n) = eqb→eq (f (2 ^ n)) (g (2 ^ n)) (also_left (eqb (f (2 ^ n)) (g (2 ^ n))) (same f g n) t) in
    let r = also_right (eqb (f (2 ^ n)) (g (2 ^ n))) (same f g n) t in
    let s : suc n ≡ 1 + n = omega arith in
    let h = x / 2 ^ n * 2 ^ n in
    subst (λ (y : ℕ). f y ≡ g y)
    (xor_shifted (x / 2 ^ n) n (x % 2 ^ n) (mod-lt x (pow_pos n)) ∙ split x n)
    (lf.law h (x % 2 ^ n)
    ∙ ap₂ bit_xor
    (digit f g n (x / 2 ^ n) (shr_lt 1 n (subst (λ (m : ℕ). x < 2 ^ m) s l)) (same_zero f g n r) e)
    (agree f g lf lg n r (x % 2 ^ n) (mod-lt x (pow_pos n)))
    ∙ sym (lg.law h (x % 2 ^ n)))

-- ---- maps that step as their argument does, from power to power, need the test at the highest power only
both_pass : (a b : Bool) → T a → T b → T (also a b)
both_pass true b t u = u
both_pass false b t u = t

passes : (a b : ℕ) → a ≡ b → T (eqb a b)
passes a b e = subst (λ (x : ℕ). T (eqb a x)) e (eqb_refl a)

pub record Down (k : ℕ) (f : ℕ → ℕ) : Type 0 where
  pub law : (j : ℕ) → j < k → step (f (2 ^ suc j)) ≡ f (2 ^ j)

half : (k : ℕ) → step (2 ^ suc k) ≡ 2 ^ k
half k = ap step (pow-suc 2 k) ∙ step_shift (2 ^ k)

steps_step : (n x : ℕ) → steps n (step x) ≡ step (steps n x)
unfolding steps
steps_step zero x = refl
steps_step (suc n) x = steps_step n (step x)

pub down_id : {k : ℕ} → Down k (λ x. x)
down_id = record { law = λ j l. half j }

pub down_after : (n : ℕ) {k : ℕ} {f : ℕ → ℕ} → Down k f → Down k (λ x. steps n (f x))
down_after n {k} {f} d = record { law = λ j l. sym (steps_step n (f (2 ^ suc j))) ∙ ap (steps n) (d.law j l) }

pub down_both : {k : ℕ} {f g : ℕ → ℕ} → Down k f → Down k g → Down k (λ x. bit_xor (f x) (g x))
down_both {k} {f} {g} d e = record { law = λ j l. step_xor (f (2 ^ suc j)) (g (2 ^ suc j)) ∙ ap₂ bit_xor (d.law j l) (e.law j l) }

-- by computing
unfoldable pub falls : (ℕ → ℕ) → ℕ → Bool
falls f zero = true
falls f (suc k) = also (eqb (step (f (2 ^ suc k))) (f (2 ^ k))) (falls f k)

fallen : (f : ℕ → ℕ) (k : ℕ) → T (falls f k) → (j : ℕ) → j < k → step (f (2 ^ suc j)) ≡ f (2 ^ j)
unfolding falls
fallen f zero t j l = absurd (not-suc-le-zero l)
fallen f (suc k) t j l =
    let a = eqb (step (f (2 ^ suc k))) (f (2 ^ k)) in
    below_more (λ (j : ℕ). step (f (2 ^ suc j)) ≡ f (2 ^ j)) k
    (fallen f k (also_right a (falls f k) t))
    (eqb→eq (step (f (2 ^ suc k))) (f (2 ^ k)) (also_left a (falls f k) t))
    j
    (omega arith)

pub down_test : (k : ℕ) (f : ℕ → ℕ) → T (falls f k) → Down k f
down_test k f t = record { law = fallen f k t }

pub descend : (f g : ℕ → ℕ) (k : ℕ) → Down k f → Down k g → f 0 ≡ g 0 → f (2 ^ k) ≡ g (2 ^ k) → T (same f g (suc k))
unfolding same
descend f g zero d e z t = both_pass (eqb (f 1) (g 1)) (eqb (f 0) (g 0)) (passes (f 1) (g 1) t) (passes (f 0) (g 0) z)
descend f g (suc k) d e z t =
    both_pass (eqb (f (2 ^ suc k)) (g (2 ^ suc k))) (same f g (suc k)) (passes (f (2 ^ suc k)) (g (2 ^ suc k)) t)
    (descend f g k (record { law = λ j l. d.law j (omega arith) }) (record { law = λ j l. e.law j (omega arith) }) z
    (sym (d.law k (omega arith)) ∙ ap step t ∙ e.law k (omega arith)))
