-- The CRC's step is linear over xor, and n steps take a number that was shifted by n places back.
-- Assumes nothing.
use mathlib.Core.Path.{◌≡◌, refl, sym, ap, ap₂, ◌∙◌}
use Prim.Native.Nat.{ℕ, zero, suc, ◌+◌, ◌*◌, ◌/◌, ◌%◌, ◌^◌, ◌<◌}
use native.Mathlib.Nat.{mod-lt, zero-lt-suc, mul-mod_left, mul-div_cancel, mul_assoc, pow-suc, suc-add, zero-add}
use native.Mathlib.Omega.{arith}
use lib.Bits.{bit_xor, differ, xor_comm, xor_shifted, xor_lt}
use Rattle.crc_steps.specs.Crc32.{take_in, step, steps}
use Rattle.crc_steps.proofs.Xor.{xor_half, xor_odd, xor_assoc, xor_right_comm, xor_twice}

two_pos : zero < 2
two_pos = zero-lt-suc 1

take_in_xor : (x y g h : ℕ) → x < 2 → y < 2 → take_in (differ x y) (bit_xor g h) ≡ bit_xor (take_in x g) (take_in y h)
take_in_xor zero zero g h hx hy = refl
take_in_xor zero (suc y) g h hx hy = xor_assoc g h 0xEDB8_8320
take_in_xor (suc x) zero g h hx hy = xor_right_comm g h 0xEDB8_8320
take_in_xor (suc zero) (suc zero) g h hx hy = sym (xor_twice g h 0xEDB8_8320)
take_in_xor (suc zero) (suc (suc y)) g h hx hy = omega arith
take_in_xor (suc (suc x)) (suc y) g h hx hy = omega arith

pub step_xor : (a b : ℕ) → step (bit_xor a b) ≡ bit_xor (step a) (step b)
unfolding step
step_xor a b =
    ap₂ take_in (xor_odd a b) (xor_half a b) ∙ take_in_xor (a % 2) (b % 2) (a / 2) (b / 2) (mod-lt a two_pos) (mod-lt b two_pos)

pub steps_xor : (n a b : ℕ) → steps n (bit_xor a b) ≡ bit_xor (steps n a) (steps n b)
unfolding steps
steps_xor zero a b = refl
steps_xor (suc n) a b = ap (steps n) (step_xor a b) ∙ steps_xor n (step a) (step b)

pub step_shift : (h : ℕ) → step (h * 2) ≡ h
unfolding step
step_shift h = ap₂ take_in (mul-mod_left h 2) (mul-div_cancel h two_pos)

pub steps_shift : (n h : ℕ) → steps n (h * 2 ^ n) ≡ h
unfolding steps
steps_shift zero h = omega arith
steps_shift (suc n) h =
    ap (λ (x : ℕ). steps n (step x)) (ap (λ (x : ℕ). h * x) (pow-suc 2 n) ∙ sym (mul_assoc h (2 ^ n) 2))
    ∙ ap (steps n) (step_shift (h * 2 ^ n))
    ∙ steps_shift n h

pub steps_add : (m n c : ℕ) → steps (m + n) c ≡ steps n (steps m c)
unfolding steps
steps_add zero n c = ap (λ (k : ℕ). steps k c) (zero-add n)
steps_add (suc m) n c = ap (λ (k : ℕ). steps k c) (suc-add m n) ∙ steps_add m n (step c)

pub steps_zero : (c : ℕ) → steps 0 c ≡ c
unfolding steps
steps_zero c = refl

-- what is read is taken in, whatever comes after it
pub read_in : (k m c b h : ℕ) → b < 2 ^ k → steps m (bit_xor (steps k (bit_xor c b)) h) ≡ steps (k + m) (bit_xor c (h * 2 ^ k + b))
read_in k m c b h l =
    ap (steps m)
    (ap (bit_xor (steps k (bit_xor c b))) (sym (steps_shift k h))
    ∙ sym (steps_xor k (bit_xor c b) (h * 2 ^ k))
    ∙ ap (steps k) (xor_assoc c b (h * 2 ^ k) ∙ ap (bit_xor c) (xor_comm b (h * 2 ^ k) ∙ xor_shifted h k b l)))
    ∙ sym (steps_add k m (bit_xor c (h * 2 ^ k + b)))

-- the register fits 32 bits
take_in_lt : (b h : ℕ) → h < 2 ^ 32 → take_in b h < 2 ^ 32
take_in_lt zero h l = l
take_in_lt (suc b) h l = xor_lt 32 h 0xEDB8_8320 l (omega arith)

pub steps_lt : (n x : ℕ) → x < 2 ^ 32 → steps n x < 2 ^ 32
unfolding steps step
steps_lt zero x l = l
steps_lt (suc n) x l = steps_lt n (step x) (take_in_lt (x % 2) (x / 2) (omega arith))
