-- What callers may use of the definitions: a register goes on from where it was, fits 32 bits, and is so many steps of one number.
-- Assumes nothing.
use mathlib.Core.Path.{◌≡◌, refl, sym, ap, ◌∙◌}
use mathlib.Core.List.{List, [], ◌∷◌, ◌++◌}
use Prim.Native.Nat.{ℕ, suc, ◌+◌, ◌*◌, ◌^◌, ◌<◌}
use native.Mathlib.Omega.{arith}
use lib.ListN.{length, get_or}
use lib.Bits.{bit_xor, xor_lt, xor_zero_r}
use Rattle.little_endian.specs.LittleEndian.{Bytes, word}
use Rattle.crc_steps.specs.Crc32.{step, steps, crc_over, crc32}
use Rattle.crc_steps.proofs.Linear.{read_in, steps_lt, steps_zero}

-- the register goes on from where it was
pub crc_over_append : (c : ℕ) (xs ys : List ℕ) → crc_over c (xs ++ ys) ≡ crc_over (crc_over c xs) ys
unfolding crc_over
crc_over_append c [] ys = refl
crc_over_append c (x ∷ xs) ys = crc_over_append (steps 8 (bit_xor c x)) xs ys

-- so the check value of two pieces is the second, from the register after the first, complemented
pub crc32_append : (xs ys : List ℕ) → crc32 (xs ++ ys) ≡ bit_xor (crc_over (crc_over 0xFFFF_FFFF xs) ys) 0xFFFF_FFFF
unfolding crc32
crc32_append xs ys = ap (λ (c : ℕ). bit_xor c 0xFFFF_FFFF) (crc_over_append 0xFFFF_FFFF xs ys)

-- the register fits 32 bits, and so does the check value
pub crc_over_lt : (c : ℕ) (xs : List ℕ) → c < 2 ^ 32 → ((k : ℕ) → get_or xs k 0 < 2 ^ 8) → crc_over c xs < 2 ^ 32
unfolding crc_over
crc_over_lt c [] l h = l
crc_over_lt c (x ∷ xs) l h =
    crc_over_lt (steps 8 (bit_xor c x)) xs (steps_lt 8 (bit_xor c x) (xor_lt 32 c x l (omega (arith, h 0)))) (λ k. h (suc k))

pub crc32_lt : (xs : List ℕ) → ((k : ℕ) → get_or xs k 0 < 2 ^ 8) → crc32 xs < 2 ^ 32
unfolding crc32
crc32_lt xs h = xor_lt 32 (crc_over 0xFFFF_FFFF xs) 0xFFFF_FFFF (crc_over_lt 0xFFFF_FFFF xs (omega arith) h) (omega arith)

-- the register after the bytes is so many steps of one number: the register xor the bytes as a little-endian word
pub over_word : (bs : List ℕ) → Bytes bs → (c : ℕ) → crc_over c bs ≡ steps (8 * length bs) (bit_xor c (word bs))
unfolding crc_over word
over_word [] h c = sym (steps_zero (bit_xor c 0) ∙ xor_zero_r c)
over_word (b ∷ bs) h c =
    over_word bs (λ j. h (suc j)) (steps 8 (bit_xor c b))
    ∙ read_in 8 (8 * length bs) c b (word bs) (h 0)
    ∙ ap (λ (n : ℕ). steps n (bit_xor c (word bs * 2 ^ 8 + b))) (omega arith)

-- the standard's check: the value of the nine digits
check : crc32 (0x31 ∷ 0x32 ∷ 0x33 ∷ 0x34 ∷ 0x35 ∷ 0x36 ∷ 0x37 ∷ 0x38 ∷ 0x39 ∷ []) ≡ 0xCBF4_3926
unfolding crc32 crc_over steps step
check = refl
