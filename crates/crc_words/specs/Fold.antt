-- Scaffolding of the proofs: contracts of private functions cite it, and nothing here has to be believed to believe `update` and `hash`.
-- What the code keeps instead of the register: up to five words that are still to be taken into the bytes to come. A word y that was read is
-- put off: where at least k bits come after it, 64 + k steps of y are k steps of a number that y's shifts make.
-- Assumes nothing.
use Rattle.std.specs.Prelude.{◌≡◌, List, [], ◌∷◌, ◌++◌, ℕ, ◌≤◌, ◌+◌, ◌*◌, ◌/◌, ◌%◌, ◌^◌, length}
use Rattle.std.specs.Int.Bits.{bit_xor}
use Rattle.little_endian.specs.LittleEndian.{word}
use Rattle.crc_steps.specs.Crc32.{steps}
use Rattle.crc_words.specs.declared.Past.{Past}
use Rattle.crc_words.specs.declared.Pend.{Pend}

-- the code's x << k
abbrev pub up : ℕ → ℕ → ℕ
up k x = x * 2 ^ k % 2 ^ 64

-- l, and h 64 bits on
unfoldable pub over : ℕ → ℕ → ℕ
over l h = bit_xor (h * 2 ^ 64) l

-- five words as a number
unfoldable pub num : ℕ → ℕ → ℕ → ℕ → ℕ → ℕ
num a b c d e = over a (over b (over c (over d e)))

abbrev pub held : Pend → ℕ
held z = num z.a z.b z.c z.d z.e

-- what the words d, c, b and a, put off one after the other, leave on the second word after a
unfoldable pub pulled : ℕ → ℕ → ℕ → ℕ → ℕ
pulled a b c d =
    bit_xor (bit_xor (bit_xor (bit_xor (up 17 a) (b / 2 ^ 47)) (up 44 c)) (bit_xor (bit_xor (up 55 a) (b / 2 ^ 9)) (up 19 b)))
    (bit_xor (c / 2 ^ 45) (d / 2 ^ 20))

-- what is pending after the words t, s, r, q and p
unfoldable pub past_of : ℕ → ℕ → ℕ → ℕ → ℕ → ℕ
past_of p q r s t = num (pulled q r s t) (pulled p q r s) (pulled 0 p q r) (pulled 0 0 p q) (pulled 0 0 0 p)

abbrev pub past : Past → ℕ
past h = past_of h.p h.q h.r h.s h.t

-- a word w is read with z pending, and r is pending after it, where at least k bits come after w
unfoldable pub Turn : ℕ → ℕ → ℕ → ℕ → Type 0
Turn k w z r = (n q : ℕ) → steps (64 + (k + n)) (bit_xor (over w q) z) ≡ steps (k + n) (bit_xor q r)

-- the number that words stand for, each of eight bytes
unfoldable pub number : List (List ℕ) → ℕ
number [] = 0
number (w ∷ ws) = over (word w) (number ws)

-- the register after the words, where z is pending
unfoldable pub register_after : List (List ℕ) → ℕ → ℕ
register_after ws z = steps (64 * length ws) (bit_xor (number ws) z)

-- xs is read with z pending, and r is pending after it, where at least n more come after: `after` is the register at the end
unfoldable pub Passed : {A : Type 0} → (List A → ℕ → ℕ) → ℕ → List A → ℕ → ℕ → Type 0
Passed {A} after n xs z r = (rest : List A) → n ≤ length rest → after (xs ++ rest) z ≡ after rest r

abbrev pub Far : List (List ℕ) → ℕ → ℕ → Type 0
Far = Passed register_after 5

-- x^31 + x^30 + x^27 + x^26 + x^23 + x^21 + x^19 + x^17 + x^7 + x^4 + x^3 + x^2 + x is x^96, up to a multiple of the polynomial
unfoldable pub fifth : ℕ → ℕ
fifth w =
    let u = bit_xor w (up 1 w) in
    let v = bit_xor u (up 4 u) in
    bit_xor (bit_xor (bit_xor (up 1 u) (up 3 u)) (up 7 w)) (bit_xor (bit_xor (up 17 v) (up 18 v)) (up 26 v))
