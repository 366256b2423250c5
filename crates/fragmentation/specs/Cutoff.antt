-- Document 01, "Defrag and truncation": where a slab's defrag list starts. In f32, each operation rounded once. Assumes nothing.
use Rattle.std.specs.Prelude.{Bool, false, cond, ◌&&◌, ℕ, min, pos, Float}
use Rattle.std.specs.Float.Ieee as Ieee
use Rattle.std.specs.Float.{fin, binary32}

-- a count as an f32, and the quotient of two f32
abbrev pub float : ℕ → Float
float n = Ieee.of_int binary32 (pos n)

abbrev pub quotient : Float → Float → Float
quotient x y = Ieee.div binary32 x y

-- a fill ratio is finite, above 0 and at most 1
unfoldable pub is_ratio : Float → Bool
is_ratio r = Ieee.lt (fin false 0 (pos 0)) r && Ieee.le r (fin false 1 (pos 0))

-- the first slot to look at; the tip where none is: r ≤ live / tip, or live / r, cut to a whole number, at or past the tip
unfoldable pub cutoff : ℕ → ℕ → Float → ℕ
cutoff live tip r = cond (Ieee.le r (quotient (float live) (float tip))) tip (min tip (Ieee.to_unsigned 64 (quotient (float live) r)))
