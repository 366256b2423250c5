-- Bytes that have to be zero: the gap between an object and its frame. Assumes nothing.
use Rattle.std.specs.Prelude.{Bool, true, false, List, [], ◌∷◌, ℕ, zero, suc}

-- whether every one is 0
unfoldable pub all_zero : List ℕ → Bool
all_zero [] = true
all_zero (zero ∷ bs) = all_zero bs
all_zero (suc b ∷ bs) = false
