-- Where there is room, a whole list is copied. Assumes nothing.
use mathlib.Core.List.{List, ◌++◌}
use mathlib.Core.Path.{◌≡◌, ap, ◌∙◌}
use Prim.Native.Nat.{ℕ, ◌≤◌, min}
use native.Mathlib.Omega.{arith}
use lib.ListN.{length, take, drop}

pub copied_whole : (from to written : List ℕ) (n : ℕ) → n ≡ min (length from) (length to) → length from ≤ length to
    → written ≡ take n from ++ drop n to → written ≡ take (length from) from ++ drop (length from) to
copied_whole from to written n e h w =
    let all : n ≡ length from = omega arith in
    w ∙ ap (λ x. take x from ++ drop x to) all
