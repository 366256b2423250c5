-- What is counted and written of marks. Assumes nothing.
use Rattle.std.specs.Prelude.{Bool, not, cond, List, ℕ, eqb, length}
use Rattle.marks.specs.Marks.{count_if, let_go}

-- whether a mark is this one
abbrev pub is_mark : ℕ → ℕ → Bool
is_mark mark m = eqb m mark

-- whether a list has one of them
unfoldable pub has_mark : ℕ → List ℕ → Bool
has_mark mark ms = not (eqb (count_if (is_mark mark) ms) 0)

-- whether a list has one that is not this one
unfoldable pub has_other : ℕ → List ℕ → Bool
has_other mark ms = not (eqb (count_if (is_mark mark) ms) (length ms))

-- each mark `old` becomes `new`
abbrev pub turned : ℕ → ℕ → ℕ → ℕ
turned old new m = cond (eqb m old) new m

-- a mark once what is pending is free, where a 0 counts as `z`
abbrev pub released : ℕ → ℕ → ℕ
released z m = let_go (turned 0 z m)
