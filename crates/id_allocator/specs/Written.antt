-- What is written of the lent marks where a number is given back. Assumes nothing.
use Rattle.std.specs.Prelude.{cond, List, ◌++◌, ℕ, ◌-◌, min, ltb, length, take, drop, set}
use Rattle.id_allocator.specs.Counted.{hinted}

-- From n up to the hint the marks are written as they count, so that the hint can fall to n.
abbrev pub opened : ℕ → ℕ → List ℕ → List ℕ
opened hint n ms = take n ms ++ hinted (hint - n) (drop n ms)

-- the marks once n is given back; as they were where n is at or past the length
unfoldable pub given_back : ℕ → ℕ → List ℕ → List ℕ
given_back hint n ms = cond (ltb n (length ms)) (set (opened hint n ms) n 0) ms

-- the hint once n is given back
unfoldable pub hint_back : ℕ → ℕ → List ℕ → ℕ
hint_back hint n ms = cond (ltb n (length ms)) (min hint n) hint
