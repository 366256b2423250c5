-- How the lent marks of one allocator count, with its two words. Below the hint a 0 counts as held, so that a search starts at the hint;
-- where the waiting word is 0 a 2 counts as held, so that a release passes the allocator over. Any marks and any words have a meaning.
-- Assumes nothing.
use Rattle.std.specs.Prelude.{cond, List, ◌++◌, map, ℕ, zero, suc, take, drop}
use Rattle.marks.specs.Marks.{is_pending, hold}

-- a pending mark becomes held
abbrev pub settle : ℕ → ℕ
settle m = cond (is_pending m) 1 m

-- below the hint no number is free
unfoldable pub hinted : ℕ → List ℕ → List ℕ
hinted hint ms = map hold (take hint ms) ++ drop hint ms

-- where nothing waits no number is pending
unfoldable pub quiet : ℕ → List ℕ → List ℕ
quiet zero ms = map settle ms
quiet (suc w) ms = ms

-- the marks as they count
unfoldable pub counted : ℕ → ℕ → List ℕ → List ℕ
counted hint waiting ms = quiet waiting (hinted hint ms)
