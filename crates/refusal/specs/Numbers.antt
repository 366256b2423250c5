-- Which of the 256 numbers of a byte the documents give to no refusal. Assumes nothing.
use Rattle.std.specs.Prelude.{Bool, ◌&&◌, ◌||◌, ℕ, eqb, ltb}

-- 0, or past the 26 of the documents
abbrev pub is_unlisted : ℕ → Bool
is_unlisted n = eqb n 0 || (ltb 26 n && ltb n 256)
