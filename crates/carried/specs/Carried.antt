-- Requests 2026-01 and 2026-06: what a row of the store carries beside its location; crate keys says its form. The bytes stand in one column: a row of so
-- many bytes for each id, and then one for each kept update. All but `width` is over any number of bytes. Assumes nothing.
use Rattle.std.specs.Prelude.{cond, ◌&&◌, List, [], ◌∷◌, ◌++◌, ℕ, zero, suc, ◌+◌, ◌*◌, leb, eqb, length, take, drop, replicate}
use Rattle.list_parts.specs.Parts.{part, put_part}

-- how many bytes a row carries: the collection and the key (crate keys)
abbrev pub width : ℕ
width = 80

-- row i; nothing where the column has no such row
unfoldable pub row_in : ℕ → List ℕ → ℕ → List ℕ
row_in w t i = cond (leb (i * w + w) (length t)) (part w t i) []

-- row i, stored whole; a column without such a row stays as it is
unfoldable pub put_row : ℕ → List ℕ → ℕ → List ℕ → List ℕ
put_row w t i r = cond (leb (i * w + w) (length t) && eqb (length r) w) (put_part w t i r) t

-- rows that stand one after the other, stored in order, each at its number
unfoldable pub put_rows : ℕ → List ℕ → List ℕ → List ℕ → List ℕ
put_rows w [] bytes t = t
put_rows w (i ∷ is) bytes t = put_rows w is (drop w bytes) (put_row w t i (take w bytes))

-- and the rows of these numbers, one after the other
unfoldable pub rows_at : ℕ → List ℕ → List ℕ → List ℕ
rows_at w t [] = []
rows_at w t (i ∷ is) = part w t i ++ rows_at w t is

-- n numbers from k on
unfoldable pub up_from : ℕ → ℕ → List ℕ
up_from k zero = []
up_from k (suc n) = k ∷ up_from (suc k) n

-- what a kept update, whose own row is row k, leaves its id with: its row; a Free, which has no location, zeros
unfoldable pub kept_row : ℕ → List ℕ → ℕ → ℕ → List ℕ
kept_row w t k zero = replicate w 0
kept_row w t k (suc l) = part w t k

-- kept updates, each an id and a location, in list order; the own row of the first is row k
unfoldable pub committed : ℕ → ℕ → List (ℕ × ℕ) → List ℕ → List ℕ
committed w k [] t = t
committed w k (r ∷ rs) t = committed w (suc k) rs (put_row w t r.0 (kept_row w t k r.1))
