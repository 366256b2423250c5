-- Document 01, "Ids, slots, pending": each number is free, held or pending, and has a mark. Assumes nothing.
use Rattle.std.specs.Prelude.{Bool, not, cond, ◌||◌, List, [], ◌∷◌, ℕ, zero, suc, ◌+◌, eqb, drop}

abbrev pub is_free : ℕ → Bool
is_free m = eqb m 0

abbrev pub is_pending : ℕ → Bool
is_pending m = eqb m 2

-- a mark that is none of free, held and pending counts as held
abbrev pub is_held : ℕ → Bool
is_held m = not (is_free m || is_pending m)

abbrev pub is_taken : ℕ → Bool
is_taken m = not (is_free m)

-- the number of the first free mark; the length where there is none
abbrev pub first_free : List ℕ → ℕ
first_free [] = 0
first_free (zero ∷ ms) = 0
first_free (suc m ∷ ms) = suc (first_free ms)

-- the smallest free number that is at least `from`; where there is none, the length
abbrev pub smallest_free : ℕ → List ℕ → ℕ
smallest_free from ms = from + first_free (drop from ms)

abbrev pub count_if : (ℕ → Bool) → List ℕ → ℕ
count_if p [] = 0
count_if p (m ∷ ms) = cond (p m) (suc (count_if p ms)) (count_if p ms)

-- one more mark, m, in front of marks whose last taken is at n - 1 (0: none)
abbrev pub above : ℕ → ℕ → ℕ
above zero zero = 0
above zero (suc m) = 1
above (suc n) m = suc (suc n)

-- the largest number not free, plus 1; 0 where all are free
abbrev pub last_taken : List ℕ → ℕ
last_taken [] = 0
last_taken (m ∷ ms) = above (last_taken ms) m

-- where all are free the tip is 1 if any number was ever allocated, or held by a rebuild row: the used word is not 0 then
abbrev pub tip_of : ℕ → ℕ → ℕ
tip_of zero zero = 0
tip_of zero (suc used) = 1
tip_of (suc n) used = suc n

abbrev pub tip : List ℕ → ℕ → ℕ
tip ms used = tip_of (last_taken ms) used

-- a free mark becomes held
abbrev pub hold : ℕ → ℕ
hold zero = 1
hold (suc m) = suc m

-- a pending mark becomes free
abbrev pub let_go : ℕ → ℕ
let_go m = cond (is_pending m) 0 m
