-- Document 01's number and values for each answer, and the lists that a call is lent for it. Assumes nothing.
use Rattle.std.specs.Prelude.{List, [], ◌∷◌, ◌++◌, map, ℕ, zero, suc, length, drop}
use Rattle.refusal.specs.Outcomes.{Values, granted, refused}
use Rattle.model.specs.Store.{Sums, Cut, keep, cut, Told, Standing, Reason, not_stored, full_enough, before_line, listed}
use Rattle.model.specs.Store.{Grant, done, gave, found, told, placed, counts, moves, because, wrote, truncated, Answer}
use Rattle.model.specs.Tables.{ids_of, locations_of}

abbrev pub sum_values : Sums → List ℕ
sum_values z = z.objects_allocated ∷ z.objects_freed ∷ z.heap_slots_allocated ∷ z.heap_slots_freed ∷ []

-- 1, the new length and the bytes given back; three zeros where the file is kept
abbrev pub cut_values : Cut → List ℕ
cut_values keep = 0 ∷ 0 ∷ 0 ∷ []
cut_values (cut n b) = 1 ∷ n ∷ b ∷ []

-- the number of a reason; slab, slot, smaller slots in use, live slots and tip; and the line
abbrev pub standing_values : ℕ → Standing → ℕ → List ℕ
standing_values n w line = n ∷ w.slab ∷ w.slot ∷ w.smaller ∷ w.live ∷ w.tip ∷ line ∷ []

-- in document 02's order; zeros where nothing is stored, and for the line where there is none
abbrev pub reason_values : Reason → List ℕ
reason_values not_stored = 0 ∷ 0 ∷ 0 ∷ 0 ∷ 0 ∷ 0 ∷ 0 ∷ []
reason_values (full_enough w) = standing_values 1 w 0
reason_values (before_line w line) = standing_values 2 w line
reason_values (listed w line) = standing_values 3 w line

abbrev pub values_of : Grant → List ℕ
values_of done = []
values_of (gave n) = n ∷ []
values_of (found l c) = l ∷ []
values_of (told ts) = []
values_of (placed ls) = []
values_of (counts g f z) = sum_values z
-- how many there are
values_of (moves ms) = length ms ∷ []
values_of (because g) = reason_values g
values_of (wrote bytes) = []
values_of (truncated c) = cut_values c

-- what a page is told, list by list
abbrev pub told_numbers : List Told → List ℕ
told_numbers ts = map (λ (t : Told). t.number) ts

abbrev pub told_locations : List Told → List ℕ
told_locations ts = map (λ (t : Told). t.location) ts

abbrev pub told_carried : List Told → List ℕ
told_carried [] = []
told_carried (t ∷ ts) = t.carried ++ told_carried ts

-- the rows of each list that is lent for the answer
abbrev pub lists_of : Grant → List (List ℕ)
lists_of done = []
lists_of (gave n) = []
lists_of (found l c) = c ∷ []
lists_of (told ts) = told_numbers ts ∷ told_locations ts ∷ told_carried ts ∷ []
lists_of (placed ls) = ls ∷ []
lists_of (counts g f z) = g ∷ f ∷ []
lists_of (moves ms) = ids_of ms ∷ locations_of ms ∷ []
lists_of (because g) = []
lists_of (wrote bytes) = bytes ∷ []
lists_of (truncated c) = []

abbrev pub outcome_of : Answer → Values
outcome_of (granted g) = granted (values_of g)
outcome_of (refused n i) = refused n i

-- ---- the lent lists after a call

-- rows written over the first of a lent list; those past them keep what they held
abbrev pub over : List ℕ → List ℕ → List ℕ
over xs t = xs ++ drop (length xs) t

-- the k-th of some lists; none where there are fewer
abbrev pub nth : ℕ → List (List ℕ) → List ℕ
nth k [] = []
nth zero (xs ∷ xss) = xs
nth (suc k) (xs ∷ xss) = nth k xss

-- the k-th lent list after an answer: a refusal leaves it
abbrev pub list_in : ℕ → Answer → List ℕ → List ℕ
list_in k (granted g) lent = over (nth k (lists_of g)) lent
list_in k (refused n i) lent = lent
