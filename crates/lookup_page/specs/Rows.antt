-- The rows of a page in what the code reads, and how it writes them, one after the other. Nothing of it has to be believed: proofs/Laws.antt shows that it
-- is what the model says. Assumes nothing.
use Rattle.std.specs.Prelude.{List, [], ◌∷◌, ℕ, suc, get_or, set, replicate, Result, Ok, Err}
use Rattle.carried.specs.Carried.{width, row_in, put_row}
use Rattle.lookup.specs.Lookup.{located_as, looked_in}
use Rattle.model.specs.Store.{Told}
use Rattle.refusal.specs.Refusals.{number_of}
use Rattle.refusal.specs.declared.Refusal.{Refusal}

-- what is told where a lookup answers this, and the id has this row
abbrev pub told_as : Result ℕ Refusal → List ℕ → Told
told_as (Ok location) row = record { number = 0; location = location; carried = row }
told_as (Err r) row = record { number = number_of r.kind; location = 0; carried = replicate width 0 }

unfoldable pub told_in : ℕ → ℕ → List ℕ → List ℕ → List ℕ → List ℕ → List ℕ → List ℕ → ℕ → Told
told_in ids slots id_marks locations slot_marks owners words carried i =
    told_as (located_as (looked_in ids slots id_marks locations slot_marks owners words i) (get_or locations i 0)) (row_in width carried i)

-- one row of each list
abbrev pub put_number : List ℕ → ℕ → Told → List ℕ
put_number t p x = set t p x.number

abbrev pub put_location : List ℕ → ℕ → Told → List ℕ
put_location t p x = set t p x.location

abbrev pub put_carried : List ℕ → ℕ → Told → List ℕ
put_carried t p x = put_row width t p x.carried

-- and rows from p on
unfoldable pub written : (List ℕ → ℕ → Told → List ℕ) → List ℕ → ℕ → List Told → List ℕ
written put t p [] = t
written put t p (x ∷ xs) = written put (put t p x) (suc p) xs
