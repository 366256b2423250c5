-- What a commit tests of a kept update. Nothing here has to be believed: proofs/Laws.antt shows that it says what the model says of a row.
-- Assumes nothing.
use Rattle.std.specs.Prelude.{Bool, true, false, ◌||◌, List, ℕ, get_or, Result, Ok, Err, ⊤}
use Rattle.refusal.specs.Refusals.{refusal, tables_disagree}
use Rattle.model.specs.Store.{Row}
use Rattle.tables.specs.Entries.{bad_in}
use Rattle.batch_kept.specs.Kept.{bad_kept_row}
use Rattle.refusal.specs.declared.Refusal.{Refusal}

-- the present location of an update's id cannot be its own
unfoldable pub not_own : ℕ → List ℕ → List ℕ → List ℕ → List ℕ → Row → Bool
not_own slots locations marks owners words r = bad_in slots marks owners words r.0 (get_or locations r.0 0)

-- what is said of update i where that is so, and where it is not
abbrev pub own_as : Bool → ℕ → Result ⊤ Refusal
own_as true i = Err (refusal tables_disagree i)
own_as false i = Ok tt

-- an update cannot be committed: it is out of range, or the id's present location cannot be its own
abbrev pub row_bad : ℕ → ℕ → List ℕ → List ℕ → List ℕ → List ℕ → Row → Bool
row_bad ids slots locations marks owners words r = bad_kept_row ids slots r || not_own slots locations marks owners words r
