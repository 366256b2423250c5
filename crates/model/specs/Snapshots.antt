-- Requests 2026-01 and 2026-06: the rows that a snapshot of the store has, and its bytes, which are of version 2. Assumes nothing.
use Rattle.std.specs.Prelude.{Bool, not, cond, ◌&&◌, List, [], ◌∷◌, map, ℕ, zero, suc, eqb, length}
use Rattle.refusal.specs.Refusals.{tables_disagree}
use Rattle.snapshot_blocks.specs.Formats.{version2}
use Rattle.snapshot_blocks.specs.Blocks.{Entry, entry_for}
use Rattle.snapshot_blocks.specs.Files.{file_of, file_length}
use Rattle.carried.specs.Carried.{width}
use Rattle.model.specs.Store.{Store}
use Rattle.model.specs.Verdict.{Verdict, ok, ◌⨾◌, test}
use Rattle.model.specs.Tables.{location_of, held_id}

-- a held id above 0 with a location has a row
abbrev pub is_stored : Store → ℕ → Bool
is_stored s i = held_id s i && not (eqb (location_of s i) 0)

-- of n numbers from i on those of which a test holds
unfoldable pub those_from : (ℕ → Bool) → ℕ → ℕ → List ℕ
those_from p zero i = []
those_from p (suc n) i = cond (p i) (i ∷ those_from p n (suc i)) (those_from p n (suc i))

-- the ids of the rows, ascending
abbrev pub stored_ids : Store → List ℕ
stored_ids s = those_from (is_stored s) s.ids 0

abbrev pub entries_of : Store → List Entry
entries_of s = map (entry_for width s.locations s.carried) (stored_ids s)

-- the file, and its length
abbrev pub snapshot_of : Store → List ℕ
snapshot_of s = file_of version2 (entries_of s)

abbrev pub snapshot_bytes : Store → ℕ
snapshot_bytes s = file_length version2 (length (stored_ids s))

-- per row, of which i is the index: whether its id's location is bad
unfoldable pub snapshot_rows : (ℕ → Bool) → ℕ → List ℕ → Verdict
snapshot_rows bad i [] = ok
snapshot_rows bad i (x ∷ xs) = test (bad x) tables_disagree i ⨾ snapshot_rows bad (suc i) xs
