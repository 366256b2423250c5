-- What the lists hold after a whole reading. Assumes nothing.
use Rattle.std.specs.Prelude.{true, ◌≡◌, List, [], ◌∷◌, ◌++◌, map, ℕ, zero, suc, ◌*◌, length, take, drop, Ok, None}
use Rattle.carried.specs.Carried.{width}
use Rattle.snapshot_blocks.specs.Formats.{Format, format_of}
use Rattle.snapshot_blocks.specs.Blocks.{Entry, ascending}
use Rattle.snapshot_blocks.specs.Valid.{Valid, All}
use Rattle.snapshot_blocks.specs.Files.{file_of}
use Rattle.snapshot_lists.specs.Lists.{entry_at, format_in, ReadInto}
use Rattle.snapshot_laws.specs.Reading.{shown_of, position, Reads, Knows, brought_by}

-- ---- by the steps
-- n rows of a file from the p-th on
unfoldable pub entries_from : Format → List ℕ → ℕ → ℕ → List Entry
entries_from f file p zero = []
entries_from f file p (suc n) = entry_at f file p ∷ entries_from f file (suc p) n

-- the lists start with these rows, and then hold what they held
pub record Starts (es : List Entry) (ids locations carried : List ℕ) (t : ReadInto) : Type 0 where
  pub ids_hold : t.ids ≡ map (λ (e : Entry). e.id) es ++ drop (length es) ids
  pub locations_hold : t.locations ≡ map (λ (e : Entry). e.location) es ++ drop (length es) locations
  pub carried_hold : t.carried ≡ brought_by es ++ drop (length es * width) carried

-- where it answers n rows, the steps show these n rows and end, and the lists start with them
pub record Lent (file ids locations carried : List ℕ) (t : ReadInto) (n : ℕ) : Type 0 where
  pub reads : Reads format_of file (Ok None) (position 0 0) (map shown_of (entries_from (format_in file) file 0 n))
  pub starts : Starts (entries_from (format_in file) file 0 n) ids locations carried t

-- ---- by the rows that were written
-- the reading answers how many rows there are, and the lists start with them
pub record Holds (es : List Entry) (t : ReadInto) : Type 0 where
  pub answered : t.answer ≡ Ok (length es)
  pub ids_held : take (length es) t.ids ≡ map (λ (e : Entry). e.id) es
  pub locations_held : take (length es) t.locations ≡ map (λ (e : Entry). e.location) es
  pub carried_held : take (length es * width) t.carried ≡ brought_by es

-- the format and the rows that a file was written from, and the lists start with them
pub record Wrote (file : List ℕ) (t : ReadInto) : Type 0 where
  pub format : Format
  pub known : Knows format_of format
  pub rows : List Entry
  pub valid : All (Valid format) rows
  pub ordered : ascending rows ≡ true
  pub written : file ≡ file_of format rows
  pub holds : Holds rows t
