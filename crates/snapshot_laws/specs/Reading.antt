-- What it is to read a file row by row from a position to its end. Assumes nothing.
use Rattle.std.specs.Prelude.{true, ◌≡◌, List, [], ◌∷◌, ◌++◌, map, ℕ, take, drop, Result, Ok, Option, Some}
use Rattle.little_endian.specs.LittleEndian.{word}
use Rattle.keys.specs.Keys.{key_of, brought}
use Rattle.snapshot_blocks.specs.Formats.{Format, Reader}
use Rattle.snapshot_blocks.specs.Blocks.{Entry, ascending}
use Rattle.snapshot_blocks.specs.Valid.{Valid, All}
use Rattle.snapshot_blocks.specs.declared.Row.{Row}
use Rattle.snapshot.specs.declared.Position.{Position}
use Rattle.snapshot_blocks.specs.Files.{file_of}
use Rattle.snapshot.specs.Snapshot.{step_by}
use Rattle.refusal.specs.declared.Refusal.{Refusal}

-- what a user sees of a row: its numbers, and the bytes of its key
pub record Shown : Type 0 where
  pub id : ℕ
  pub collection : ℕ
  pub location : ℕ
  pub key : List ℕ

-- of a row that the reader shows: the key stands in the file where it says
abbrev pub seen_in : List ℕ → Row → Shown
seen_in file r = record { id = r.id; collection = r.collection; location = r.location; key = take r.length (drop r.key file) }

-- and of a row that was written
abbrev pub shown_of : Entry → Shown
shown_of e = record { id = e.id; collection = word (take 8 e.carried); location = e.location; key = key_of e.carried }

abbrev pub position : ℕ → ℕ → Position
position block row = record { block = block; row = row }

-- the steps from a position show these rows, and then comes the step that is `stop`: the end, or a refusal, in the laws
pub data Reads (reader : Reader) (file : List ℕ) (stop : Result (Option (Row × Position)) Refusal) : Position → List Shown → Type 0 where
  ended : (at : Position) → step_by reader at.block at.row file ≡ stop → Reads reader file stop at []
  showed : (at next : Position) (r : Row) (rs : List Shown) → step_by reader at.block at.row file ≡ Ok (Some (r, next)) → Reads reader file stop next rs
      → Reads reader file stop at (seen_in file r ∷ rs)

-- a reader knows the version of this format
abbrev pub Knows : Reader → Format → Type 0
Knows reader f = reader f.version ≡ f

-- the format and the rows that a file was written from, where it shows these
pub record Was (reader : Reader) (file : List ℕ) (rs : List Shown) : Type 0 where
  pub format : Format
  pub known : Knows reader format
  pub rows : List Entry
  pub valid : All (Valid format) rows
  pub ordered : ascending rows ≡ true
  pub written : file ≡ file_of format rows
  pub read : rs ≡ map shown_of rows

-- the steps from a position stop, and not at a row
pub record Ends (reader : Reader) (file : List ℕ) (at : Position) : Type 0 where
  pub stop : Result (Option (Row × Position)) Refusal
  pub rows : List Shown
  pub reads : Reads reader file stop at rows
  pub final : (r : Row) (next : Position) → stop ≡ Ok (Some (r, next)) → ⊥

-- what the rows carry, one after the other, as a rebuild takes it
unfoldable pub brought_by : List Entry → List ℕ
brought_by [] = []
brought_by (e ∷ es) = brought e.carried ++ brought_by es
