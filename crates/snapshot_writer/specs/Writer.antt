-- What the writer reads of the lent tables, and how it puts a block. Nothing here has to be believed: proofs/LawsRead.antt shows that it
-- says what the model says of the store that the tables stand for. Assumes nothing.
use Rattle.std.specs.Prelude.{Bool, not, ◌&&◌, List, ◌++◌, ℕ, ◌+◌, ◌-◌, ◌*◌, eqb, get_or, take, drop}
use Rattle.snapshot_blocks.specs.Formats.{version2}
use Rattle.snapshot_blocks.specs.Blocks.{Entry, block_of}
use Rattle.tables.specs.Entries.{held_in, bad_in}
use Rattle.model.specs.Snapshots.{those_from}
use Rattle.snapshot_writer.specs.declared.Stored.{Stored}

-- a held id above 0 with a location
unfoldable pub stored_in : ℕ → List ℕ → List ℕ → List ℕ → ℕ → Bool
stored_in ids marks locations words i = held_in ids marks words i && not (eqb (get_or locations i 0) 0)

-- the same of the lent tables, and the ids with a row, from an id on and all
abbrev pub has_row : Stored → ℕ → Bool
has_row s = stored_in s.ids s.id_marks.now s.locations.now s.tallies.now

abbrev pub rows_after : Stored → ℕ → List ℕ
rows_after s from = those_from (has_row s) (s.ids - from) from

abbrev pub every_row : Stored → List ℕ
every_row s = those_from (has_row s) s.ids 0

-- whether an id's location cannot be its own
unfoldable pub not_own : ℕ → List ℕ → List ℕ → List ℕ → List ℕ → ℕ → Bool
not_own slots locations marks owners words i = bad_in slots marks owners words i (get_or locations i 0)

-- the file with a block put at its place
abbrev pub block_put : ℕ → List Entry → List ℕ → List ℕ
block_put number rows file = take (512 * number) file ++ (block_of version2 number rows ++ drop (512 * number + 512) file)
