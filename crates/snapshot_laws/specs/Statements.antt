-- Requests 2026-01 and 2026-06: what is written is read, and what is read was written. Statements; proofs/Stated.antt has the proofs, each under the
-- name said beside it. Assumes nothing.
use Rattle.std.specs.Prelude.{true, ◌≡◌, ◌≢◌, ◌⊎◌, List, [], map, ℕ, suc, ◌+◌, ◌*◌, ◌/◌, ◌^◌, ◌≤◌, ◌<◌, length, Ok, Err, Some, None}
use Rattle.refusal.specs.declared.Refusal.{Refusal}
use Rattle.refusal.specs.Refusals.{refusal, unknown_version, wrong_block}
use Rattle.little_endian.specs.LittleEndian.{Bytes}
use Rattle.carried.specs.Carried.{width}
use Rattle.seal.specs.Seal.{is_signed}
use Rattle.snapshot_blocks.specs.Formats.{Format, Reader, format_of, format_before, version1, version2, per_block}
use Rattle.snapshot_blocks.specs.Blocks.{Entry, ascending, version_in}
use Rattle.snapshot_blocks.specs.Valid.{Sound, Valid, All}
use Rattle.snapshot_blocks.specs.Files.{file_of, full_blocks}
use Rattle.snapshot_blocks.specs.declared.Row.{Row}
use Rattle.snapshot.specs.declared.Position.{Position}
use Rattle.snapshot.specs.Snapshot.{block_at, is_place, format_at, wrong_by, step_by}
use Rattle.snapshot_lists.specs.Lists.{format_in, is_room, read_into}
use Rattle.snapshot_laws.specs.Reading.{shown_of, position, Reads, Knows, Was, Ends}
use Rattle.snapshot_laws.specs.Lent.{entries_from, Lent, Holds, Wrote}

-- ---- 1. row by row, over every reader and every format that it knows

-- what is written is read back, row for row, with its key, and then comes the end (read_back)
abbrev pub ReadBack : Type 0
ReadBack =
    (reader : Reader) (f : Format) → Knows reader f → Sound f → (rows : List Entry) → length rows < 2 ^ 32 → All (Valid f) rows →
    ascending rows ≡ true → Reads reader (file_of f rows) (Ok None) (position 0 0) (map shown_of rows)

-- a file of bytes that is read to its end is what writing its rows gives, in a format that the reader knows (read_exactly)
abbrev pub ReadExactly : Type 0
ReadExactly =
    (reader : Reader) → ((v : ℕ) → Sound (reader v)) → (file : List ℕ) → Bytes file → (rs : List _) →
    Reads reader file (Ok None) (position 0 0) rs → Was reader file rs

-- reading never goes on for ever: from every position of every file the steps stop (read_ends)
abbrev pub ReadEnds : Type 0
ReadEnds = (reader : Reader) (file : List ℕ) (at : Position) → Ends reader file at

-- each step's position is further on: the next row of the block, or the start of the next block (further)
abbrev pub Further : Type 0
Further =
    (reader : Reader) (block row : ℕ) (file : List ℕ) (r : Row) (at : Position) → step_by reader block row file ≡ Ok (Some (r, at)) →
    (at ≡ position block (row + 1)) ⊎ (at ≡ position (block + 1) 0)

-- ---- 2. versions

-- a file mixes no versions: a block of a version that the reader knows, after one of another, is refused with 19, whichever of its rows is asked
-- for (versions_apart)
abbrev pub VersionsApart : Type 0
VersionsApart =
    (reader : Reader) (before row : ℕ) (file : List ℕ) → is_place (suc before) (length file) ≡ true →
    is_signed (block_at (suc before) file) ≡ true →
    (format_at reader (suc before) file).version ≡ version_in (block_at (suc before) file) →
    version_in (block_at before file) ≢ version_in (block_at (suc before) file) →
    step_by reader (suc before) row file ≡ Err (refusal wrong_block (suc before))

-- so a reading from the start shows the rows of the blocks before the first of another version, and stops there with 19 (mixed_stops); and the call that
-- fills lists answers this 19 where they have room (mixed_lists)
abbrev pub MixedStops : Type 0
MixedStops =
    (reader : Reader) → ((v : ℕ) → Sound (reader v)) → (before : ℕ) (file : List ℕ) → ((j : ℕ) → j ≤ before → wrong_by reader j file ≡ None) →
    is_place (suc before) (length file) ≡ true → is_signed (block_at (suc before) file) ≡ true →
    (format_at reader (suc before) file).version ≡ version_in (block_at (suc before) file) →
    version_in (block_at before file) ≢ version_in (block_at (suc before) file) →
    Reads reader file (Err (refusal wrong_block (suc before))) (position 0 0)
    (map shown_of (entries_from (format_at reader 0 file) file 0 (per_block (format_at reader 0 file) * suc before)))

abbrev pub MixedLists : Type 0
MixedLists =
    (before : ℕ) (file ids locations carried : List ℕ) → ((j : ℕ) → j ≤ before → wrong_by format_of j file ≡ None) →
    is_place (suc before) (length file) ≡ true → is_signed (block_at (suc before) file) ≡ true →
    (format_at format_of (suc before) file).version ≡ version_in (block_at (suc before) file) →
    version_in (block_at before file) ≢ version_in (block_at (suc before) file) →
    is_room (format_in file) (length file / 512) (length ids) (length locations) (length carried) ≡ true →
    (read_into file ids locations carried).answer ≡ Err (refusal wrong_block (suc before))

-- a block of a version that the reader does not know is refused with 6, in every file and wherever it stands, whichever of its rows is asked for
-- (unknown_version)
abbrev pub UnknownVersion : Type 0
UnknownVersion =
    (reader : Reader) (number row : ℕ) (file : List ℕ) → is_place number (length file) ≡ true → is_signed (block_at number file) ≡ true →
    (format_at reader number file).version ≢ version_in (block_at number file) →
    step_by reader number row file ≡ Err (refusal unknown_version number)

-- so a reader shows nothing of a file in such a version: reading it from the start stops with 6 (unknown_file), and so does the reader built before
-- on every file of version 2 (unknown_before)
abbrev pub UnknownFile : Type 0
UnknownFile =
    (reader : Reader) (f : Format) → Sound f → (reader f.version).version ≢ f.version → (rows : List Entry) → length rows < 2 ^ 32 →
    All (Valid f) rows → Reads reader (file_of f rows) (Err (refusal unknown_version 0)) (position 0 0) []

abbrev pub UnknownBefore : Type 0
UnknownBefore =
    (rows : List Entry) → length rows < 2 ^ 32 → All (Valid version2) rows →
    Reads format_before (file_of version2 rows) (Err (refusal unknown_version 0)) (position 0 0) []

-- what the laws ask of a reader and of a format holds of ours: every format of this library's reader is sound, it knows versions 1 and 2, and the
-- reader built before knows version 1 (readers_know)
abbrev pub ReadersKnow : Type 0
ReadersKnow = ((v : ℕ) → Sound (format_of v)) × Knows format_of version1 × Knows format_of version2 × Knows format_before version1

-- ---- 3. whole, into lent lists

-- what is written in a version that this library knows is read into lists that have room for as many rows as fit its blocks, and they start with its
-- rows (lists_read)
abbrev pub ListsRead : Type 0
ListsRead =
    (f : Format) → Knows format_of f → (rows : List Entry) → length rows < 2 ^ 32 → All (Valid f) rows → ascending rows ≡ true →
    (ids locations carried : List ℕ) → per_block f * (full_blocks f (length rows) + 1) ≤ length ids → length locations ≡ length ids →
    length carried ≡ length ids * width →
    Holds rows (read_into (file_of f rows) ids locations carried)

-- a file of bytes that is read into lists is what writing some rows gives, and the lists start with them (lists_exactly)
abbrev pub ListsExactly : Type 0
ListsExactly =
    (file ids locations carried : List ℕ) (n : ℕ) → Bytes file → (read_into file ids locations carried).answer ≡ Ok n →
    Wrote file (read_into file ids locations carried)

-- it shows what the steps show: where it answers n rows these are n rows and then the end (lists_as_steps), and where it refuses a block
-- these are the rows of the blocks before it, and then the same refusal (lists_stop)
abbrev pub ListsAsSteps : Type 0
ListsAsSteps =
    (file ids locations carried : List ℕ) (n : ℕ) → (read_into file ids locations carried).answer ≡ Ok n →
    Lent file ids locations carried (read_into file ids locations carried) n

abbrev pub ListsStop : Type 0
ListsStop =
    (file ids locations carried : List ℕ) (r : Refusal) → is_place 0 (length file) ≡ true →
    is_room (format_in file) (length file / 512) (length ids) (length locations) (length carried) ≡ true →
    (read_into file ids locations carried).answer ≡ Err r →
    Reads format_of file (Err r) (position 0 0) (map shown_of (entries_from (format_in file) file 0 (per_block (format_in file) * r.index)))
