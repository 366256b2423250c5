-- What snapshots of one version have of their own: all else is said over a format. Assumes nothing.
use Rattle.std.specs.Prelude.{Bool, false, not, cond, List, ℕ, ◌+◌, ◌/◌, eqb}
use Rattle.carried.specs.Carried as C
use Rattle.keys.specs.Keys.{is_normal}

pub record Format : Type 0 where
  pub version : ℕ
  -- how many bytes a row carries
  pub width : ℕ
  -- what a row of this format cannot carry
  pub refuses : List ℕ → Bool

-- a row carries its collection, which is never interpreted
abbrev pub version1 : Format
version1 = record { version = 1; width = 8; refuses = λ c. false }

-- a row carries what the store keeps: its collection and its key (request 2026-06)
abbrev pub version2 : Format
version2 = record { version = 2; width = C.width; refuses = λ c. not (is_normal c) }

-- A reader says by which format a block is judged, from the version that the block names. It knows that version where the format is of it; else the
-- block is refused with 6.
abbrev pub Reader : Type 0
Reader = ℕ → Format

-- the reader of this library, and one built before 2026-06
unfoldable pub format_of : Reader
format_of v = cond (eqb v 2) version2 version1

abbrev pub format_before : Reader
format_before v = version1

-- a row is an id and a location of eight bytes each, and what it carries
abbrev pub row_length : Format → ℕ
row_length f = 16 + f.width

-- as many rows as a block has room for: 20 of version 1, 5 of version 2
unfoldable pub per_block : Format → ℕ
per_block f = 480 / row_length f
