-- Requests 2026-01 and 2026-06: the rows of a snapshot and their blocks of 512 bytes, over the format. Assumes nothing.
use Rattle.std.specs.Prelude.{Bool, true, false, not, cond, ◌&&◌, ◌||◌, List, [], ◌∷◌, ◌++◌, ℕ, zero, suc, ◌+◌, ◌-◌, ◌*◌, ◌/◌, ◌≤◌, ◌<◌, min, eqb, leb, ltb, length, get_or, take, drop, replicate, Option, Some, None}
use Rattle.refusal.specs.Refusals.{wrong_shape, check_differs, unknown_version, wrong_block}
use Rattle.refusal.specs.declared.Kind.{Kind}
use Rattle.list_parts.specs.Parts.{part}
use Rattle.little_endian.specs.LittleEndian.{bytes_of, get_at}
use Rattle.zeros.specs.Zeros.{all_zero}
use Rattle.seal.specs.Seal.{signed, is_signed}
use Rattle.snapshot_blocks.specs.Formats.{Format, row_length, per_block}
use Rattle.snapshot_blocks.specs.declared.Row.{Row}

-- ---- a row: an id, what it carries, a location
pub record Entry : Type 0 where
  pub id : ℕ
  pub carried : List ℕ
  pub location : ℕ

-- the row of id i in a table of locations and a column of carried bytes, of which each id has so many
abbrev pub entry_for : ℕ → List ℕ → List ℕ → ℕ → Entry
entry_for width locations carried i = record { id = i; carried = part width carried i; location = get_or locations i 0 }

-- each of these ids is a row of both tables
abbrev pub AreRows : ℕ → List ℕ → List ℕ → List ℕ → Type 0
AreRows width locations carried ids =
    (k : ℕ) → k < length ids → (get_or ids k 0 < length locations) × (get_or ids k 0 * width + width ≤ length carried)

-- the location stands after the first eight of the carried bytes
unfoldable pub row_bytes : Entry → List ℕ
row_bytes e = bytes_of 8 e.id ++ (take 8 e.carried ++ (bytes_of 8 e.location ++ drop 8 e.carried))

unfoldable pub rows_bytes : List Entry → List ℕ
rows_bytes [] = []
rows_bytes (e ∷ es) = row_bytes e ++ rows_bytes es

-- ---- a block: its number, how many rows, the version, the rows, zeros to 508, and the check
unfoldable pub block_body : Format → ℕ → List Entry → List ℕ
block_body f number rows =
    bytes_of 4 number ++ (bytes_of 2 (length rows) ++ (bytes_of 2 f.version
    ++ (rows_bytes rows ++ replicate (500 - length (rows_bytes rows)) 0)))

unfoldable pub block_of : Format → ℕ → List Entry → List ℕ
block_of f number rows = signed (block_body f number rows)

-- ---- what a block says
abbrev pub number_in : List ℕ → ℕ
number_in block = get_at 0 4 block

abbrev pub count_in : List ℕ → ℕ
count_in block = get_at 4 6 block

abbrev pub version_in : List ℕ → ℕ
version_in block = get_at 6 8 block

-- the row that these bytes start with
unfoldable pub entry_of : Format → List ℕ → Entry
entry_of f bytes =
    record {
      id = get_at 0 8 bytes;
      carried = take 8 (drop 8 bytes) ++ take (f.width - 8) (drop 24 bytes);
      location = get_at 16 24 bytes;
    }

-- so many rows, one after the other
unfoldable pub entries_in : Format → ℕ → List ℕ → List Entry
entries_in f zero bytes = []
entries_in f (suc n) bytes = entry_of f bytes ∷ entries_in f n (drop (row_length f) bytes)

unfoldable pub rows_in_block : Format → List ℕ → List Entry
rows_in_block f block = entries_in f (count_in block) (drop 8 block)

-- ---- when rows ascend strictly by id
unfoldable pub above : ℕ → List Entry → Bool
above before [] = true
above before (e ∷ es) = ltb before e.id && above e.id es

unfoldable pub ascending : List Entry → Bool
ascending [] = true
ascending (e ∷ es) = above e.id es

-- whether some row carries what the format refuses
unfoldable pub any_refused : Format → List Entry → Bool
any_refused f [] = false
any_refused f (e ∷ es) = f.refuses e.carried || any_refused f es

-- what lies between so many rows and the check
abbrev pub padding_after : Format → ℕ → List ℕ → List ℕ
padding_after f count block = take (508 - (8 + row_length f * count)) (drop (8 + row_length f * count) block)

-- how many rows the block at `number` may have: only the last may be short, and only an only one may be empty
unfoldable pub is_count : Format → ℕ → Bool → ℕ → Bool
is_count f number last count = cond last (leb count (per_block f) && (ltb 0 count || eqb number 0)) (eqb count (per_block f))

-- whether the block at `number` has its number, as many rows as it may have, zeros behind them, and rows that the format does not refuse, which ascend
unfoldable pub right_in : Format → ℕ → Bool → List ℕ → Bool
right_in f number last block =
    eqb (number_in block) number && (is_count f number last (count_in block) && (all_zero (padding_after f (count_in block) block)
    && (not (any_refused f (rows_in_block f block)) && ascending (rows_in_block f block))))

-- what is wrong in it by itself
unfoldable pub wrong_in : Format → ℕ → Bool → List ℕ → Option Kind
wrong_in f number last block =
    cond (not (is_signed block)) (Some check_differs)
    (cond (not (eqb (version_in block) f.version)) (Some unknown_version)
    (cond (not (right_in f number last block)) (Some wrong_block) None))

-- the same of bytes of any length: 1 where they are no 512
unfoldable pub judged_in : Format → ℕ → Bool → List ℕ → Option Kind
judged_in f number last block = cond (eqb (length block) 512) (wrong_in f number last block) (Some wrong_shape)

-- the id of the row at a place of a block
abbrev pub id_at : Format → ℕ → List ℕ → ℕ
id_at f k block = get_at (8 + row_length f * k) (8 + row_length f * k + 8) block

-- ---- the row at a place of a block, as the reader shows it
-- how long the key of a row is that these bytes start with; a format without keys has none
abbrev pub key_length_in : Format → List ℕ → ℕ
key_length_in f bytes = cond (ltb 8 f.width) (get_at 24 25 bytes) 0

-- the row that these bytes start with, and where its key stands
abbrev pub shown : Format → ℕ → List ℕ → Row
shown f key bytes =
    record { id = get_at 0 8 bytes; collection = get_at 8 16 bytes; location = get_at 16 24 bytes; key = key; length = key_length_in f bytes }

-- the key comes after three numbers and its length, in the block that starts at `base`
abbrev pub row_at : Format → ℕ → ℕ → List ℕ → Row
row_at f base k block = shown f (base + (8 + row_length f * k + 25)) (drop (8 + row_length f * k) block)

-- ---- when rows of the tables can be written to a block, by the lengths of both
-- how many ids have a row in both tables
abbrev pub rows_in_both : ℕ → ℕ → ℕ → ℕ
rows_in_both width locations carried = min locations (carried / width)

unfoldable pub each_below : ℕ → List ℕ → Bool
each_below rows [] = true
each_below rows (i ∷ ids) = ltb i rows && each_below rows ids

-- the block has room for the rows and its 512 bytes, and each id has a row in both tables
unfoldable pub can_write : Format → List ℕ → ℕ → ℕ → ℕ → Bool
can_write f ids locations carried block =
    leb (length ids) (per_block f) && (eqb block 512 && each_below (rows_in_both f.width locations carried) ids)
