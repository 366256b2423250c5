-- Requests 2026-01 and 2026-06: a whole snapshot read into lent lists, each block judged once. Assumes nothing.
use Rattle.std.specs.Prelude.{Bool, not, cond, ◌&&◌, List, ℕ, zero, suc, ◌+◌, ◌-◌, ◌*◌, ◌/◌, ◌%◌, eqb, leb, length, set, drop, ⊤, Result, Ok, Err}
use Rattle.refusal.specs.Refusals.{refusal, wrong_shape}
use Rattle.carried.specs.Carried.{width, put_row}
use Rattle.keys.specs.Keys.{brought}
use Rattle.snapshot_blocks.specs.Formats.{Format, Reader, format_of, row_length, per_block}
use Rattle.snapshot_blocks.specs.Blocks.{Entry, count_in, entry_of}
use Rattle.snapshot.specs.Snapshot.{block_at, is_place, unless_wrong, format_at, wrong_by}
use Rattle.refusal.specs.declared.Refusal.{Refusal}

-- that nothing is wrong with so many blocks from `number` on, or what is wrong with the first that is not right
unfoldable pub judged : Reader → List ℕ → ℕ → ℕ → Result ⊤ Refusal
judged reader file number zero = Ok tt
judged reader file number (suc n) = unless_wrong (wrong_by reader number file) number (judged reader file (suc number) n)

-- ---- the rows of a file whose blocks are right by a format: every block but the last is full
-- how many there are
unfoldable pub total : Format → List ℕ → ℕ
total f file = per_block f * (length file / 512 - 1) + count_in (block_at (length file / 512 - 1) file)

-- the one at p
unfoldable pub entry_at : Format → List ℕ → ℕ → Entry
entry_at f file p = entry_of f (drop (8 + row_length f * (p % per_block f)) (block_at (p / per_block f) file))

-- n rows from the p-th on are put into each list, what they carry in the form in which a rebuild takes it
unfoldable pub ids_from : Format → List ℕ → ℕ → ℕ → List ℕ → List ℕ
ids_from f file p zero ids = ids
ids_from f file p (suc n) ids = ids_from f file (suc p) n (set ids p (entry_at f file p).id)

unfoldable pub locations_from : Format → List ℕ → ℕ → ℕ → List ℕ → List ℕ
locations_from f file p zero locations = locations
locations_from f file p (suc n) locations = locations_from f file (suc p) n (set locations p (entry_at f file p).location)

unfoldable pub carried_from : Format → List ℕ → ℕ → ℕ → List ℕ → List ℕ
carried_from f file p zero carried = carried
carried_from f file p (suc n) carried = carried_from f file (suc p) n (put_row width carried p (brought (entry_at f file p).carried))

-- whether the lists have room for the rows of so many blocks
unfoldable pub is_room : Format → ℕ → ℕ → ℕ → ℕ → Bool
is_room f blocks ids locations carried = leb (per_block f * blocks) ids && (eqb locations ids && eqb carried (ids * width))

pub record ReadInto : Type 0 where
  pub answer : Result ℕ Refusal
  pub ids : List ℕ
  pub locations : List ℕ
  pub carried : List ℕ

abbrev pub refusing : Refusal → List ℕ → List ℕ → List ℕ → ReadInto
refusing r ids locations carried = record { answer = Err r; ids = ids; locations = locations; carried = carried }

-- the format of a file, by the version that its first block names; the room is asked for by it before the block is judged
abbrev pub format_in : List ℕ → Format
format_in file = format_at format_of 0 file

-- the rows in the lists where nothing is wrong with the file
abbrev pub read_judged : Result ⊤ Refusal → List ℕ → List ℕ → List ℕ → List ℕ → ReadInto
read_judged (Err r) file ids locations carried = refusing r ids locations carried
read_judged (Ok _) file ids locations carried =
    record {
      answer = Ok (total (format_in file) file);
      ids = ids_from (format_in file) file 0 (total (format_in file) file) ids;
      locations = locations_from (format_in file) file 0 (total (format_in file) file) locations;
      carried = carried_from (format_in file) file 0 (total (format_in file) file) carried;
    }

-- 1 for the file or the lists; then what is wrong with the first block that is not right; a refusal leaves the lists as they were
unfoldable pub read_into : List ℕ → List ℕ → List ℕ → List ℕ → ReadInto
read_into file ids locations carried =
    cond (not (is_place 0 (length file))) (refusing (refusal wrong_shape 0) ids locations carried)
    (cond (not (is_room (format_in file) (length file / 512) (length ids) (length locations) (length carried))) (refusing (refusal wrong_shape 0) ids locations carried)
    (read_judged (judged format_of file 0 (length file / 512)) file ids locations carried))
