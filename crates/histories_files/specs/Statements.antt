-- Demand 3 as a theorem about files, over all histories. The proof stands in proofs/Files.antt. Assumes nothing.
use Rattle.std.specs.Prelude.{◌≡◌, true, ℕ, ◌+◌, ◌-◌, ◌*◌, ◌/◌, ◌^◌, ◌≤◌, ◌<◌, length, take, replicate, Ok}
use mathlib.Core.List.{List, ◌++◌, map, Memᴰ}
use Rattle.refusal.specs.Refusals.{key_too_long}
use Rattle.refusal.specs.Outcomes.{granted}
use Rattle.little_endian.specs.LittleEndian.{Bytes}
use Rattle.carried.specs.Carried.{width}
use Rattle.keys.specs.Keys.{long_in, all_stored}
use Rattle.snapshot_blocks.specs.Formats.{version1, version2}
use Rattle.snapshot_blocks.specs.Blocks.{Entry, ascending}
use Rattle.snapshot_blocks.specs.Valid.{Valid, All}
use Rattle.snapshot_blocks.specs.Files.{file_of, file_length}
use Rattle.snapshot_lists.specs.Lists.{ReadInto, read_into}
use Rattle.model.specs.Store.{Store, Rows, Call, rebuild, ask, lookup, found, snapshot, wrote}
use Rattle.model.specs.Verdict.{ok, tests_from}
use Rattle.model.specs.Rebuild.{fresh_store}
use Rattle.model.specs.Tables.{capacities}
use Rattle.model.specs.Lending.{sized}
use Rattle.model.specs.Snapshots.{stored_ids, snapshot_of, snapshot_bytes}
use Rattle.model.specs.Step.{refusal, answer, next, state}
use Rattle.histories.specs.Statements.{AtRest, answers}

-- the first n rows of what reading a file into lists left in them
abbrev pub rows_read : ℕ → ReadInto → Rows
rows_read n t = record { ids = take n t.ids; locations = take n t.locations; carried = take (n * width) t.carried }

-- what the three calls give, one after the other
pub record CarriedOver (s memory : Store) (file : List ℕ) (t : ReadInto) : Type 0 where
  -- the snapshot is written into every lent file of its length
  pub written : answer s (ask (snapshot file)) ≡ granted (wrote (snapshot_of s))
  -- it is read to its end, with as many rows as the store has
  pub read : t.answer ≡ Ok (length (stored_ids s))
  -- a rebuild from what was read is granted, and no later answer differs
  pub rebuilt : refusal memory (rebuild (rows_read (length (stored_ids s)) t)) ≡ ok
  pub agrees : (later : List Call) → answers (next memory (rebuild (rows_read (length (stored_ids s)) t))) later ≡ answers s later

-- (Files.snapshot_agrees) of every store at rest, into any lists that have room for 5 rows a block, and in any memory of the same
-- capacities. What rows carry is lent as bytes, so the column holds bytes.
abbrev pub SnapshotAgrees : Type 0
SnapshotAgrees =
    (n m : ℕ) (h : List Call) (file ids locations carried : List ℕ) (memory : Store) →
    capacities n m ≡ true → AtRest (state n m h) → Bytes (state n m h).carried → length file ≡ snapshot_bytes (state n m h) →
    5 * (length file / 512) ≤ length ids → length locations ≡ length ids → length carried ≡ length ids * width →
    memory.ids ≡ n → memory.slots ≡ m → sized memory ≡ true →
    CarriedOver (state n m h) memory file (read_into (snapshot_of (state n m h)) ids locations carried)

-- (Examples.snapshot_met) some history meets the conditions: at rest, with bytes in the column, and with two rows
abbrev pub SnapshotMet : Type 0
SnapshotMet =
    (h : List Call) × AtRest (state 9 4 h) × Bytes (state 9 4 h).carried × (length (stored_ids (state 9 4 h)) ≡ 2) ×
    (snapshot_bytes (state 9 4 h) ≡ 512)

-- (Files.version1_opens) what was stored with snapshots of version 1 opens: no key of its rows is too long for a rebuild, and a store that is rebuilt from
-- such a file finds every row of it, with its location, its collection and an empty key. Its next snapshot is of version 2, and has just these rows.
abbrev pub without_key : Entry → List ℕ
without_key e = e.carried ++ replicate 72 0

abbrev pub unkeyed : Entry → Entry
unkeyed e = record { id = e.id; carried = without_key e; location = e.location }

pub record Opened (es : List Entry) (rs : Rows) : Type 0 where
  pub short : tests_from key_too_long 0 (long_in (all_stored rs.ids) rs.carried) ≡ ok
  -- in any memory in which the rebuild is granted, and into any lent row
  pub finds : (memory : Store) → refusal memory (rebuild rs) ≡ ok → (e : Entry) → Memᴰ e es → (row : List ℕ) → length row ≡ width →
      answer (next memory (rebuild rs)) (ask (lookup e.id row)) ≡ granted (found e.location (without_key e))
  pub snaps : (memory : Store) → refusal memory (rebuild rs) ≡ ok → (file : List ℕ) → length file ≡ file_length version2 (length es) →
      answer (next memory (rebuild rs)) (ask (snapshot file)) ≡ granted (wrote (file_of version2 (map unkeyed es)))

abbrev pub Version1Opens : Type 0
Version1Opens =
    (es : List Entry) → length es < 2 ^ 32 → All (Valid version1) es → ascending es ≡ true → (ids locations carried : List ℕ) →
    20 * ((length es - 1) / 20 + 1) ≤ length ids → length locations ≡ length ids → length carried ≡ length ids * width →
    Opened es (rows_read (length es) (read_into (file_of version1 es) ids locations carried))

-- (Examples.version1_met) some rows meet the conditions, and a rebuild from what is read of their file is granted
abbrev pub Version1Met : Type 0
Version1Met =
    (es : List Entry) × (length es ≡ 2) × All (Valid version1) es × (ascending es ≡ true) ×
    (refusal (fresh_store 9 4) (rebuild (rows_read 2 (read_into (file_of version1 es) (replicate 20 0) (replicate 20 0) (replicate (20 * width) 0)))) ≡ ok)
