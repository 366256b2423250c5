-- Requests 2026-01 and 2026-06: a file of blocks, and how it is read row by row, over the format and over the reader. Assumes nothing.
use Rattle.std.specs.Prelude.{Bool, not, cond, ◌&&◌, List, ℕ, ◌+◌, ◌-◌, ◌*◌, ◌/◌, ◌%◌, eqb, ltb, length, take, drop, Result, Ok, Err, Option, Some, None}
use Rattle.refusal.specs.Refusals.{refusal, wrong_shape, wrong_block}
use Rattle.snapshot_blocks.specs.Formats.{Format, Reader, per_block}
use Rattle.snapshot_blocks.specs.declared.Row.{Row}
use Rattle.snapshot_blocks.specs.Blocks.{count_in, version_in, wrong_in, id_at, row_at}
use Rattle.snapshot.specs.declared.Position.{Position}
use Rattle.refusal.specs.declared.Kind.{Kind}
use Rattle.refusal.specs.declared.Refusal.{Refusal}

-- ---- blocks
abbrev pub block_at : ℕ → List ℕ → List ℕ
block_at number file = take 512 (drop (512 * number) file)

-- a whole number of blocks, and this is one of them
unfoldable pub is_place : ℕ → ℕ → Bool
is_place number len = eqb (len % 512) 0 && ltb number (len / 512)

abbrev pub is_last : ℕ → List ℕ → Bool
is_last number file = eqb (512 * number + 512) (length file)

-- whether the block before is of the same version, and its last row, of a full block, has a smaller id than the first of this one
unfoldable pub follows : Format → List ℕ → List ℕ → Bool
follows f before block = eqb (version_in before) f.version && ltb (id_at f (per_block f - 1) before) (id_at f 0 block)

-- what the first names, and where it names nothing what the second does
abbrev pub or_else : Option Kind → Option Kind → Option Kind
or_else (Some kind) next = Some kind
or_else None next = next

-- what is wrong with the block at `number` of a file
unfoldable pub wrong_at : Format → ℕ → List ℕ → Option Kind
wrong_at f number file =
    cond (not (is_place number (length file))) (Some wrong_shape)
    (or_else (wrong_in f number (is_last number file) (block_at number file))
    (cond (eqb number 0) None
    (cond (follows f (block_at (number - 1) file) (block_at number file)) None (Some wrong_block))))

-- the place after a row: in the same block while it has rows, and at the end of the last
unfoldable pub next_position : ℕ → ℕ → ℕ → Bool → Position
next_position number row count last =
    cond (ltb (row + 1) count) (record { block = number; row = row + 1 })
    (cond last (record { block = number; row = row + 1 })
    (record { block = number + 1; row = 0 }))

-- the row at a place of a block that is right and the next position, the end, or 1 for a place that is none
unfoldable pub step_in : Format → ℕ → ℕ → Bool → List ℕ → Result (Option (Row × Position)) Refusal
step_in f number row last block =
    cond (ltb row (count_in block)) (Ok (Some ((row_at f (512 * number) row block), (next_position number row (count_in block) last))))
    (cond (last && eqb row (count_in block)) (Ok None) (Err (refusal wrong_shape number)))

-- refused where something is wrong with the block
abbrev pub unless_wrong : {A : Type 0} → Option Kind → ℕ → Result A Refusal → Result A Refusal
unless_wrong None number r = r
unless_wrong (Some kind) number r = Err (refusal kind number)

-- the row at a position and the next one, the end, or what is wrong
unfoldable pub step_of : Format → ℕ → ℕ → List ℕ → Result (Option (Row × Position)) Refusal
step_of f number row file =
    unless_wrong (wrong_at f number file) number (step_in f number row (is_last number file) (block_at number file))

-- ---- by a reader: each block by the format that it has for the version that the block names
abbrev pub format_at : Reader → ℕ → List ℕ → Format
format_at reader number file = reader (version_in (block_at number file))

abbrev pub wrong_by : Reader → ℕ → List ℕ → Option Kind
wrong_by reader number file = wrong_at (format_at reader number file) number file

abbrev pub step_by : Reader → ℕ → ℕ → List ℕ → Result (Option (Row × Position)) Refusal
step_by reader number row file = step_of (format_at reader number file) number row file
