-- Request 2026-01: the file of some rows, over the format. Assumes nothing.
use Rattle.std.specs.Prelude.{List, ◌++◌, ℕ, zero, suc, ◌-◌, ◌*◌, ◌/◌, length, take, drop}
use Rattle.snapshot_blocks.specs.Formats.{Format, per_block}
use Rattle.snapshot_blocks.specs.Blocks.{Entry, block_of}

-- so many full blocks, and then the last one
unfoldable pub file_from : Format → ℕ → ℕ → List Entry → List ℕ
file_from f number zero rows = block_of f number rows
file_from f number (suc left) rows = block_of f number (take (per_block f) rows) ++ file_from f (suc number) left (drop (per_block f) rows)

-- how many full blocks come before the last one, which has a row where there is any
abbrev pub full_blocks : Format → ℕ → ℕ
full_blocks f n = (n - 1) / per_block f

-- the file of these rows; no rows are one block
unfoldable pub file_of : Format → List Entry → List ℕ
file_of f rows = file_from f 0 (full_blocks f (length rows)) rows

-- and how long that of n rows is
unfoldable pub file_length : Format → ℕ → ℕ
file_length f n = 512 * suc (full_blocks f n)
