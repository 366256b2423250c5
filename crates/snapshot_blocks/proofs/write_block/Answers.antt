-- The fields are written one after the other, then the check (`block_written`).
use mathlib.Core.Path.{◌≡◌, ap, ◌∙◌}
use Prim.Native.Nat.{ℕ, ◌*◌}
use native.Mathlib.Omega.{arith}
use mathlib.Core.List.{List, map}
use lib.ListN.{length, length-map}
use Rattle.snapshot_blocks.specs.Formats.{version2}
use Rattle.snapshot_blocks.specs.Blocks.{Entry, entry_for, rows_bytes}
use Rattle.snapshot_blocks.proofs.Rows.{length_rows_bytes}
use Rattle.snapshot_blocks.proofs.Writing.{wide_entries_for, block_written}
use Rattle.snapshot_blocks.proofs.write_block.Goals as goal

pub returns : goal.returns
returns c =
    let a = c.args in
    let ids = a.ids.now in
    let e : ℕ → Entry = entry_for 80 a.locations.now a.carried.now in
    let rows : List Entry = map e ids in
    let n : length rows ≡ length ids = length-map ids e in
    let k : length (rows_bytes rows) ≡ 96 * length ids =
    length_rows_bytes version2 rows (wide_entries_for version2 a.locations.now a.carried.now ids c.requires.2) ∙ ap (λ (x : ℕ). 96 * x) n in
    let s = c.start_of-end.ensures in
    let laid = rw (← s) at c.put_rows.ensures in
    block_written version2 a.number (length ids) c.start_of-end.result rows a.block.now _ _ _ _ _ _ n (omega (arith, k, s)) (omega (arith, s, c.requires.0)) c.requires.1
    c.put_at.ensures c.put_at-2.ensures c.put_at-3.ensures laid c.put_at-4.ensures c.write.ensures
