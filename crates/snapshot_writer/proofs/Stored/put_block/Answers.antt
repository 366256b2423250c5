-- `put_block` meets its contract: the ids that were gathered are rows of both tables, and the block of their rows is put in its place. Assumes nothing.
use mathlib.Core.Path.{sym}
use mathlib.Core.List.{List}
use Prim.Native.Nat.{ℕ, ◌≤◌}
use native.Mathlib.Omega.{arith}
use lib.ListN.{length, take}
use lib.Seq.{length-take-le}
use Rattle.snapshot_blocks.specs.Blocks.{entry_for}
use Rattle.snapshot_blocks.proofs.CanWrite.{rows_can_write}
use Rattle.snapshot_writer.specs.Writer.{stored_in}
use Rattle.snapshot_writer.proofs.LawsRows.{those_rows}
use Rattle.snapshot_writer.proofs.LawsBlocks.{block_length, block_put_lem}
use borrow.Author.Rules.{rules}
use Rattle.snapshot_writer.proofs.Stored.put_block.Goals as goal

pub slice_bounds-write-end : goal.slice_bounds-write-end
slice_bounds-write-end c =
    let g = c.gather-found in
    let list : List ℕ = g.new.list in
    let n : g.result.count ≤ length list = search rules in
    sym (length-take-le g.result.count list n)

pub returns : goal.returns
returns c =
    let a = c.args in
    let p = c.requires in
    let g = c.gather-found in
    let w = c.write in
    let list : List ℕ = g.new.list in
    let ids = take g.result.count list in
    let n : g.result.count ≤ length list = search rules in
    let few : length ids ≤ 5 = omega (arith, length-take-le g.result.count list n, g.ensures.0.0) in
    let are = those_rows (stored_in a.self.ids a.self.id_marks.now a.self.locations.now a.self.tallies.now) a.self.ids a.from a.self.locations.now a.carried.now ids p.0.1 p.1.0.0 p.1.0.1 g.ensures.1.0 in
    let can = rows_can_write ids a.self.locations.now a.carried.now _ few (block_length a.number a.file.now p.1.1.1) are in (
      g.ensures.0.1,
      (
        g.ensures.1.1,
        block_put_lem (entry_for 80 a.self.locations.now a.carried.now) a.number a.file.now w.new.block ids _ (rw can at w.ensures) g.ensures.1.0,
      ),
    )
