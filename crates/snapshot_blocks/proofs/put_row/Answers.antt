-- What is carried is put whole (`row_over`), then the three numbers (`row_put`).
use Rattle.snapshot_blocks.proofs.Writing.{row_put, row_over}
use Rattle.snapshot_blocks.proofs.put_row.Goals as goal

pub returns : goal.returns
returns c =
    let a = c.args in
    let e = row_over a.block.now a.carried.now a.start a.id _ c.requires.0 c.requires.2 c.put_row.ensures in
    row_put a.block.now _ _ _ _ a.locations.now a.carried.now a.start a.id _ c.requires.0 c.requires.2 (λ k. (c.type_inv.carried k).fits) e c.get_at-collection.ensures c.put_at.ensures c.put_at-2.ensures c.put_at-3.ensures
