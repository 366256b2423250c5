-- The invariant: the first i rows stand after the head, and what follows is as it was. A turn is `laid_turn`.
use mathlib.Core.Path.{refl}
use native.Mathlib.Omega.{arith}
use lib.ListN.{get_or}
use Rattle.snapshot_blocks.specs.Blocks.{entry_for, row_bytes}
use Rattle.snapshot_blocks.proofs.Writing.{laid_start, laid_turn, laid_done, length_row_for}
use borrow.Author.Rules.{rules}
use Rattle.snapshot_blocks.proofs.put_rows.Goals as goal

pub loop-i-init : goal.loop-i-init
loop-i-init c = let a = c.args in (search rules, refl, laid_start (entry_for 80 a.locations.now a.carried.now) a.ids.now a.block.now)

pub put_row-requires : goal.put_row-requires
put_row-requires c =
    let r = c.requires.2 c.loop-i.i c.loop-i-test.true in
    (search rules, r.0, r.1)

pub loop-i-preserved : goal.loop-i-preserved
loop-i-preserved c =
    let a = c.args in
    let v = c.loop-i in
    let r = c.requires.2 v.i c.loop-i-test.true in
    let after = rw c.start_of.ensures at c.put_row.ensures in
    let row = row_bytes (entry_for 80 a.locations.now a.carried.now (get_or a.ids.now v.i 0)) in
    (search rules, search rules, laid_turn (entry_for 80 a.locations.now a.carried.now) a.ids.now a.block.now v.block _ row v.i c.loop-i-test.true (omega (arith, c.requires.0, c.requires.1)) v.invariant.2 (length_row_for a.locations.now a.carried.now _ r.1) refl after)

pub returns : goal.returns
returns c =
    let a = c.args in
    laid_done (entry_for 80 a.locations.now a.carried.now) a.ids.now a.block.now _ c.loop-i.i (search rules) c.loop-i.invariant.2
