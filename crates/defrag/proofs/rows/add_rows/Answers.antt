-- `defrag::rows::add_rows` meets its contract. The loop's invariant: the rows of the owners left, written from the present row on, complete what is to be written. The measure is how many owners are left. Assumes nothing.
use lib.ListN.{get_or}
use lib.Seq.{length-sets}
use Prim.Native.Nat.{◌+◌}
use mathlib.Core.Path.{ap, ◌∙◌}
use lib.ListN.{length, drop}
use native.Mathlib.Omega.{arith}
use Rattle.model.specs.Tables.{ids_of, locations_of}
use Rattle.defrag.specs.Listed.{row_of, listed_of}
use Rattle.defrag.proofs.Written.{listed_of_turn, listed_of_end, row_of_le, next_count, next_ids, next_locations}
use borrow.Author.Rules.{rules}
use Rattle.defrag.proofs.rows.add_rows.Goals as goal

pub loop-i-preserved : goal.loop-i-preserved
loop-i-preserved c =
    let a = c.args in
    let ls = a.locations.now in
    let os = a.owners.now in
    let i = c.loop-i.i in
    let l = c.loop-i.location in
    let n = c.loop-i.n in
    let row = row_of ls l (get_or os i 0) in
    let rest = listed_of ls (l + 1) (drop (i + 1) os) in
    let split = listed_of_turn ls l os i (omega arith) in
    let e = c.add_row-n.ensures in (
      search rules,
      search rules,
      omega (arith, e.0, row_of_le ls l (get_or os i 0)),
      ap length e.1 ∙ length-sets c.loop-i.moved_ids n (ids_of row) ∙ c.loop-i.invariant.3,
      ap length e.2 ∙ length-sets c.loop-i.moved_locations n (locations_of row) ∙ c.loop-i.invariant.4,
      next_count row rest n split e.0 c.loop-i.invariant.5,
      next_ids row rest n split e.0 c.loop-i.moved_ids e.1 c.loop-i.invariant.6,
      next_locations row rest n split e.0 c.loop-i.moved_locations e.2 c.loop-i.invariant.7,
    )

pub returns : goal.returns
returns c =
    let a = c.args in
    let e = listed_of_end a.locations.now c.loop-i.location a.owners.now c.loop-i.i (omega arith) in
    (omega (arith, rw e at c.loop-i.invariant.5), rw e at c.loop-i.invariant.6, rw e at c.loop-i.invariant.7)
