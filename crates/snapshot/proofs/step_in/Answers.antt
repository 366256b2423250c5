-- The tests of `step_in` in their order; a row that the block has stands within it, and so does its key (`key_within`).
use mathlib.Core.Path.{◌∙◌}
use Prim.Native.Nat.{◌*◌, ◌<◌}
use native.Mathlib.Omega.{arith}
use borrow.Author.Tests.{lt-ltb, le-ltb, eq-eqb, ne_eqb}
use Rattle.snapshot_blocks.specs.Formats.{format_of, per_block}
use Rattle.snapshot_blocks.specs.Blocks.{version_in}
use Rattle.snapshot_blocks.proofs.Turns.{format_of_few}
use Rattle.snapshot.specs.Snapshot.{step_in}
use Rattle.snapshot.proofs.Turns.{key_within, placed_row}
use Rattle.snapshot.proofs.step_in.Goals as goal
use Rattle.snapshot.proofs.step_in.Goals.{else-last-via-then-last+else-row-count-2, else-last-via-else-last}

pub placed-shown-requires : goal.placed-shown-requires
placed-shown-requires c =
    let a = c.args in
    let v = version_in a.block.now in
    let h : a.row < per_block (format_of v) = omega (arith, c.count_in-count.ensures, c.requires.0) in
    omega (arith, c.requires.1, key_within v a.row a.block.now _ h c.row_at.ensures)

pub next_of-after-requires : goal.next_of-after-requires
next_of-after-requires c =
    let v = version_in c.args.block.now in
    (omega (arith, c.count_in-count.ensures, c.requires.0, format_of_few v), c.requires.1)

pub returns-then-row-count : goal.returns-then-row-count
unfolding step_in
returns-then-row-count c =
    let a = c.args in
    let v = version_in a.block.now in
    let h : a.row < per_block (format_of v) = omega (arith, c.count_in-count.ensures, c.requires.0) in
    let n = rw c.count_in-count.ensures at (lt-ltb _ _ c.if-row-count.true) in
    let r = c.placed-shown.ensures ∙ placed_row v a.row a.block.now _ h c.row_at.ensures (512 * a.number) in
    simp (n, ← c.count_in-count.ensures, r, c.next_of-after.ensures)

pub returns-then-row-count-2 : goal.returns-then-row-count-2
unfolding step_in
returns-then-row-count-2 c =
    let n = rw c.count_in-count.ensures at (le-ltb _ _ c.if-row-count.false) in
    let m = rw c.count_in-count.ensures at (eq-eqb _ _ c.if-row-count-2.true) in
    simp (n, c.if-last.true, m)

pub returns : goal.returns
unfolding step_in
returns c =
    let n = rw c.count_in-count.ensures at (le-ltb _ _ c.if-row-count.false) in
    elim c.else-last.branch [
      | else-last-via-then-last+else-row-count-2 w ↦
          let m = rw c.count_in-count.ensures at (ne_eqb _ _ w.if-row-count-2.false) in
          simp (n, w.if-last.true, m, c.at.ensures)
      | else-last-via-else-last w ↦ simp (n, w.if-last.false, c.at.ensures)
    ]
