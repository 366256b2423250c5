-- The invariant: the rows from p on, put into the lists as they are now, give what all rows give in the lists as they were. The row at p stands in its
-- block, with its key, since every block is right.
use mathlib.Core.Path.{refl, sym, ◌∙◌}
use Prim.Native.Nat.{◌<◌}
use native.Mathlib.Omega.{arith}
use Rattle.snapshot_lists.specs.Lists.{total, format_in}
use Rattle.snapshot_lists.proofs.Turns.{ids_start, locations_start, carried_start, ids_turn, locations_turn, carried_turn, ids_done, locations_done, carried_done}
use Rattle.snapshot_lists.proofs.Rows.{sound, most_some, row_block, all_le, entry_of_row, taken_refused, taken_wide, taken_key, taken_key_within}
use borrow.Author.Rules.{rules}
use Rattle.snapshot_lists.proofs.Blocks.take.Goals as goal

pub loop-p-init : goal.loop-p-init
loop-p-init c = ((refl, refl, refl), (ids_start _ _ _ _, locations_start _ _ _ _, carried_start _ _ _ _))

pub row-requires : goal.row-requires
row-requires c =
    let file = c.args.self.file.now in
    let pre = c.requires in
    let h : c.loop-p.p < total (format_in file) file = rw pre.4 at c.loop-p-test.true in
    let m = pre.0 in
    let w = pre.1 in (
      rw m (most_some file pre.2 pre.3 _ h),
      rw m (row_block file pre.2 pre.3 _ h),
      rw w (sound file pre.2 pre.3 _ h).narrow,
      rw (m, w) (all_le (format_in file)),
    )

pub take_row-requires : goal.take_row-requires
take_row-requires c =
    let file = c.args.self.file.now in
    let pre = c.requires in
    let t = c.loop-p-test.true in
    let h : c.loop-p.p < total (format_in file) file = rw pre.4 at t in
    let e = c.row.ensures in
    let l = c.loop-p.invariant.0 in (
      omega (arith, l.0, pre.5),
      omega (arith, l.1, pre.5, pre.6),
      taken_wide file pre.2 pre.3 _ h _ _ _ pre.0 pre.1 e,
      taken_key file pre.2 pre.3 _ h _ _ _ pre.0 pre.1 e,
      taken_key_within file pre.2 pre.3 _ h _ _ _ pre.0 pre.1 e,
    )

pub loop-p-preserved : goal.loop-p-preserved
loop-p-preserved c =
    let file = c.args.self.file.now in
    let pre = c.requires in
    let t = c.loop-p-test.true in
    let h : c.loop-p.p < total (format_in file) file = rw pre.4 at t in
    let e = c.row.ensures in
    let q = entry_of_row file pre.2 pre.3 _ h _ _ _ pre.0 pre.1 e in
    let r = taken_refused file pre.2 pre.3 _ h _ _ _ pre.0 pre.1 e in
    let s = rw q at (c.take_row.ensures (format_in file) (sound file pre.2 pre.3 _ h) (sym pre.1) r) in
    let v = c.loop-p.invariant.1 in (
      (search rules, search rules, search rules),
      (ids_turn _ _ _ t _ _ _ s.0 ∙ v.0, locations_turn _ _ _ t _ _ _ s.1 ∙ v.1, carried_turn _ _ _ t _ _ _ s.2 ∙ v.2),
    )

pub returns : goal.returns
returns c =
    let h = c.loop-p-test.false in
    let v = c.loop-p.invariant.1 in
    (sym (ids_done _ _ _ h _ _) ∙ v.0, sym (locations_done _ _ _ h _ _) ∙ v.1, sym (carried_done _ _ _ h _ _) ∙ v.2)
