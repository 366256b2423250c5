-- `put_blocks` meets its contract. The loop's invariant: the blocks written, and those of the ids left, are the file. The measure is the full blocks left; the
-- rows that are left for the last block are at most 5, since the count says so. Assumes nothing.
use mathlib.Core.Path.{◌≡◌, refl, ◌∙◌}
use mathlib.Core.List.{List}
use Prim.Native.Nat.{ℕ, ◌≤◌}
use native.Mathlib.Omega.{arith}
use lib.ListN.{length}
use Rattle.snapshot_blocks.specs.Blocks.{entry_for}
use Rattle.model.specs.Snapshots.{those_from}
use Rattle.snapshot_writer.specs.Writer.{stored_in}
use Rattle.snapshot_writer.proofs.LawsRows.{those_all, few_rows}
use Rattle.snapshot_writer.proofs.LawsBlocks.{put_start, put_turn, put_last, next_rows, last_of, length_file, file_room, few_blocks}
use borrow.Author.Rules.{rules}
use Rattle.snapshot_writer.proofs.Stored.put_blocks.Goals as goal

pub loop-k-init : goal.loop-k-init
loop-k-init c =
    let a = c.args in
    let p = stored_in a.self.ids a.self.id_marks.now a.self.locations.now a.self.tallies.now in (
      (refl, (omega arith, omega arith)),
      (
        those_all p a.self.ids,
        put_start (entry_for 80 a.self.locations.now a.carried.now) (those_from p a.self.ids 0) c.full_blocks-last.result a.file.now (last_of c.full_blocks-last.result a.rows _ c.full_blocks-last.ensures c.requires.0.1),
      ),
    )

pub put_block-from-requires : goal.put_block-from-requires
put_block-from-requires c =
    let a = c.args in
    let q = c.requires in
    let l = c.loop-k in
    let v = l.invariant.0 in
    let f = c.full_blocks-last in
    let p = stored_in a.self.ids a.self.id_marks.now a.self.locations.now a.self.tallies.now in (
      (q.0.0, v.1.1),
      (
        q.1.0,
        (
          few_blocks a.self.ids a.rows f.result l.k q.0.0 (few_rows p a.self.ids a.rows q.0.1) f.ensures v.1.0,
          file_room a.rows f.result l.k (length l.file) f.ensures (v.0 ∙ q.1.1) v.1.0,
        ),
      ),
    )

pub loop-k-preserved : goal.loop-k-preserved
loop-k-preserved c =
    let a = c.args in
    let q = c.requires in
    let l = c.loop-k in
    let v = l.invariant in
    let f = c.full_blocks-last in
    let t = c.loop-k-test.true in
    let w = c.put_block-from in
    let after : List ℕ = w.new.file in
    let n : length after ≡ length l.file = search rules in
    let p = stored_in a.self.ids a.self.id_marks.now a.self.locations.now a.self.tallies.now in
    let every = those_from p a.self.ids 0 in
    let e = entry_for 80 a.self.locations.now a.carried.now in (
      (n ∙ v.0.0, (omega (arith, t), w.ensures.0)),
      (
        next_rows e every l.k _ _ v.1.0 w.ensures.1.0,
        put_turn e every f.result l.k l.file after _ t (file_room a.rows f.result l.k (length l.file) f.ensures (v.0.0 ∙ q.1.1) v.0.1.0) n v.1.0 w.ensures.1.1 ∙ v.1.1,
      ),
    )

pub put_block-requires : goal.put_block-requires
put_block-requires c =
    let a = c.args in
    let q = c.requires in
    let l = c.loop-k in
    let v = l.invariant.0 in
    let f = c.full_blocks-last in
    let p = stored_in a.self.ids a.self.id_marks.now a.self.locations.now a.self.tallies.now in
    let r : f.result ≤ f.result = omega arith in (
      (q.0.0, v.1.1),
      (
        q.1.0,
        (
          few_blocks a.self.ids a.rows f.result f.result q.0.0 (few_rows p a.self.ids a.rows q.0.1) f.ensures r,
          file_room a.rows f.result f.result (length l.file) f.ensures (v.0 ∙ q.1.1) r,
        ),
      ),
    )

pub returns : goal.returns
returns c =
    let a = c.args in
    let q = c.requires in
    let l = c.loop-k in
    let v = l.invariant in
    let f = c.full_blocks-last in
    let w = c.put_block in
    let p = stored_in a.self.ids a.self.id_marks.now a.self.locations.now a.self.tallies.now in
    let every = those_from p a.self.ids 0 in
    put_last (entry_for 80 a.self.locations.now a.carried.now) every f.result l.k l.file _ _ c.loop-k-test.false v.0.1.0 (last_of f.result a.rows _ f.ensures q.0.1)
    (v.0.0 ∙ q.1.1 ∙ length_file a.rows f.result f.ensures) v.1.0 w.ensures.1.1 ∙ v.1.1
