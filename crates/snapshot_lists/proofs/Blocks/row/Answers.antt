-- The row starts within its block (`start_le`), and the part of the file from there to the block's end is the rest of the block (`row_part`).
use Prim.Native.Nat.{◌+◌, ◌*◌, ◌/◌, ◌%◌}
use native.Mathlib.Omega.{arith}
use Rattle.snapshot_lists.proofs.Rows.{start_le, row_part}
use Rattle.snapshot_lists.proofs.Blocks.row.Goals as goal

pub overflow_mul-start : goal.overflow_mul-start
overflow_mul-start c = omega (arith, start_le c.args.p c.args.self.most c.args.self.wide c.requires.0 c.requires.3)

pub overflow_add-start : goal.overflow_add-start
overflow_add-start c = omega (arith, start_le c.args.p c.args.self.most c.args.self.wide c.requires.0 c.requires.3)

pub overflow_add-start-2 : goal.overflow_add-start-2
overflow_add-start-2 c = omega (arith, start_le c.args.p c.args.self.most c.args.self.wide c.requires.0 c.requires.3)

pub slice_bounds-result-count : goal.slice_bounds-result-count
slice_bounds-result-count c = omega (arith, start_le c.args.p c.args.self.most c.args.self.wide c.requires.0 c.requires.3)

pub slice_bounds-result-start : goal.slice_bounds-result-start
slice_bounds-result-start c = omega (arith, start_le c.args.p c.args.self.most c.args.self.wide c.requires.0 c.requires.3)

pub returns : goal.returns
returns c =
    let a = c.args in
    let s = start_le a.p a.self.most a.self.wide c.requires.0 c.requires.3 in
    row_part a.self.file.now (a.p / a.self.most) (8 + (16 + a.self.wide) * (a.p % a.self.most)) (omega arith)
