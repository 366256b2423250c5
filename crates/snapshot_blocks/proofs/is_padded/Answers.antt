-- So many rows end before the check, by what a block has room for (`per_block_room`).
use mathlib.Core.Path.{ap, ◌∙◌}
use Prim.Native.Nat.{ℕ, ◌+◌, ◌-◌, ◌*◌}
use native.Mathlib.Nat.{le_trans}
use native.Mathlib.Omega.{arith}
use lib.ListN.{take, drop}
use Rattle.zeros.specs.Zeros.{all_zero}
use Rattle.snapshot_blocks.specs.Formats.{format_of}
use Rattle.snapshot_blocks.specs.Blocks.{version_in}
use Rattle.snapshot_blocks.proofs.Blocks.{per_block_room}
use Rattle.snapshot_blocks.proofs.Turns.{format_of_sound, format_of_few}
use Rattle.snapshot_blocks.proofs.is_padded.Goals as goal

pub start_of-end-requires : goal.start_of-end-requires
start_of-end-requires c =
    let v = version_in c.args.block.now in
    (rw c.width_in-width.ensures (format_of_sound v).narrow, le_trans c.requires.1 (format_of_few v))

pub slice_bounds-all_zero-count : goal.slice_bounds-all_zero-count
slice_bounds-all_zero-count c =
    let f = format_of (version_in c.args.block.now) in
    rw (c.start_of-end.ensures, c.width_in-width.ensures) (omega (arith, per_block_room f c.args.count c.requires.1))

pub slice_bounds-all_zero-start : goal.slice_bounds-all_zero-start
slice_bounds-all_zero-start c =
    let f = format_of (version_in c.args.block.now) in
    rw (c.start_of-end.ensures, c.width_in-width.ensures) (omega (arith, per_block_room f c.args.count c.requires.1))

pub returns : goal.returns
returns c =
    let e = c.start_of-end.ensures ∙ ap (λ (w : ℕ). 8 + (16 + w) * c.args.count) c.width_in-width.ensures in
    c.all_zero.ensures ∙ ap (λ (k : ℕ). all_zero (take (508 - k) (drop k c.args.block.now))) e
