-- The loop's invariant: all bytes are zero exactly if the blocks so far are and the bytes still to come are. The last block has all that are left
-- then. Assumes nothing.
use mathlib.Core.Path.{◌≡◌, ap, ◌∙◌}
use mathlib.Core.List.{[]}
use Prim.Native.Nat.{◌+◌, ◌*◌, ◌/◌, ◌≤◌, ◌<◌}
use native.Mathlib.Omega.{arith}
use lib.ListN.{length, get_or}
use Rattle.list_parts.specs.Parts.{part}
use Rattle.list_parts.proofs.Parts.{chunk_at}
use Rattle.zeros.specs.Zeros.{all_zero}
use Rattle.zeros.proofs.Laws.{block_turn, all_zero_last}
use Rattle.zeros.proofs.by_blocks.Goals as goal

pub loop-block-preserved : goal.loop-block-preserved
loop-block-preserved c =
    let l = c.args.bytes.now in
    let i = c.loop-block.block-index in
    let inside : i < length l / 64 = omega (arith, c.loop-block-test.true, c.as_chunks.ensures.front_len) in
    let block : get_or c.as_chunks.result.0.now i [] ≡ part 64 l i = ap (λ ws. get_or ws i []) c.as_chunks.ensures.front ∙ chunk_at 64 (length l / 64) i l [] inside in
    c.loop-block.invariant ∙ block_turn l i c.loop-block.any c.joined-any.result (c.joined-any.ensures ∙ ap all_zero block)

pub returns : goal.returns
returns c =
    let l = c.args.bytes.now in
    let i = c.loop-block.block-index in
    let past : length l ≤ i * 64 + 64 = omega (arith, c.loop-block-test.false, c.as_chunks.ensures.front_len) in
    all_zero_last l 64 (i * 64) c.loop-block.any c.joined-any-2.result past c.loop-block.invariant c.joined-any-2.ensures
