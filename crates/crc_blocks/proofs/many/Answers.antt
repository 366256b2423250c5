-- `crc_blocks::many` meets its contract: block by block, then the bytes before the last, and then these.
-- Assumes nothing.
use mathlib.Core.Path.{◌≡◌, sym, ap, ◌∙◌, subst}
use mathlib.Core.List.{List, []}
use Prim.Native.Nat.{ℕ, ◌+◌, ◌-◌, ◌/◌}
use native.Mathlib.Omega.{arith}
use lib.ListN.{length, get_or, take, drop}
use lib.Seq.{take_all}
use Rattle.std.specs.List.{flat_map}
use Rattle.crc_words.specs.Fold.{Passed}
use Rattle.crc_words.proofs.Passed.{passed_none, passed_append, passed_block, joined}
use Rattle.crc_blocks.specs.Sparse.{pend, left, Off}
use Rattle.crc_blocks.proofs.Pending.{left_first}
use Rattle.crc_blocks.proofs.many.Goals as goal

pub loop-block-init : goal.loop-block-init
loop-block-init c = passed_none left 515 (pend (take 515 c.seed-made.result))

pub loop-block-preserved : goal.loop-block-preserved
loop-block-preserved c =
    let blocks = c.as_chunks.result.0.now in
    let i = c.loop-block.block-index in
    let r = pend (take 515 c.loop-block.made) in
    let n : length (get_or blocks i []) ≡ 2048 = omega arith in
    passed_block left 515 [] blocks i (pend (take 515 c.seed-made.result)) r (pend (take 515 c.slide.new.made)) (omega arith) c.loop-block.invariant
    (subst (λ (p : List ℕ). Off (get_or blocks i []) r (pend p)) (ap (λ (m : ℕ). take 515 (drop m c.put_off.new.made)) n ∙ sym c.slide.ensures) c.put_off.ensures)

pub returns : goal.returns
unfolding Passed
returns c =
    let s = c.args.bytes.now in
    let early = c.split_at.result.0.now in
    let last = c.split_at.result.1.now in
    let blocks = c.as_chunks.result.0.now in
    let rest = c.as_chunks.result.1.now in
    let z = pend (take 515 c.seed-made.result) in
    let r = pend (take 515 c.loop-block.made) in
    let t = pend (take 515 (drop (length rest) c.put_off-2.new.made)) in
    let f : Off (flat_map (λ block. block) blocks) z r =
    subst (λ (bs : List (List ℕ)). Off (flat_map (λ block. block) bs) z r) (take_all c.loop-block.block-index blocks (omega arith)) c.loop-block.invariant in
    let g : Off early z t =
    subst (λ (bs : List ℕ). Off bs z t) (joined 2048 (length early / 2048) early rest blocks c.as_chunks.ensures.front c.as_chunks.ensures.back)
    (passed_append left 515 (flat_map (λ block. block) blocks) rest z r t f c.put_off-2.ensures) in
    let e : length rest + 515 - length rest ≡ 515 = omega arith in
    c.settle.ensures
    ∙ ap (λ (m : ℕ). left last (pend (take m (drop (length rest) c.put_off-2.new.made)))) e
    ∙ sym (g last (omega (arith, c.split_at.ensures.back_len)))
    ∙ ap (λ (bs : List ℕ). left bs z) (sym c.split_at.ensures.by_index.0)
    ∙ left_first s (take 515 c.seed-made.result) c.args.register (λ k. (c.type_inv.bytes k).fits) c.seed-made.ensures
