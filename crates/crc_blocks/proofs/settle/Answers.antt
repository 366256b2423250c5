-- `crc_blocks::settle` meets its contract: the last bytes have what was pending, and zeros after it change nothing.
-- Assumes nothing.
use mathlib.Core.Path.{sym, ap, ◌∙◌}
use mathlib.Core.List.{◌++◌}
use Prim.Native.Nat.{ℕ}
use native.Mathlib.Omega.{arith}
use lib.ListN.{replicate, length-append, length-replicate}
use lib.Seq.{length-take-le}
use Rattle.crc_blocks.specs.Sparse.{left}
use Rattle.crc_blocks.proofs.Pending.{padded_past, padded_bytes, pend_padded, settled}
use Rattle.crc_blocks.proofs.settle.Goals as goal

pub slice_bounds-over-end : goal.slice_bounds-over-end
slice_bounds-over-end c = sym (length-take-le 515 c.take_in.new.window (omega (arith, c.take_in.array_long)))

pub returns : goal.returns
returns c =
    let last = c.args.last.now in
    let p = c.args.pending.now in
    let window = p ++ replicate 515 0 in
    c.over.ensures
    ∙ settled last window c.take_in.new.window (λ k. (c.type_inv.last k).fits) (padded_bytes p 515 (λ k. (c.type_inv.pending k).fits))
    (omega arith)
    (simp (length-append, length-replicate {A = ℕ}) (omega arith))
    (omega (arith, c.take_in.array_long))
    (λ k l. padded_past p 515 k (omega arith))
    (rw c.padded-window.ensures at c.take_in.ensures)
    ∙ ap (left last) (pend_padded p (omega arith))
