-- The loop's invariant: the bytes written, with the bytes of what is left of the number, are the bytes of the number. Assumes nothing.
use mathlib.Core.Path.{sym, ◌∙◌}
use Prim.Native.Nat.{◌%◌}
use native.Mathlib.Omega.{arith}
use lib.ListN.{length-set}
use Rattle.little_endian.proofs.Laws.{bytes_of_turn, bytes_of_done}
use Rattle.little_endian.proofs.put.Goals as goal

pub loop-byte-preserved : goal.loop-byte-preserved
loop-byte-preserved c =
    let l = c.loop-byte.bytes in
    let i = c.loop-byte.byte-index in
    rw (length-set l i (c.loop-byte.rest % 256)) (bytes_of_turn l i c.loop-byte.rest (omega arith) ∙ c.loop-byte.invariant)

pub returns : goal.returns
returns c = sym (bytes_of_done c.loop-byte.bytes c.loop-byte.byte-index c.loop-byte.rest (omega arith)) ∙ c.loop-byte.invariant
