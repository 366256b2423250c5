-- `crc_words::turn` meets its contract: the law of a turn with x besides.
-- Assumes nothing.
use mathlib.Core.Path.{sym}
use Prim.Native.Nat.{◌^◌, ◌<◌}
use native.Mathlib.Omega.{arith}
use lib.Bits.{bit_xor, xor_lt}
use Rattle.crc_words.specs.Fold.{past, past_of, over, pulled}
use Rattle.crc_words.proofs.Read.{far_word}
use Rattle.crc_words.proofs.LastWords.{past_with}
use Rattle.crc_words.proofs.turn.Goals as goal

pub returns : goal.returns
returns c = λ t.
    let h = c.args.h in
    let x = c.args.x in
    let w = c.load.result in
    let y = bit_xor (bit_xor w x) c.pull.result in
    let l : bit_xor w x < 2 ^ 64 = xor_lt 64 w x (omega arith) (omega arith) in
    let m : pulled h.q h.r h.s h.t < 2 ^ 64 = rw (sym c.pull.ensures) (omega arith) in
    far_word c.args.word.now w (bit_xor (past h) (over x t)) (bit_xor (past_of y h.p h.q h.r h.s) t)
    (rw c.pull.ensures (past_with h.p h.q h.r h.s h.t w x t l m))
    c.load.ensures
