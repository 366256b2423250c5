-- `crc_words::over` meets its contract: the odd bytes, then the words, and the register fits 32 bits.
-- Assumes nothing.
use mathlib.Core.Path.{ap, ◌∙◌}
use mathlib.Core.List.{List}
use Prim.Native.Nat.{ℕ}
use native.Mathlib.Omega.{arith}
use Rattle.crc_steps.proofs.Laws.{crc_over_lt}
use Rattle.crc_words.specs.Fold.{held, register_after}
use Rattle.crc_words.proofs.over.Goals as goal

pub over_words-requires-clause-register : goal.over_words-requires-clause-register
over_words-requires-clause-register c =
    rw (ap (λ (ws : List (List ℕ)). register_after ws (held c.start.result)) c.as_rchunks.ensures.back ∙ c.start.ensures)
    (crc_over_lt c.args.register c.args.bytes.now (omega arith) (λ k. (c.type_inv.bytes k).fits))
