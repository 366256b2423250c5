-- `crc_words::few` meets its contract: the law of fewer bytes than a word has.
-- Assumes nothing.
use mathlib.Core.Path.{ap, ◌∙◌}
use Prim.Native.Nat.{ℕ, ◌-◌, ◌*◌}
use native.Mathlib.Omega.{arith}
use lib.Bits.{bit_xor}
use lib.ListN.{length}
use Rattle.crc_steps.specs.Crc32.{steps}
use Rattle.crc_steps.proofs.Laws.{crc_over_lt}
use Rattle.crc_words.specs.Fold.{up}
use Rattle.crc_words.proofs.Read.{no_bytes, fewer}
use Rattle.crc_words.proofs.few.Goals as goal

pub returns-then-h-eq0 : goal.returns-then-h-eq0
returns-then-h-eq0 c = no_bytes c.args.bytes.now c.args.register (omega arith)

pub with_none-requires : goal.with_none-requires
with_none-requires c =
    let a = c.args in
    let s = a.bytes.now in
    let p = 64 - 8 * length s in
    rw (c.on_last.ensures, fewer s (λ k. (c.type_inv.bytes k).fits) a.register p c.get.result (omega arith) c.get.ensures)
    (crc_over_lt a.register s (omega arith) (λ k. (c.type_inv.bytes k).fits))

pub returns : goal.returns
returns c =
    let a = c.args in
    let s = a.bytes.now in
    let p = 64 - 8 * length s in
    c.with_none.ensures
    ∙ ap (λ (z : ℕ). steps 64 (bit_xor (up p c.get.result) z)) c.on_last.ensures
    ∙ fewer s (λ k. (c.type_inv.bytes k).fits) a.register p c.get.result (omega arith) c.get.ensures
