-- `crc_words::start` meets its contract: the register itself is pending, or what the first bytes leave.
-- Assumes nothing.
use mathlib.Core.Path.{subst, ap, ◌∙◌}
use Prim.Native.Nat.{ℕ, ◌-◌, ◌*◌, ◌%◌, ◌/◌}
use native.Mathlib.Omega.{arith}
use lib.ListN.{length, take, length-take}
use lib.Seq.{take_all}
use Rattle.little_endian.specs.LittleEndian.{word}
use Rattle.crc_words.specs.Fold.{up, held, Turn}
use Rattle.crc_words.proofs.Read.{begin, started}
use Rattle.crc_words.proofs.start.Goals as goal

pub returns-then-h-eq0 : goal.returns-then-h-eq0
returns-then-h-eq0 c =
    let s = c.args.bytes.now in
    let none = c.default.ensures in
    rw (c.if-h-eq0.true, none.1.0, none.1.1.0, none.1.1.1.0, none.1.1.1.1)
    (begin (length s / 8) s (λ k. (c.type_inv.bytes k).fits) (omega arith) c.args.register)

pub returns : goal.returns
returns c =
    let s = c.args.bytes.now in
    let h = length s % 8 in
    let p = 64 - 8 * h in
    let w = c.get.result in
    let r = held c.with_one.result in
    started s (λ k. (c.type_inv.bytes k).fits) c.args.register h p w r (length s / 8)
    (omega arith)
    (omega arith)
    (omega arith)
    (c.get.ensures ∙ ap word (take_all 8 (take 8 s) (simp length-take (omega arith))))
    (subst (λ (z : ℕ). Turn 64 (up p w) z r) c.on_last.ensures c.with_one.ensures)
