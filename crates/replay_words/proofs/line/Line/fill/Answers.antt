-- One turn writes a row more; after the last all rows are written.
use Rattle.std.proofs.Common.{◌∙◌, sym, add-zero, arith}
use native.Mathlib.Nat.{sub-zero}
use lib.ListN.{length-set}
use Rattle.replay_words.proofs.Laws.{column_of_turn, column_of_done}
use Rattle.replay_words.proofs.line.Line.fill.Goals as goal

pub loop-i-init : goal.loop-i-init
loop-i-init c = simp (add-zero, sub-zero)

pub loop-i-preserved : goal.loop-i-preserved
loop-i-preserved c =
    let rows = c.loop-i.column in
    let i = c.loop-i.i in
    rw (length-set rows i c.word.result, c.word.ensures) (column_of_turn c.args.self.bytes.now rows c.args.from i (omega arith) ∙ c.loop-i.invariant)

pub returns : goal.returns
returns c = sym (column_of_done c.args.self.bytes.now c.loop-i.column c.args.from c.loop-i.i (omega arith)) ∙ c.loop-i.invariant
