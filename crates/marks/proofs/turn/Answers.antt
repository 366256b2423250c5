-- `turn` meets its contract. The loop's invariant: the marks passed are turned, the others as they were. Assumes nothing.
use Rattle.std.proofs.Common.{arith}
use Rattle.marks.specs.Turned.{turned}
use Rattle.marks.proofs.LawsMapped.{mapped_turn}
use Rattle.marks.proofs.turn.Goals as goal

pub loop-mark-preserved : goal.loop-mark-preserved
loop-mark-preserved c =
    let a = c.args in
    mapped_turn (turned a.old a.new) a.marks.now c.loop-mark.mark-items c.loop-mark.mark-index (omega arith) c.loop-mark.invariant _ c.turned_mark.ensures
