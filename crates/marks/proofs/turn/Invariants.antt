use Rattle.std.proofs.Common.{◌≡◌}
use Rattle.marks.specs.Turned.{turned}
use Rattle.marks.proofs.LawsMapped.{mapped}
use Rattle.marks.proofs.turn.Given as goal

abbrev pub invariant-loop-mark : goal.invariant-loop-mark
invariant-loop-mark l = l.mark-items ≡ mapped (turned l.old l.new) l.mark-index l.initial.mark-items
