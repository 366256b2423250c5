use Rattle.std.proofs.Common.{◌≡◌, length, ◌+◌}
use Rattle.marks.specs.Marks.{count_if}
use Rattle.marks.specs.Turned.{is_mark}
use Rattle.marks.proofs.count.Given as goal

abbrev pub invariant-loop-part : goal.invariant-loop-part
invariant-loop-part l = l.n + count_if (is_mark l.mark) l.left ≡ count_if (is_mark l.mark) l.marks

abbrev pub decreases-loop-part : goal.decreases-loop-part
decreases-loop-part l = length l.left
