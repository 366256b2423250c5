use Rattle.std.proofs.Common.{◌≡◌, ◌+◌, length}
use Rattle.marks.specs.Marks.{is_free, count_if}
use Rattle.offer_room.proofs.lacks_many.Given as goal

abbrev pub invariant-loop-stretch : goal.invariant-loop-stretch
invariant-loop-stretch l = l.free + count_if is_free l.left ≡ count_if is_free l.marks

abbrev pub decreases-loop-stretch : goal.decreases-loop-stretch
decreases-loop-stretch l = length l.left
