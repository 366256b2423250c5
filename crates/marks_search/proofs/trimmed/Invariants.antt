use Rattle.std.proofs.Common.{◌≡◌, length}
use Rattle.marks.specs.Marks.{last_taken}
use Rattle.marks_search.proofs.trimmed.Given as goal

abbrev pub invariant-loop-rest : goal.invariant-loop-rest
invariant-loop-rest g l = last_taken l.left ≡ last_taken l.marks

abbrev pub decreases-loop-rest : goal.decreases-loop-rest
decreases-loop-rest g l = length l.left
