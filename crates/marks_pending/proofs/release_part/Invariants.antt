use Rattle.std.proofs.Common.{◌≡◌, ◌+◌, ◌≤◌, drop}
use Rattle.marks.specs.Marks.{is_pending, count_if}
use Rattle.marks.specs.Turned.{released}
use Rattle.marks.proofs.LawsMapped.{mapped}
use Rattle.marks_pending.proofs.release_part.Given as goal

abbrev pub invariant-loop-mark : goal.invariant-loop-mark
invariant-loop-mark l =
    (l.n ≤ l.mark-index) × (l.mark-items ≡ mapped (released l.zero) l.mark-index l.initial.mark-items)
    × (l.n + count_if is_pending (drop l.mark-index l.initial.mark-items) ≡ count_if is_pending l.initial.mark-items)
