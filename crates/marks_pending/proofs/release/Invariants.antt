use Rattle.std.proofs.Common.{◌≡◌, ◌+◌, ◌*◌, length, drop}
use Rattle.marks.specs.Marks.{is_pending, count_if}
use Rattle.marks.specs.Turned.{released}
use Rattle.marks.proofs.LawsMapped.{mapped}
use Rattle.marks_pending.proofs.release.Given as goal

abbrev pub invariant-loop-part : goal.invariant-loop-part
invariant-loop-part l =
    (length l.marks ≡ length l.initial.marks) × (l.marks ≡ mapped (released l.zero) (l.part * 64) l.initial.marks)
    × (l.n + count_if is_pending (drop (l.part * 64) l.initial.marks) ≡ count_if is_pending l.initial.marks)
