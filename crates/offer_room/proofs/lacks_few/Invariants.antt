use Rattle.std.proofs.Common.{◌≡◌, ◌≤◌, ◌+◌, length, drop}
use Rattle.marks.specs.Marks.{is_free, count_if}
use Rattle.id_allocator.specs.Counted.{hinted}
use Rattle.offer_room.proofs.lacks_few.Given as goal

abbrev pub invariant-loop : goal.invariant-loop
invariant-loop l = (l.from ≤ length l.marks) × (count_if is_free (hinted l.hint l.marks) ≡ count_if is_free (drop l.from (hinted l.hint l.marks)) + l.counter)
