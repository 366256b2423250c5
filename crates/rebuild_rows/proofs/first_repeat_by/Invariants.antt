use Prim.Native.Nat.{◌≤◌, ◌-◌}
use mathlib.Core.Path.{◌≡◌}
use lib.ListN.{length}
use Rattle.rebuild_rows.specs.Checks.{groups, repeats_from}
use Rattle.rebuild_rows.proofs.first_repeat_by.Given as goal

abbrev pub invariant-loop-group : goal.invariant-loop-group
invariant-loop-group l =
    (l.end ≤ length l.locations) × (length l.marks ≡ length l.initial.marks)
    × (repeats_from (length l.initial.marks) l.locations (groups - l.group) l.group l.end ≡ repeats_from (length l.initial.marks) l.locations groups 0 (length l.locations))
