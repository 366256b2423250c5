use mathlib.Core.Path.{◌≡◌}
use lib.ListN.{length, drop}
use Rattle.rebuild_rows.specs.Checks.{repeat_in}
use Rattle.rebuild_rows.proofs.first_in.Given as goal

abbrev pub invariant-loop-i : goal.invariant-loop-i
invariant-loop-i l = (length l.marks ≡ length l.initial.marks) × (repeat_in l.group l.marks l.i (drop l.i l.locations) ≡ repeat_in l.group l.initial.marks 0 l.locations)
