use mathlib.Core.Path.{◌≡◌}
use Prim.Native.Nat.{◌+◌, ◌-◌, ◌*◌}
use lib.ListN.{drop}
use Rattle.snapshot_blocks.specs.Formats.{Format}
use Rattle.snapshot_blocks.specs.Blocks.{above, ascending, entries_in}
use Rattle.snapshot_blocks.proofs.is_ascending.Given as goal

abbrev pub invariant-loop-i : goal.invariant-loop-i
invariant-loop-i l =
    (f : Format) → f.width ≡ l.width → above l.before (entries_in f (l.count - l.i) (drop ((16 + l.width) * l.i) l.rows)) ≡ ascending (entries_in f l.count l.rows)
