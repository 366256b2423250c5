use mathlib.Core.Path.{◌≡◌}
use Prim.Native.Nat.{◌-◌, ◌*◌}
use lib.ListN.{drop}
use Rattle.snapshot_blocks.specs.Formats.{version2}
use Rattle.snapshot_blocks.specs.Blocks.{entries_in, any_refused}
use Rattle.snapshot_blocks.proofs.any_refused.Given as goal

abbrev pub invariant-loop-i : goal.invariant-loop-i
invariant-loop-i l = any_refused version2 (entries_in version2 (l.count - l.i) (drop (96 * l.i) l.rows)) ≡ any_refused version2 (entries_in version2 l.count l.rows)
