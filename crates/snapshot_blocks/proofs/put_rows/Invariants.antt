use mathlib.Core.Path.{◌≡◌}
use Prim.Native.Nat.{◌≤◌}
use lib.ListN.{length}
use Rattle.snapshot_blocks.specs.Blocks.{entry_for}
use Rattle.snapshot_blocks.proofs.Writing.{Laid}
use Rattle.snapshot_blocks.proofs.put_rows.Given as goal

abbrev pub invariant-loop-i : goal.invariant-loop-i
invariant-loop-i l = (l.i ≤ length l.ids) × (length l.block ≡ length l.initial.block) × Laid (entry_for 80 l.locations l.carried) l.ids l.initial.block l.i l.block
