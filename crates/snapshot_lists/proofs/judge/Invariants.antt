use mathlib.Core.Path.{◌≡◌}
use Prim.Native.Nat.{◌-◌}
use Rattle.snapshot_blocks.specs.Formats.{format_of}
use Rattle.snapshot_lists.specs.Lists.{judged}
use Rattle.snapshot_lists.proofs.judge.Given as goal

abbrev pub invariant-loop-number : goal.invariant-loop-number
invariant-loop-number l = judged format_of l.file l.number (l.blocks - l.number) ≡ judged format_of l.file 0 l.blocks
