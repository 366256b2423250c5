use mathlib.Core.List.{[], ◌++◌}
use lib.ListN.{take}
use Rattle.std.specs.List.{flat_map}
use Rattle.crc_blocks.specs.Sparse.{pend, Off}
use Rattle.crc_blocks.proofs.many.Given as goal

abbrev pub invariant-loop-block : goal.invariant-loop-block
invariant-loop-block l = Off ([] ++ flat_map (λ block. block) (take l.block-index l.blocks)) (pend (take 515 l.initial.made)) (pend (take 515 l.made))
