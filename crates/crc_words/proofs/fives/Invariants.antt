use mathlib.Core.List.{◌++◌}
use lib.ListN.{take}
use Rattle.std.specs.List.{flat_map}
use Rattle.crc_words.specs.Fold.{held, past, Far}
use Rattle.crc_words.proofs.fives.Given as goal

abbrev pub invariant-loop-words : goal.invariant-loop-words
invariant-loop-words l = Far (l.first ++ flat_map (λ words. words) (take l.words-index l.blocks)) (held l.fn.from) (past l.h)
