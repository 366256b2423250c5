use lib.ListN.{take}
use Rattle.crc_words.specs.Fold.{held, Far}
use Rattle.crc_words.proofs.singles.Given as goal

abbrev pub invariant-loop-word : goal.invariant-loop-word
invariant-loop-word l = Far (take l.word-index l.words) (held l.initial.z) (held l.z)
