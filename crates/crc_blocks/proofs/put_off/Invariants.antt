use mathlib.Core.Path.{◌≡◌}
use lib.ListN.{length, take, drop}
use Rattle.crc_blocks.specs.Sparse.{pend, Off}
use Rattle.crc_blocks.proofs.put_off.Given as goal

abbrev pub invariant-loop-j : goal.invariant-loop-j
invariant-loop-j l =
    record {
      made_length : length l.made ≡ 2563;
      put_off : Off (take l.j l.bytes) (pend (take 515 l.initial.made)) (pend (take 515 (drop l.j l.made)));
    }
