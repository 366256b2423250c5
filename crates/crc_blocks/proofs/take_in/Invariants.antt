use mathlib.Core.Path.{◌≡◌}
use Prim.Native.Nat.{ℕ, ◌≤◌, ◌<◌}
use lib.ListN.{length, get_or}
use Rattle.crc_blocks.specs.Sparse.{taken_in}
use Rattle.crc_blocks.proofs.take_in.Given as goal

abbrev pub invariant-loop-j : goal.invariant-loop-j
invariant-loop-j l =
    record {
      window_length : length l.window ≡ 1030;
      written : (k : ℕ) → k < l.j → get_or l.window k 0 ≡ taken_in l.initial.window k (get_or l.last k 0);
      ahead : (k : ℕ) → l.j ≤ k → get_or l.window k 0 ≡ get_or l.initial.window k 0;
    }
