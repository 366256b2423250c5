-- `replay_words::file::space` meets its contract: the length by the law on repeats. Assumes nothing.
use mathlib.Core.Path.{refl, sym}
use Prim.Native.Nat.{ℕ}
use lib.ListN.{length-replicate}
use Rattle.replay_words.specs.Space.{zeros}
use Rattle.replay_words.proofs.file.space.Goals as goal

pub returns : goal.returns
unfolding zeros
returns c = record {
  value = refl;
  len = sym (length-replicate {A = ℕ} 1048576 0);
}
