-- `crc_words::to_five` meets its contract: the last five words come after those that are put off.
-- Assumes nothing.
use mathlib.Core.Path.{sym, ap, ◌∙◌}
use mathlib.Core.List.{List}
use Prim.Native.Nat.{ℕ, ◌-◌}
use native.Mathlib.Omega.{arith}
use lib.ListN.{length, drop, length-drop}
use Rattle.std.proofs.lemmas.List.{take-append-drop}
use Rattle.crc_words.specs.Fold.{held, register_after, Passed}
use Rattle.crc_words.proofs.to_five.Goals as goal

pub returns : goal.returns
unfolding Passed
returns c =
    let ws = c.args.words.now in
    let n = length ws - 5 in
    ap (λ (us : List (List ℕ)). register_after us (held c.args.z)) (sym (take-append-drop n ws)) ∙ c.put_far.ensures (drop n ws) (simp length-drop (omega arith))
