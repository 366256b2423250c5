-- `crc_words::put_far` meets its contract: the blocks of five are put off, and then the words after them.
-- Assumes nothing.
use mathlib.Core.Path.{sym, ◌∙◌, subst}
use mathlib.Core.List.{List, ◌∷◌, ◌++◌}
use Prim.Native.Nat.{ℕ, ◌/◌}
use lib.ListN.{length}
use Rattle.std.specs.List.{flat_map}
use Rattle.crc_words.specs.Fold.{held, register_after, Far}
use Rattle.crc_words.proofs.Passed.{passed_append, joined}
use Rattle.crc_words.proofs.put_far.Goals as goal

pub returns-in-Some : goal.returns-in-Some
returns-in-Some c =
    let ws = c.args.words.now in
    let first = c.in-Some.first.now in
    let others = c.in-Some.others.now in
    let rest = c.as_chunks.result.1.now in
    let z = held c.args.z in
    let r = held c.singles-in-Some.result in
    subst (λ (us : List (List ℕ)). Far us z r)
    (joined 5 (length ws / 5) ws rest (first ∷ others) (sym c.in-Some.ensures.cases.0 ∙ c.as_chunks.ensures.front) c.as_chunks.ensures.back)
    (passed_append register_after 5 (first ++ flat_map (λ words. words) others) rest z (held c.fives.result) r c.fives.ensures c.singles-in-Some.ensures)
