-- The fold joins the words, and they are all the bytes. Assumes nothing.
use mathlib.Core.Path.{◌≡◌}
use Prim.Native.Nat.{◌/◌}
use native.Mathlib.Omega.{arith}
use lib.ListN.{length}
use Rattle.std.specs.List.{fold}
use Rattle.std.specs.Simd.{first_chunks}
use borrow.Author.Rules.{rules}
use Rattle.zeros.proofs.Laws.{join_word, joined_words}
use Rattle.zeros.proofs.joined.Goals as goal

pub returns : goal.returns
returns c =
    let l = c.args.bytes.now in
    let e : c.fold.result ≡ fold join_word 0 (first_chunks 8 (length l / 8) l) = search rules in
    rw e (joined_words (length l / 8) l 0 (omega arith))
