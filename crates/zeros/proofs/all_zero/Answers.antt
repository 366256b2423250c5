use mathlib.Core.Path.{◌≡◌}
use lib.Bits.{bit_or}
use Rattle.std.specs.List.{fold}
use borrow.Author.Rules.{rules}
use Rattle.zeros.proofs.Laws.{joined_bytes}
use Rattle.zeros.proofs.all_zero.Goals as goal

pub returns-then-bytes-lt-WORD : goal.returns-then-bytes-lt-WORD
returns-then-bytes-lt-WORD c =
    let l = c.args.bytes.now in
    let e : c.fold.result ≡ fold bit_or 0 l = search rules in
    rw e (joined_bytes l 0)
