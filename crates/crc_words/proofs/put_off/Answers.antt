-- `crc_words::put_off` meets its contract: a word is read, where `after` words come after it.
-- Assumes nothing.
use mathlib.Core.Path.{sym, ◌∙◌}
use mathlib.Core.List.{[]}
use Prim.Native.Nat.{◌*◌}
use native.Mathlib.Omega.{arith}
use Rattle.crc_words.specs.Fold.{held}
use Rattle.crc_words.proofs.Read.{onward}
use Rattle.crc_words.proofs.put_off.Goals as goal

pub returns : goal.returns
returns g c =
    let y = c.earlier.result in
    let r = c.turn.result in
    let w = c.load.result in
    let after = c.args.after in
    sym
    (onward c.args.words.now [] after (64 * after) w (held y) (held r)
    (c.requires.turns y r w c.turn.ensures)
    (omega arith)
    (omega arith)
    c.load.ensures)
    ∙ c.requires.reaches y c.earlier.ensures
