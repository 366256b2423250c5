-- `crc_words::over_words` meets its contract: the last word is left, and after it what is pending is the register.
-- Assumes nothing.
use mathlib.Core.Path.{refl, sym, ◌∙◌}
use mathlib.Core.List.{[]}
use Prim.Native.Nat.{◌-◌}
use lib.ListN.{length, get_or}
use Rattle.crc_words.specs.Fold.{held}
use Rattle.crc_words.proofs.Read.{last_word}
use Rattle.crc_words.proofs.over_words.Goals as goal

pub with_none-requires : goal.with_none-requires
with_none-requires c =
    let words = c.args.words.now in
    let last = get_or words (length words - 1) [] in
    rw (sym (last_word words last c.load.result (held c.put_off-one.result) c.requires.words refl c.load.ensures) ∙ c.put_off-one.ensures) c.requires.register

pub returns : goal.returns
returns c =
    let words = c.args.words.now in
    let last = get_or words (length words - 1) [] in
    c.with_none.ensures
    ∙ sym (last_word words last c.load.result (held c.put_off-one.result) c.requires.words refl c.load.ensures)
    ∙ c.put_off-one.ensures
