-- `crc_words::singles` meets its contract: each word is put off.
-- Assumes nothing.
use mathlib.Core.List.{[]}
use native.Mathlib.Omega.{arith}
use lib.ListN.{get_or}
use Rattle.crc_words.specs.Fold.{held, register_after}
use Rattle.crc_words.proofs.Passed.{passed_none, passed_more}
use Rattle.crc_words.proofs.Read.{far_word}
use Rattle.crc_words.proofs.singles.Goals as goal

pub loop-word-init : goal.loop-word-init
loop-word-init c = passed_none register_after 5 (held c.args.from)

pub loop-word-preserved : goal.loop-word-preserved
loop-word-preserved c =
    let ws = c.args.words.now in
    let i = c.loop-word.word-index in
    let z = held c.loop-word.z in
    let r = held c.far-z.result in
    passed_more register_after 5 ws i [] (held c.args.from) z r (omega arith) c.loop-word.invariant (far_word (get_or ws i []) c.load.result z r c.far-z.ensures c.load.ensures)
