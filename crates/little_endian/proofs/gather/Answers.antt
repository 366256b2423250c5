-- The fold from the last byte to the first: `word_gathered`. Assumes nothing.
use Rattle.std.proofs.Common.{◌≡◌, rules, reverse}
use Rattle.std.specs.List.{fold}
use Rattle.little_endian.proofs.Laws.{gather_byte, word_gathered}
use Rattle.little_endian.proofs.gather.Goals as goal

pub returns : goal.returns
returns c =
    let l = c.args.bytes.now in
    let e : c.fold.result ≡ fold gather_byte 0 (reverse l) = search rules in
    word_gathered l c.fold.result (λ k. (c.type_inv.bytes k).fits) c.requires e
