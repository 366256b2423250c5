use Rattle.std.proofs.Common.{◌∙◌, sym, ap}
use lib.Ieee as Ieee
use Rattle.replay_words.proofs.RatioLaws.{ratio_of-narrow, ratio_of-wide}
use Rattle.replay_words.proofs.ratios.ratio.Goals as goal

pub returns-in-Ok : goal.returns-in-Ok
returns-in-Ok c =
    let narrow = c.in-Ok.ensures in
    c.f32_from_bits_with_nan.ensures ∙ ap (Ieee.of_bits Ieee.binary32) narrow.1 ∙ sym (ratio_of-narrow c.args.bits narrow.0)

pub returns-in-Err : goal.returns-in-Err
unfolding Ieee.of_bits
returns-in-Err c = sym (ratio_of-wide c.args.bits c.in-Err.ensures)
