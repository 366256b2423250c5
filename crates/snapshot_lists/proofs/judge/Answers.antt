-- The invariant: the verdict on the blocks from here on is that on all.
use mathlib.Core.Path.{sym, ap, ◌∙◌}
use Rattle.std.specs.Prelude.{Err}
use Rattle.snapshot_blocks.specs.Formats.{format_of}
use Rattle.snapshot_lists.specs.Lists.{judged}
use Rattle.snapshot_lists.proofs.Turns.{minus_zero, judged_turn, judged_here, judged_done}
use Rattle.snapshot_lists.proofs.judge.Goals as goal

pub loop-number-init : goal.loop-number-init
loop-number-init c = ap (judged format_of c.args.file.now 0) (minus_zero c.args.blocks)

pub returns-in-Some : goal.returns-in-Some
returns-in-Some c = ap Err c.at.ensures ∙ judged_here _ _ _ c.loop-number-test.true format_of _ c.wrong_at.ensures _ c.in-Some.is ∙ c.loop-number.invariant

pub loop-number-preserved : goal.loop-number-preserved
loop-number-preserved c = judged_turn _ _ _ c.loop-number-test.true format_of _ c.wrong_at.ensures c.in_default.is ∙ c.loop-number.invariant

pub returns : goal.returns
returns c = sym (judged_done _ _ _ c.loop-number-test.false format_of) ∙ c.loop-number.invariant
