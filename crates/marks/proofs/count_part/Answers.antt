-- `count_part` meets its contract: what is summed is 1 where the mark is the one, else 0. Assumes nothing.
use Rattle.std.proofs.Common.{rules, ◌≡◌, ◌∙◌}
use Rattle.std.specs.List.{count_by}
use Rattle.marks.specs.Turned.{is_mark}
use Rattle.marks.proofs.LawsCount.{count_if_by}
use Rattle.marks.proofs.count_part.Goals as goal

pub returns : goal.returns
returns c =
    let counted : c.sum.result ≡ count_by (is_mark c.args.mark) c.args.marks.now = search rules in
    counted ∙ count_if_by (is_mark c.args.mark) c.args.marks.now
