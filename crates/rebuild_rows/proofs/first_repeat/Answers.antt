-- As many marks as a slab has slots. Assumes nothing.
use mathlib.Core.Path.{ap, ◌∙◌}
use lib.ListN.{length}
use lib.Seq.{length-take-le}
use borrow.Author.Rules.{rules}
use Rattle.rebuild_rows.specs.Checks.{groups, repeats_from}
use Rattle.rebuild_rows.proofs.first_repeat.Goals as goal

pub returns : goal.returns
returns c =
    let a = c.args in
    c.first_repeat_by.ensures ∙ ap (λ n. repeats_from n a.locations.now groups 0 (length a.locations.now)) (length-take-le a.slots _ (search rules))
