-- `id_allocator::tip` meets its contract: by the last taken number, and where there is none by the used word. Assumes nothing.
use mathlib.Core.Path.{sym, ap, ◌∙◌}
use Rattle.marks.specs.Marks.{tip_of}
use Rattle.marks.proofs.LawsCount.{tip_of_taken, tip_of_used}
use Rattle.id_allocator.proofs.tip.Goals as goal

pub returns-then-last-ne0 : goal.returns-then-last-ne0
returns-then-last-ne0 c = let used = c.args.used in sym (tip_of_taken _ used c.if-last-ne0.true) ∙ ap (λ n. tip_of n used) c.last_taken-last.ensures

pub returns-then-used-ne0 : goal.returns-then-used-ne0
returns-then-used-ne0 c =
    let used = c.args.used in
    sym (tip_of_used used c.if-used-ne0.true) ∙ ap (λ n. tip_of n used) (sym c.if-last-ne0.false ∙ c.last_taken-last.ensures)

pub returns-else-used-ne0 : goal.returns-else-used-ne0
returns-else-used-ne0 c =
    let used = c.args.used in
    ap (tip_of 0) (sym c.if-used-ne0.false) ∙ ap (λ n. tip_of n used) (sym c.if-last-ne0.false ∙ c.last_taken-last.ensures)
