-- `id_allocator::smallest_free` meets its contract: the search starts at the hint, or at the end where the hint is past it. Assumes nothing.
use mathlib.Core.Path.{sym, ap, ◌∙◌}
use Prim.Native.Nat.{max}
use Rattle.marks.specs.Marks.{smallest_free}
use Rattle.id_allocator.proofs.LawsHinted.{hinted_search}
use Rattle.id_allocator.proofs.smallest_free.Goals as goal

pub returns : goal.returns
returns c =
    let a = c.args in
    let start = c.max-start.ensures ∙ ap (max a.from) c.min.ensures in
    c.smallest_free.ensures ∙ sym (hinted_search a.hint a.from a.marks.now ∙ ap (λ k. smallest_free k a.marks.now) (sym start))
