use mathlib.Core.Path.{sym, ap, ◌∙◌}
use lib.Seq.{length-take-le}
use Rattle.frame.specs.Frame.{object_part}
use Rattle.frame.proofs.Laws.{verdict_within}
use Rattle.frame.proofs.Slab.read.Goals as goal
use Rattle.std.specs.Prelude.{Result, ℕ}
use Rattle.refusal.specs.declared.Refusal.{Refusal}

pub returns-in_default : goal.returns-in_default
unfolding object_part
returns-in_default c = ap (λ (v : Result ℕ Refusal). object_part v c.args.slot.now) (sym c.in_default.is ∙ c.verdict.ensures)

pub slice_bounds-result-end-2 : goal.slice_bounds-result-end-2
slice_bounds-result-end-2 c = sym (length-take-le _ _ (verdict_within _ _ (sym c.verdict.ensures ∙ c.in-Ok.is)))

pub returns : goal.returns
unfolding object_part
returns c = ap (λ (v : Result ℕ Refusal). object_part v c.args.slot.now) (sym c.in-Ok.is ∙ c.verdict.ensures)
