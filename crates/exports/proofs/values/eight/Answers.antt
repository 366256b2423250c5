use mathlib.Core.Path.{sym}
use mathlib.Core.List.{[], ◌∷◌}
use Rattle.exports.proofs.Laws.{all_words}
use borrow.Author.Rules.{rules}
use Rattle.exports.proofs.values.eight.Goals as goal

pub bounds-values-4 : goal.bounds-values-4
bounds-values-4 c = search rules depth 8

pub bounds-values-5 : goal.bounds-values-5
bounds-values-5 c = search rules depth 8

pub bounds-values-6 : goal.bounds-values-6
bounds-values-6 c = search rules depth 10

pub bounds-values-7 : goal.bounds-values-7
bounds-values-7 c = search rules depth 10

pub returns : goal.returns
returns c = sym (all_words (_ ∷ _ ∷ _ ∷ _ ∷ _ ∷ _ ∷ _ ∷ _ ∷ []) c.args.values.now c.requires)
