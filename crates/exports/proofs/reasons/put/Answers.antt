use mathlib.Core.Path.{sym}
use mathlib.Core.List.{[], ◌∷◌}
use Rattle.exports.proofs.Laws.{all_words}
use borrow.Author.Rules.{rules}
use Rattle.exports.proofs.reasons.put.Goals as goal

pub bounds-told-4 : goal.bounds-told-4
bounds-told-4 c = search rules depth 8

pub bounds-told-5 : goal.bounds-told-5
bounds-told-5 c = search rules depth 8

pub bounds-told-6 : goal.bounds-told-6
bounds-told-6 c = search rules depth 10

pub returns : goal.returns
returns c = sym (all_words (_ ∷ _ ∷ _ ∷ _ ∷ _ ∷ _ ∷ _ ∷ []) c.args.told.now c.requires)
