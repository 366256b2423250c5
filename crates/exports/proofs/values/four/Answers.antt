use mathlib.Core.Path.{sym}
use mathlib.Core.List.{[], ◌∷◌}
use Rattle.exports.proofs.Laws.{all_words}
use Rattle.exports.proofs.values.four.Goals as goal

pub returns : goal.returns
returns c = sym (all_words (_ ∷ _ ∷ _ ∷ _ ∷ []) c.args.values.now c.requires)
