-- `offer::decides` meets its contract: an update before this one decides, and of this one the kinds that come before its key. Assumes nothing.
use mathlib.Core.Path.{◌∙◌}
use Rattle.offer.proofs.LawsOffer.{decides_other, decides_here}
use Rattle.offer.proofs.decides.Goals as goal

pub returns-then-refusal-long : goal.returns-then-refusal-long
returns-then-refusal-long c = let a = c.args in decides_other a.refusal.kind a.refusal.index a.long c.if-refusal-long.true

pub returns : goal.returns
returns c = let a = c.args in c.before_keys.ensures ∙ decides_here a.refusal.kind a.refusal.index a.long c.if-refusal-long.false
