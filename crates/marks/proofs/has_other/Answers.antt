-- `has_other` meets its contract: what is found among the marks passed. Assumes nothing.
use Rattle.std.proofs.Common.{rules, ◌≡◌, refl, subst}
use Rattle.std.proofs.lemmas.Fn.{fold_over, slice_gives, fronts}
use Rattle.marks.specs.Turned.{has_other}
use Rattle.marks.proofs.LawsCalm.{has_other_more}
use Rattle.marks.proofs.has_other.Goals as goal

pub returns : goal.returns
unfolding has_other
returns c = subst (λ l. c.fold.result ≡ has_other c.args.mark l) c.iter.ensures.rest
    (fold_over fronts (λ y. y.now) _ (λ ys b. b ≡ has_other c.args.mark ys) _ (λ ys a x b f' j k. let more = has_other_more c.args.mark ys x.now in search rules)
    _ _ _ _ (slice_gives c.iter.result) refl c.fold.ensures.ran)
