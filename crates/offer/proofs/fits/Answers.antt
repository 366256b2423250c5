-- `offer::fits` meets its contract: the same tests, joined. Assumes nothing.
use mathlib.Core.Bool.{Bool, ◌&&◌}
use mathlib.Core.Path.{ap, ◌∙◌}
use lib.Dec.{eqb}
use Rattle.offer.specs.Verdicts.{offer_fits}
use Rattle.offer.proofs.fits.Goals as goal

pub returns : goal.returns
unfolding offer_fits
returns c =
    let a = c.args in
    let lists = c.both-2.ensures ∙ ap (λ (x : Bool). x && eqb a.placed a.ids) c.both.ensures in
    let own = c.both-3.ensures ∙ (λ k. lists k && c.carries.ensures k) in
    c.both-4.ensures ∙ (λ k. c.all_fit.ensures k && own k)
