-- Whether it is among those before it, in whichever order they are looked at. Assumes nothing.
use mathlib.Core.Path.{◌∙◌}
use native.Mathlib.Omega.{arith}
use lib.ListN.{get_or}
use Rattle.offer_updates.proofs.Laws.{repeated_any}
use Rattle.offer_updates.proofs.repeated.Goals as goal

pub returns : goal.returns
returns c =
    let a = c.args in
    c.contains.ensures.value ∙ repeated_any (get_or a.ids.now a.i 0) a.ids.now a.i (omega (arith, c.requires))
