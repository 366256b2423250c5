-- `fragmentation::bad_ratio` meets its contract: the two tests, joined. Assumes nothing.
use mathlib.Core.Bool.{not}
use mathlib.Core.Path.{◌≡◌, ap, ◌∙◌}
use lib.Ieee as Ieee
use Rattle.fragmentation.specs.Cutoff.{is_ratio}
use Rattle.fragmentation.proofs.bad_ratio.Goals as goal
use Rattle.fragmentation.proofs.bad_ratio.Goals.{then-r, else-r}

pub returns : goal.returns
unfolding is_ratio Ieee.of_bits
returns c =
    let is : c.if-r.result ≡ is_ratio c.args.r =
    elim c.if-r.branch [ then-r w ↦ w.result-is ∙ simp w.if-r.true | else-r w ↦ w.result-is ∙ simp w.if-r.false ] in
    ap not is
