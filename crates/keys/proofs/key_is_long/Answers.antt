use mathlib.Core.Path.{ap}
use lib.Dec.{ltb}
use Rattle.keys.specs.Keys.{key_is_long}
use Rattle.keys.proofs.key_is_long.Goals as goal

pub returns : goal.returns
unfolding key_is_long
returns c = ap (ltb 64) c.get_at.ensures
