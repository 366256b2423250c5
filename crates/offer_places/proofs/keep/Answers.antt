-- `places::keep` meets its contract: three writes, one after the other. Assumes nothing.
use Rattle.offer_places.proofs.Laws.{kept_is}
use Rattle.offer_places.proofs.keep.Goals as goal

pub returns : goal.returns
returns c =
    let a = c.args in
    kept_is _ _ _ _ a.ids.now a.placed.now a.opened c.copy.ensures c.copy-2.ensures c.put.ensures
