-- `truncation::raise` meets its contract: at tip 0 nothing is written, else the larger of mark and top. Assumes nothing.
use Rattle.truncation.proofs.Laws.{raised}
use Rattle.truncation.proofs.raise.Goals as goal

pub returns : goal.returns
returns c =
    let a = c.args in
    raised a.tallies.now _ a.slab a.tip _ _ c.if-tip-eq0.false c.get-high.ensures c.max.ensures c.put.ensures
