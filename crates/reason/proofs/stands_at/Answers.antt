-- The counts of the slab's marks by its own words. Assumes nothing.
use Rattle.reason.proofs.Laws.{standing_is}
use Rattle.reason.proofs.stands_at.Goals as goal

pub returns : goal.returns
returns c =
    let a = c.args in
    standing_is a.slots a.slot_marks.now a.tallies.now a.address _ _ _ _ _ _ c.get-hint.ensures c.get-used.ensures c.slab_marks-marks.ensures
    c.taken_below.ensures c.live.ensures c.tip.ensures
