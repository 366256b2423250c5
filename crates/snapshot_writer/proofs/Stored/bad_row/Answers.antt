-- `bad_row` meets its contract: an id without a row is not asked for its location. Assumes nothing.
use Rattle.snapshot_writer.proofs.LawsRows.{bad_own}
use Rattle.snapshot_writer.proofs.Stored.bad_row.Goals as goal

pub returns-then-stored : goal.returns-then-stored
returns-then-stored c =
    let a = c.args in
    bad_own a.slots a.self.locations.now a.slot_marks.now a.owners.now a.self.tallies.now a.id c.get.result a.stored c.bad_location.result c.get.ensures
    c.if-stored.true c.bad_location.ensures
