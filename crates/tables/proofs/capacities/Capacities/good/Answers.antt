use Rattle.std.proofs.Common.{◌∙◌}
use Rattle.tables.proofs.capacities.Capacities.good.Goals as goal

pub returns : goal.returns
returns c = c.both.ensures ∙ simp (c.bad_ids.ensures, c.bad_slots.ensures)
