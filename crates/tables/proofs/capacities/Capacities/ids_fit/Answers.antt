use Rattle.std.proofs.Common.{◌∙◌}
use Rattle.tables.proofs.capacities.Capacities.ids_fit.Goals as goal

pub returns : goal.returns
returns c = c.both.ensures ∙ simp c.good.ensures
