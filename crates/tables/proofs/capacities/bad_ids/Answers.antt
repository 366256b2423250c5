use Rattle.std.proofs.Common.{le-ltb, lt-ltb}
use Rattle.model.specs.Tables.{bad_ids}
use Rattle.tables.proofs.capacities.bad_ids.Goals as goal

pub returns-then-ids-lt2 : goal.returns-then-ids-lt2
unfolding bad_ids
returns-then-ids-lt2 c = simp (lt-ltb _ _ c.if-ids-lt2.true)

pub returns-else-ids-lt2 : goal.returns-else-ids-lt2
unfolding bad_ids
returns-else-ids-lt2 c = simp (le-ltb _ _ c.if-ids-lt2.false)
