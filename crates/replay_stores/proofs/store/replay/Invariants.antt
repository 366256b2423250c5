use Rattle.std.proofs.Common.{◌≤◌}
use Rattle.replay_stores.proofs.store.replay.Given as goal

abbrev pub invariant-loop-line : goal.invariant-loop-line
invariant-loop-line g l = (l.capacities.0 ≤ 512) × (l.capacities.1.0 ≤ 512)
