-- `updates::earlier` meets its contract: where `near` is false its `requires` says that no earlier id is the same. Assumes nothing.
use mathlib.Core.Path.{sym}
use Rattle.offer_updates.proofs.earlier.Goals as goal

pub returns-then-not-near : goal.returns-then-not-near
returns-then-not-near c = sym (c.requires.1 c.if-not-near.true)
