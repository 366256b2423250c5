-- `pending::release_some` meets its contract: what is passed over is as it would be written. Assumes nothing.
use mathlib.Core.Path.{sym}
use Rattle.marks_pending.proofs.release_some.Goals as goal

pub returns : goal.returns
returns c = let e = c.stirs.ensures c.if-stirs.false in (sym e.0, e.1)
