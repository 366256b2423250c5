-- `updates::location_of` meets its contract: its `requires` says what was found. Assumes nothing.
use native.Mathlib.Omega.{arith}
use Rattle.offer_updates.proofs.location_of.Goals as goal

pub returns-then-i-lt-MOST_UPDATES : goal.returns-then-i-lt-MOST_UPDATES
returns-then-i-lt-MOST_UPDATES c =
    let p = c.requires in
    p.2 c.args.i p.0 (omega arith)
