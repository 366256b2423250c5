-- `defrag::rows::movable` meets its contract, a test at a time. Assumes nothing.
use lib.ListN.{length}
use borrow.Author.Tests.{le-ltb, lt-ltb}
use native.Mathlib.Omega.{arith}
use mathlib.Core.Path.{◌≡◌}
use mathlib.Core.Bool.{true, false}
use lib.Dec.{ltb}
use Rattle.defrag.proofs.rows.movable.Goals as goal

pub returns-then-id-eq0 : goal.returns-then-id-eq0
returns-then-id-eq0 c = let e : ltb 0 c.args.owner ≡ false = le-ltb 0 c.args.owner (omega arith) in rw e

pub returns-then-id-locations : goal.returns-then-id-locations
returns-then-id-locations c =
    let a = c.args in
    let low : ltb 0 a.owner ≡ true = lt-ltb 0 a.owner (omega arith) in
    let high : ltb a.owner (length a.locations.now) ≡ false = le-ltb a.owner (length a.locations.now) (omega arith) in
    rw (low, high)

pub returns : goal.returns
returns c =
    let a = c.args in
    let low : ltb 0 a.owner ≡ true = lt-ltb 0 a.owner (omega arith) in
    let high : ltb a.owner (length a.locations.now) ≡ true = lt-ltb a.owner (length a.locations.now) (omega arith) in
    rw (low, high)
