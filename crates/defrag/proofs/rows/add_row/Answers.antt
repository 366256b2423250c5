-- `defrag::rows::add_row` meets its contract: no row, or one. Assumes nothing.
use mathlib.Core.Path.{◌≡◌, refl, sym, ◌∙◌}
use Prim.Native.Nat.{◌+◌}
use borrow.Author.Tests.{not-true, not-false}
use native.Mathlib.Omega.{arith}
use Rattle.defrag.proofs.Written.{row_of_none, row_of_some}
use Rattle.defrag.proofs.rows.add_row.Goals as goal

pub returns-then-not-movable : goal.returns-then-not-movable
returns-then-not-movable c =
    let a = c.args in
    let e = row_of_none a.locations.now a.location a.owner (sym c.movable.ensures ∙ not-true _ c.if-not-movable.true-raw) in
    (rw e (omega arith), rw e refl, rw e refl)

pub returns : goal.returns
returns c =
    let a = c.args in
    let e = row_of_some a.locations.now a.location a.owner (sym c.movable.ensures ∙ not-false _ c.if-not-movable.false-raw) in
    let z : a.n + 0 ≡ a.n = omega arith in
    (rw e (omega arith), rw (e, ← z) c.put.ensures, rw (e, ← z) c.put-2.ensures)
