-- The invariant: of the rows from i on some is refused exactly if of all some is.
use mathlib.Core.Path.{◌≡◌, sym, ap, ◌∙◌}
use Prim.Native.Nat.{ℕ, ◌+◌, ◌-◌, ◌*◌}
use native.Mathlib.Omega.{arith}
use Rattle.snapshot_blocks.specs.Formats.{version2}
use Rattle.snapshot_blocks.specs.Blocks.{entries_in, any_refused}
use Rattle.snapshot_blocks.proofs.Refused.{refused_met, refused_turn, refused_done}
use Rattle.snapshot_blocks.proofs.any_refused.Goals as goal

pub loop-i-init : goal.loop-i-init
loop-i-init c =
    let a = c.args in
    let e : a.count - 0 ≡ a.count = omega arith in
    ap (λ (k : ℕ). any_refused version2 (entries_in version2 k a.rows.now)) e

pub returns-then-is_refused : goal.returns-then-is_refused
returns-then-is_refused c =
    let a = c.args in
    let v = c.loop-i in
    sym (refused_met version2 a.rows.now a.count v.i (96 * v.i) c.loop-i-test.true (sym c.is_refused.ensures ∙ c.if-is_refused.true)) ∙ v.invariant

pub loop-i-preserved : goal.loop-i-preserved
loop-i-preserved c =
    let a = c.args in
    let v = c.loop-i in
    refused_turn version2 a.rows.now a.count v.i (96 * v.i) c.loop-i-test.true (sym c.is_refused.ensures ∙ c.if-is_refused.false) (96 * (v.i + 1)) (omega arith) ∙ v.invariant

pub returns : goal.returns
returns c =
    let a = c.args in
    let v = c.loop-i in
    sym (refused_done version2 a.rows.now a.count v.i (96 * v.i) c.loop-i-test.false) ∙ v.invariant
