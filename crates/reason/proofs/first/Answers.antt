-- All the marks, or a part from the start. Assumes nothing.
use mathlib.Core.Path.{◌≡◌, sym, ap, ◌∙◌}
use Prim.Native.Nat.{◌-◌}
use native.Mathlib.Omega.{arith}
use lib.ListN.{length, take}
use lib.Seq.{take_all}
use Rattle.reason.proofs.first.Goals as goal

pub returns-then-marks-n : goal.returns-then-marks-n
returns-then-marks-n c =
    let a = c.args in
    take_all (length a.marks.now - 0) a.marks.now (omega arith) ∙ sym (take_all a.n a.marks.now c.if-marks-n.true)

pub returns : goal.returns
returns c =
    let a = c.args in
    let e : a.n - 0 ≡ a.n = omega arith in
    ap (λ n. take n a.marks.now) e
