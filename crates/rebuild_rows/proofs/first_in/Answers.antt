-- The loop's invariant: the first repeat from the present location on, by the present marks, is the first of all. Assumes nothing.
use Prim.Native.Nat.{◌+◌}
use mathlib.Core.Path.{◌≡◌, ap, sym, ◌∙◌}
use lib.ListN.{length, drop, length-replicate}
use native.Mathlib.Omega.{arith}
use Rattle.rebuild_rows.specs.Checks.{repeat_in}
use Rattle.rebuild_rows.proofs.Turns.{length_marked_by, repeat_in_here, repeat_in_next, repeat_in_end}
use Rattle.rebuild_rows.proofs.first_in.Goals as goal

pub shape_of-marks-then-repeats : goal.shape_of-marks-then-repeats
shape_of-marks-then-repeats c =
    let b = c.loop-i in
    ap length c.repeats.ensures.1 ∙ length_marked_by c.args.group b.marks _ ∙ b.invariant.0 ∙ ap length (c.fill.ensures.after (λ y e. e)) ∙ length-replicate _ 0

pub returns-then-repeats : goal.returns-then-repeats
returns-then-repeats c =
    let a = c.args in
    let b = c.loop-i in
    sym (repeat_in_here a.group b.marks a.locations.now b.i (omega arith) (sym c.repeats.ensures.0 ∙ c.if-repeats.true)) ∙ b.invariant.1
    ∙ ap (λ t. repeat_in a.group t 0 a.locations.now) (c.fill.ensures.after (λ y e. e))

pub loop-i-preserved : goal.loop-i-preserved
loop-i-preserved c =
    let a = c.args in
    let b = c.loop-i in
    let e = c.repeats.ensures in (
      ap length e.1 ∙ length_marked_by a.group b.marks _ ∙ b.invariant.0,
      ap (λ t. repeat_in a.group t (b.i + 1) (drop (b.i + 1) a.locations.now)) e.1
          ∙ sym (repeat_in_next a.group b.marks a.locations.now b.i (omega arith) (sym e.0 ∙ c.if-repeats.false)) ∙ b.invariant.1,
    )

pub shape_of-marks : goal.shape_of-marks
shape_of-marks c = c.loop-i.invariant.0 ∙ ap length (c.fill.ensures.after (λ y e. e)) ∙ length-replicate _ 0

pub returns : goal.returns
returns c =
    let a = c.args in
    let b = c.loop-i in
    let e : length a.locations.now ≡ b.i = omega arith in
    e ∙ sym (repeat_in_end a.group b.marks a.locations.now b.i (omega arith)) ∙ b.invariant.1 ∙ ap (λ t. repeat_in a.group t 0 a.locations.now) (c.fill.ensures.after (λ y e. e))
