-- The loop's invariant: the groups left, before the present end, give the first repeat. Assumes nothing.
use lib.Seq.{length-take-le}
use Prim.Native.Nat.{◌+◌, ◌-◌}
use mathlib.Core.Path.{ap, sym, ◌∙◌}
use lib.ListN.{length, take, replicate}
use native.Mathlib.Omega.{arith}
use Rattle.rebuild_rows.specs.Checks.{groups, repeat_in, repeats_from}
use Rattle.rebuild_rows.proofs.Turns.{repeats_from_turn, repeats_from_end}
use Rattle.rebuild_rows.proofs.Groups.{repeat_in_take}
use borrow.Author.Rules.{rules}
use Rattle.rebuild_rows.proofs.first_repeat_by.Goals as goal

pub slice_bounds-first_in-end : goal.slice_bounds-first_in-end
slice_bounds-first_in-end c = sym (length-take-le c.loop-group.end c.args.locations.now c.loop-group.invariant.0)

pub loop-group-preserved : goal.loop-group-preserved
loop-group-preserved c =
    let a = c.args in
    let b = c.loop-group in
    let ls = a.locations.now in
    let e = c.first_in-end.ensures in
    let n = length a.marks.now in (
      omega (arith, e, repeat_in_take b.group (replicate (length b.marks) 0) 0 b.end ls b.invariant.0),
      search rules,
      ap (repeats_from n ls (groups - (b.group + 1)) (b.group + 1)) (e ∙ ap (λ x. repeat_in b.group (replicate x 0) 0 (take b.end ls)) b.invariant.1)
          ∙ sym (repeats_from_turn n ls b.group b.end (omega arith)) ∙ b.invariant.2,
    )

pub returns : goal.returns
returns c =
    let a = c.args in
    let b = c.loop-group in
    sym (repeats_from_end (length a.marks.now) a.locations.now b.group b.end (omega arith)) ∙ b.invariant.2
