-- `rows::repeats` meets its contract: another group's location changes nothing. Assumes nothing.
use mathlib.Core.Path.{◌≡◌, ap, refl, ◌∙◌}
use mathlib.Core.Bool.{true, false}
use Prim.Native.Nat.{◌%◌}
use lib.Dec.{eqb}
use lib.ListN.{set}
use borrow.Author.Tests.{ne_eqb, eq-eqb}
use Rattle.address.specs.Address.{unit}
use Rattle.rebuild_rows.specs.Checks.{group_of, bit_of, has_bit, with_bit, repeats_at, marked_by}
use Rattle.rebuild_rows.proofs.repeats.Goals as goal

pub returns-then-top-group : goal.returns-then-top-group
unfolding repeats_at marked_by
returns-then-top-group c =
    let a = c.args in
    let e : eqb (group_of a.location) a.group ≡ false = ne_eqb _ _ c.if-top-group.true in
    (rw e, rw e refl)

pub returns : goal.returns
unfolding repeats_at marked_by
returns c =
    let a = c.args in
    let e : eqb (group_of a.location) a.group ≡ true = eq-eqb _ _ c.if-top-group.false in
    let m = c.mark_at-mark.ensures in (
      rw e (c.has_bit.ensures ∙ ap (λ x. has_bit x (bit_of a.location)) m),
      rw e (c.put.ensures ∙ ap (set a.marks.now (a.location % unit)) (c.with_bit.ensures ∙ ap (λ x. with_bit x (bit_of a.location)) m)),
    )
