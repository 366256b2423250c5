-- By what the location unpacks to: zero passes (bad_in_zero), no address is refused (bad_in_none), an address by its owner (bad_in_at). Assumes nothing.
use mathlib.Core.Bool.{not}
use mathlib.Core.Path.{sym, ap, ◌∙◌}
use borrow.Author.Tests.{ne_eqb}
use Rattle.tables.proofs.LawsEntries.{bad_in_zero, bad_in_none, bad_in_at}
use Rattle.commit.specs.Commit.{own_as}
use Rattle.commit.proofs.check.own_location.Goals as goal
use Rattle.commit.proofs.check.own_location.Goals.{in_default-via-in-Ok+in_default, in_default-via-in_default}
use Rattle.std.proofs.Common.{rules, Ok, Err}
use Rattle.address.proofs.Laws.{none_unpacked, none_refused}

pub returns-then-location-eq0 : goal.returns-then-location-eq0
returns-then-location-eq0 c =
    let a = c.args in
    sym (ap (λ t. own_as t a.i) (bad_in_zero a.slots a.slot_marks.now a.owners.now a.tallies.now a.id a.location c.if-location-eq0.true))

pub returns-in_default : goal.returns-in_default
returns-in_default c =
    let a = c.args in
    let u = c.unpack.result in
    let bad = bad_in_none a.slots a.slot_marks.now a.owners.now a.tallies.now a.id a.location u c.unpack.ensures (elim c.in_default.branch [
      | in_default-via-in-Ok+in_default w ↦ none_unpacked u (search rules)
      | in_default-via-in_default w ↦ none_refused u _ w.in_default.is
    ]) ∙ ap not (ne_eqb _ _ c.if-location-eq0.false) in
    ap Err c.at.ensures ∙ sym (ap (λ t. own_as t a.i) bad)

pub returns-then-not-is_owner : goal.returns-then-not-is_owner
returns-then-not-is_owner c =
    let a = c.args in
    let own = sym c.is_owner.ensures ∙ c.if-not-is_owner.true in
    let bad = bad_in_at a.slots a.slot_marks.now a.owners.now a.tallies.now a.id a.location _ (sym c.unpack.ensures ∙ c.in-Ok-Some.is ∙ ap Ok c.in-Ok-Some.field-0-is) ∙ ap not own in
    ap Err c.at-then-not-is_owner.ensures ∙ sym (ap (λ t. own_as t a.i) bad)

pub returns : goal.returns
returns c =
    let a = c.args in
    let own = sym c.is_owner.ensures ∙ c.if-not-is_owner.false in
    let bad = bad_in_at a.slots a.slot_marks.now a.owners.now a.tallies.now a.id a.location _ (sym c.unpack.ensures ∙ c.in-Ok-Some.is ∙ ap Ok c.in-Ok-Some.field-0-is) ∙ ap not own in
    sym (ap (λ t. own_as t a.i) bad)
