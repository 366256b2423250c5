-- The tests of an id and of what its location unpacks to: each return is the law of its case. Assumes nothing.
use mathlib.Core.Path.{sym, ap, ◌∙◌}
use native.Mathlib.Nat.{zero-add}
use lib.ListN.{get_or}
use Rattle.address.specs.Address.{unpacked}
use Rattle.address.proofs.Laws.{none_unpacked, none_refused}
use Rattle.reason.specs.Read.{without_address}
use Rattle.reason.proofs.Laws.{object_free, object_none, object_own, object_other}
use Rattle.reason.proofs.object_of.Goals as goal
use Rattle.reason.proofs.object_of.Goals.{in_default-via-in-Ok+in_default, in_default-via-in_default}
use Rattle.std.specs.Prelude.{Ok, Err}
use Rattle.std.proofs.Common.{rules}

pub returns-then-not-held_id : goal.returns-then-not-held_id
returns-then-not-held_id c =
    let a = c.args in
    object_free a.caps.ids a.caps.slots a.id_marks.now a.locations.now a.slot_marks.now a.owners.now a.tallies.now a.id (sym c.held_id.ensures ∙ c.if-not-held_id.true)

pub returns-in_default : goal.returns-in_default
returns-in_default c =
    let a = c.args in
    let u = c.unpack.result in
    let held = sym c.held_id.ensures ∙ c.if-not-held_id.false in
    let location = c.get-location.ensures ∙ ap (λ n. get_or a.locations.now n 0) (zero-add a.id) in
    let none = object_none a.caps.ids a.caps.slots a.id_marks.now a.locations.now a.slot_marks.now a.owners.now a.tallies.now a.id held u (c.unpack.ensures ∙ ap (unpacked a.caps.slots) location) in
    c.without_address.ensures ∙ ap without_address location
    ∙ elim c.in_default.branch [
      | in_default-via-in-Ok+in_default w ↦ none (none_unpacked u (search rules))
      | in_default-via-in_default w ↦ none (none_refused u _ w.in_default.is)
    ]

pub returns-then-not-is_owner : goal.returns-then-not-is_owner
returns-then-not-is_owner c =
    let a = c.args in
    let held = sym c.held_id.ensures ∙ c.if-not-held_id.false in
    let location = c.get-location.ensures ∙ ap (λ n. get_or a.locations.now n 0) (zero-add a.id) in
    let at = sym (c.unpack.ensures ∙ ap (unpacked a.caps.slots) location) ∙ c.in-Ok-Some.is ∙ ap Ok c.in-Ok-Some.field-0-is in
    ap Err c.of.ensures
    ∙ object_other a.caps.ids a.caps.slots a.id_marks.now a.locations.now a.slot_marks.now a.owners.now a.tallies.now a.id held _ at (sym c.is_owner.ensures ∙ c.if-not-is_owner.true)

pub returns : goal.returns
returns c =
    let a = c.args in
    let held = sym c.held_id.ensures ∙ c.if-not-held_id.false in
    let location = c.get-location.ensures ∙ ap (λ n. get_or a.locations.now n 0) (zero-add a.id) in
    let at = sym (c.unpack.ensures ∙ ap (unpacked a.caps.slots) location) ∙ c.in-Ok-Some.is ∙ ap Ok c.in-Ok-Some.field-0-is in
    object_own a.caps.ids a.caps.slots a.id_marks.now a.locations.now a.slot_marks.now a.owners.now a.tallies.now a.id held _ at (sym c.is_owner.ensures ∙ c.if-not-is_owner.false)
