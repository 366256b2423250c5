-- The tests of an id and of what its location unpacks to: each return is the law of its case. An id that is held is in range, so that its location is
-- read without a test. Assumes nothing.
use mathlib.Core.Path.{sym, ap, ◌∙◌}
use Rattle.std.proofs.Common.{rules}
use Rattle.refusal.specs.Refusals.{refusal}
use Rattle.address.proofs.Laws.{unpacked_at, none_unpacked, none_refused}
use Rattle.lookup.proofs.Laws.{located_free, located_none, located_own, located_other}
use Rattle.lookup_page.proofs.locate.Goals as goal
use Rattle.lookup_page.proofs.locate.Goals.{in_default-via-in-Ok+in_default, in_default-via-in_default}
use Rattle.std.specs.Prelude.{Ok, Err}

pub returns-then-not-held_id : goal.returns-then-not-held_id
returns-then-not-held_id c =
    let a = c.args in
    ap Err c.of.ensures ∙ located_free a.caps.ids a.caps.slots a.id_marks.now a.locations.now a.slot_marks.now a.owners.now a.tallies.now a.id (sym c.held_id.ensures ∙ c.if-not-held_id.true)

pub returns-in_default : goal.returns-in_default
returns-in_default c =
    let a = c.args in
    let u = c.unpack.result in
    let held = sym c.held_id.ensures ∙ c.if-not-held_id.false in
    let none = located_none a.caps.ids a.caps.slots a.id_marks.now a.locations.now a.slot_marks.now a.owners.now a.tallies.now a.id held u c.unpack.ensures in
    ap Err (c.of-in_default.ensures ∙ ap (λ n. refusal n 0) c.without_address.ensures)
    ∙ elim c.in_default.branch [
      | in_default-via-in-Ok+in_default w ↦ none (none_unpacked u (search rules))
      | in_default-via-in_default w ↦ none (none_refused u _ w.in_default.is)
    ]

pub owns-requires : goal.owns-requires
owns-requires c =
    let pre = c.requires in
    let u = c.in-Ok-Some in
    let at = unpacked_at _ _ _ (sym c.unpack.ensures ∙ u.is ∙ ap Ok u.field-0-is) in
    (at.slab_lt, at.slot_lt, pre.0, pre.2, pre.3)

pub returns-then-not-owns : goal.returns-then-not-owns
returns-then-not-owns c =
    let a = c.args in
    let u = c.in-Ok-Some in
    let held = sym c.held_id.ensures ∙ c.if-not-held_id.false in
    let own = sym c.owns.ensures ∙ c.if-not-owns.true in
    ap Err c.of-then-not-owns.ensures
    ∙ located_other a.caps.ids a.caps.slots a.id_marks.now a.locations.now a.slot_marks.now a.owners.now a.tallies.now a.id held _ (sym c.unpack.ensures ∙ u.is ∙ ap Ok u.field-0-is) own

pub returns : goal.returns
returns c =
    let a = c.args in
    let u = c.in-Ok-Some in
    let held = sym c.held_id.ensures ∙ c.if-not-held_id.false in
    let own = sym c.owns.ensures ∙ c.if-not-owns.false in
    located_own a.caps.ids a.caps.slots a.id_marks.now a.locations.now a.slot_marks.now a.owners.now a.tallies.now a.id held _ (sym c.unpack.ensures ∙ u.is ∙ ap Ok u.field-0-is) own
