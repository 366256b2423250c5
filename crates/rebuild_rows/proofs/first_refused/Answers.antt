-- What does not fit is refused, else the rows are looked at. Assumes nothing.
use mathlib.Core.Logic.{⊎_elim}
use mathlib.Core.Path.{sym, ap, ◌∙◌}
use Rattle.address.proofs.Laws.{slots_range}
use Rattle.std.specs.Prelude.{Err}
use Rattle.rebuild_rows.proofs.Checked.{refused_row_slots, refused_row_long, refused_row_fit}
use Rattle.rebuild_rows.proofs.first_refused.Goals as goal

pub returns-then-bad_slots : goal.returns-then-bad_slots
returns-then-bad_slots c =
    let a = c.args in
    let same = sym c.bad_slots.ensures in
    ap Err c.of.ensures
    ∙ ⊎_elim (λ w. refused_row_slots a.caps.ids a.caps.slots a.ids.now a.row_locations.now (same ∙ w))
    (λ w. refused_row_long a.caps.ids a.caps.slots a.ids.now a.row_locations.now (same ∙ w.0) w.1) c.then-bad_slots.either

pub first_of-requires : goal.first_of-requires
first_of-requires c =
    let good = sym c.bad_slots.ensures ∙ c.if-bad_slots.false in
    (good, (slots_range _ good).1, c.if-row_locations-ids.false)

pub returns : goal.returns
returns c =
    let a = c.args in
    c.first_of.ensures
    ∙ sym (refused_row_fit a.caps.ids a.caps.slots a.ids.now a.row_locations.now (sym c.bad_slots.ensures ∙ c.if-bad_slots.false) c.if-row_locations-ids.false)
