-- `defrag::objects_to_defrag` meets its contract: the refusals in their order; else the rows are the model's moves, and they fit the lent lists since each id has one location. Assumes nothing.
use mathlib.Core.Path.{ap, sym, ◌∙◌}
use borrow.Author.Tests.{not-true, not-false}
use lib.ListN.{length}
use lib.Seq.{sets}
use Rattle.refusal.specs.Outcomes.{refused_as}
use Rattle.model.specs.Store.{ask, defrag}
use Rattle.model.specs.Tables.{ids_of, locations_of}
use Rattle.model.specs.Lending.{move_tables}
use Rattle.model.specs.Lent.{lent_to}
use Rattle.model.specs.Outcomes.{outcome_of, list_in}
use Rattle.model.proofs.Sizes.{fits_range, fits_locations, fits_slot_marks, fits_owners}
use Rattle.defrag.specs.Outcomes.{defrag_outcome}
use Rattle.defrag.proofs.Granted.{wrong, opened, ratio, given, tables_fit, ids_written, locations_written}
use Rattle.defrag.proofs.Moves.{rows_are}
use Rattle.defrag.proofs.objects_to_defrag.Goals as goal
use Rattle.std.specs.Prelude.{Ok}

pub returns-then-not-fits : goal.returns-then-not-fits
returns-then-not-fits c =
    let a = c.args in
    let is = a.moved_ids.now in
    let ls = a.moved_locations.now in
    let m = lent_to (ask (defrag a.r is ls)) a.caps.ids a.caps.slots a.locations.now a.slot_marks.now a.owners.now a.batch.now a.tallies.now in
    let w = wrong m a.r is ls (sym c.fits.ensures ∙ c.if-not-fits.true) in
    (ap refused_as c.of.ensures ∙ ap outcome_of w, ap (λ x. list_in 0 x is) w, ap (λ x. list_in 1 x ls) w)

pub returns-then-get-ne0 : goal.returns-then-get-ne0
returns-then-get-ne0 c =
    let a = c.args in
    let is = a.moved_ids.now in
    let ls = a.moved_locations.now in
    let m = lent_to (ask (defrag a.r is ls)) a.caps.ids a.caps.slots a.locations.now a.slot_marks.now a.owners.now a.batch.now a.tallies.now in
    let fits = sym c.fits.ensures ∙ c.if-not-fits.false in
    let w = opened m a.r is ls fits (λ e. c.if-get-ne0.true (c.get.ensures ∙ e)) in
    (ap refused_as c.of-then-get-ne0.ensures ∙ ap outcome_of w, ap (λ x. list_in 0 x is) w, ap (λ x. list_in 1 x ls) w)

pub returns-then-bad_ratio : goal.returns-then-bad_ratio
returns-then-bad_ratio c =
    let a = c.args in
    let is = a.moved_ids.now in
    let ls = a.moved_locations.now in
    let m = lent_to (ask (defrag a.r is ls)) a.caps.ids a.caps.slots a.locations.now a.slot_marks.now a.owners.now a.batch.now a.tallies.now in
    let fits = sym c.fits.ensures ∙ c.if-not-fits.false in
    let w = ratio m a.r is ls fits (sym c.get.ensures ∙ c.if-get-ne0.false) (not-true _ (sym c.bad_ratio.ensures ∙ c.if-bad_ratio.true)) in
    (ap refused_as c.of-then-bad_ratio.ensures ∙ ap outcome_of w, ap (λ x. list_in 0 x is) w, ap (λ x. list_in 1 x ls) w)

pub list_all-requires : goal.list_all-requires
list_all-requires c =
    let a = c.args in
    let is = a.moved_ids.now in
    let ls = a.moved_locations.now in
    let m = lent_to (ask (defrag a.r is ls)) a.caps.ids a.caps.slots a.locations.now a.slot_marks.now a.owners.now a.batch.now a.tallies.now in
    let fits = sym c.fits.ensures ∙ c.if-not-fits.false in
    let f = tables_fit m a.r is ls fits in
    let s = fits_range move_tables m f in
    (s.slots_from, s.slots_to, fits_slot_marks move_tables m f, fits_owners move_tables m f, not-false _ (sym c.bad_ratio.ensures ∙ c.if-bad_ratio.false))

pub returns : goal.returns
returns c =
    let a = c.args in
    let is = a.moved_ids.now in
    let ls = a.moved_locations.now in
    let m = lent_to (ask (defrag a.r is ls)) a.caps.ids a.caps.slots a.locations.now a.slot_marks.now a.owners.now a.batch.now a.tallies.now in
    let fits = sym c.fits.ensures ∙ c.if-not-fits.false in
    let f = tables_fit m a.r is ls fits in
    let g = given m a.r is ls fits (sym c.get.ensures ∙ c.if-get-ne0.false) (not-false _ (sym c.bad_ratio.ensures ∙ c.if-bad_ratio.false)) in
    let q = rows_are m a.r (fits_range move_tables m f).slots_from (fits_locations move_tables m f) (fits_slot_marks move_tables m f) (fits_owners move_tables m f) in
    let e = c.list_all.ensures in (
      ap (λ n. defrag_outcome (Ok n)) (e.0 ∙ ap length q) ∙ ap outcome_of g,
      e.1 ∙ ap (λ rs. sets is 0 (ids_of rs)) q ∙ ids_written m a.r is ls fits ∙ ap (λ x. list_in 0 x is) g,
      e.2 ∙ ap (λ rs. sets ls 0 (locations_of rs)) q ∙ locations_written m a.r is ls fits ∙ ap (λ x. list_in 1 x ls) g,
    )
