-- `truncation::ask` meets its contract: the tests in document 01's order, each on lengths and words (ask_shape to ask_fine), then the tip of
-- the slab by its own marks (tip_read). Assumes nothing.
use mathlib.Core.Bool.{not}
use mathlib.Core.Path.{sym, ap, ◌∙◌}
use Rattle.refusal.specs.Refusals.{wrong_shape, batch_open, out_of_range, ratio_out_of_range}
use Rattle.model.specs.Lending.{slab_tables}
use Rattle.model.specs.Lent.{lent_by}
use Rattle.model.proofs.Sizes.{fits_range, fits_slot_marks}
use Rattle.tables.proofs.LawsSlabs.{tip_read}
use Rattle.truncation.proofs.Laws.{ask_refused, ask_tip, ask_shape, ask_open, ask_slab, ask_high, ask_target, ask_fine}
use Rattle.truncation.proofs.ask.Goals as goal

pub returns-then-not-slab_fits : goal.returns-then-not-slab_fits
returns-then-not-slab_fits c =
    let a = c.args in
    let m = lent_by slab_tables a.caps.ids a.caps.slots a.slot_marks.now a.batch.now a.tallies.now in
    ask_refused m a.slab a.t c.of.result wrong_shape c.of.ensures (ask_shape m a.slab a.t c.slab_fits.result c.slab_fits.ensures (ap not c.if-not-slab_fits.true))

pub returns-then-get-ne0 : goal.returns-then-get-ne0
returns-then-get-ne0 c =
    let a = c.args in
    let m = lent_by slab_tables a.caps.ids a.caps.slots a.slot_marks.now a.batch.now a.tallies.now in
    let fit = sym c.slab_fits.ensures ∙ c.if-not-slab_fits.false in
    ask_refused m a.slab a.t c.of-then-get-ne0.result batch_open c.of-then-get-ne0.ensures (ask_open m a.slab a.t fit c.get.result c.get.ensures c.if-get-ne0.true)

pub returns-then-slab : goal.returns-then-slab
returns-then-slab c =
    let a = c.args in
    let m = lent_by slab_tables a.caps.ids a.caps.slots a.slot_marks.now a.batch.now a.tallies.now in
    let fit = sym c.slab_fits.ensures ∙ c.if-not-slab_fits.false in
    ask_refused m a.slab a.t c.of-then-slab.result out_of_range c.of-then-slab.ensures (ask_slab m a.slab a.t fit c.get.result c.get.ensures c.if-get-ne0.false c.if-slab.true)

pub returns-then-get-caps : goal.returns-then-get-caps
returns-then-get-caps c =
    let a = c.args in
    let m = lent_by slab_tables a.caps.ids a.caps.slots a.slot_marks.now a.batch.now a.tallies.now in
    let fit = sym c.slab_fits.ensures ∙ c.if-not-slab_fits.false in
    ask_refused m a.slab a.t c.of-then-get-caps.result out_of_range c.of-then-get-caps.ensures (ask_high m a.slab a.t fit c.get.result c.get.ensures c.if-get-ne0.false c.if-slab.false c.get-2.result c.get-2.ensures c.if-get-caps.true)

pub returns-then-not-is_target : goal.returns-then-not-is_target
returns-then-not-is_target c =
    let a = c.args in
    let m = lent_by slab_tables a.caps.ids a.caps.slots a.slot_marks.now a.batch.now a.tallies.now in
    let fit = sym c.slab_fits.ensures ∙ c.if-not-slab_fits.false in
    ask_refused m a.slab a.t c.of-then-not-is_target.result ratio_out_of_range c.of-then-not-is_target.ensures (ask_target m a.slab a.t fit c.get.result c.get.ensures c.if-get-ne0.false c.if-slab.false c.get-2.result c.get-2.ensures c.if-get-caps.false c.is_target.result c.is_target.ensures (ap not c.if-not-is_target.true))

pub slab_tip-requires : goal.slab_tip-requires
slab_tip-requires c =
    let a = c.args in
    let m = lent_by slab_tables a.caps.ids a.caps.slots a.slot_marks.now a.batch.now a.tallies.now in
    let f = (sym c.slab_fits.ensures ∙ c.if-not-slab_fits.false) in
    (c.if-slab.false, (fits_range slab_tables m f).slots_to, fits_slot_marks slab_tables m f)

pub returns : goal.returns
returns c =
    let a = c.args in
    let m = lent_by slab_tables a.caps.ids a.caps.slots a.slot_marks.now a.batch.now a.tallies.now in
    let fit = sym c.slab_fits.ensures ∙ c.if-not-slab_fits.false in
    let tip = c.slab_tip.ensures ∙ sym (tip_read m a.slab c.if-slab.false (fits_slot_marks slab_tables m fit)) in
    ask_tip m a.slab a.t c.slab_tip.result tip (ask_fine m a.slab a.t fit c.get.result c.get.ensures c.if-get-ne0.false c.if-slab.false c.get-2.result c.get-2.ensures c.if-get-caps.false c.is_target.result c.is_target.ensures (ap not c.if-not-is_target.false))
