use mathlib.Core.Path.{ap, ◌∙◌}
use Rattle.keys.specs.Keys.{stores_of}
use Rattle.model.specs.Store.{Offer}
use Rattle.model.specs.Lending.{every_table}
use Rattle.model.specs.Lent.{lent_by}
use Rattle.offer.specs.Outcome.{Left, offered_answer, offer_leaves}
use Rattle.offer.proofs.Outcomes.{offered_answer_outcome}
use Rattle.exports.proofs.Laws.{finished_status, offer_memory}
use Rattle.exports.proofs.batches.wentuhoro_offer.Goals as goal

pub returns : goal.returns
unfolding offer_leaves
returns c =
    let a = c.args in
    let m = lent_by every_table a.ids a.slots a.id_marks.now a.locations.now a.slot_marks.now a.owners.now a.batch.now a.tallies.now a.carried.now in
    let o : Offer = record { ids = a.update_ids.now; stores = stores_of a.stores.now; lengths = a.lengths.now; carried = a.update_carried.now; placed = a.placed.now } in
    let e = c.offer.ensures in
    let left = c.offer.new.placed in
    record {
      status = c.finished.ensures ∙ finished_status (λ x. offered_answer x left) (λ x. offered_answer_outcome x left) _ _ (ap (λ (w : Left). w.answer) e);
      tables_after = offer_memory m o _ _ _ _ (ap (λ (w : Left). w.slot_marks) e) (ap (λ (w : Left). w.batch) e) (ap (λ (w : Left). w.tallies) e) (ap (λ (w : Left). w.carried) e);
      placed_after = ap (λ (w : Left). w.placed) e;
    }
