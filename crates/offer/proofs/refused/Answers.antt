-- `offer::refused` meets its contract: a verdict that refuses decides, else the next one does. Assumes nothing.
use mathlib.Core.Path.{sym, ap, ◌∙◌}
use Rattle.std.proofs.lemmas.Result.{err_from_is_err_and}
use Rattle.address.specs.Address.{slabs}
use Rattle.model.specs.Verdict.{judged_verdict}
use Rattle.offer_room.specs.Room.{room_in}
use Rattle.offer.proofs.LawsOffer.{seq_stop, seq_on, keys_told}
use Rattle.offer.proofs.refused.Goals as goal

pub returns-in_err-with_keys : goal.returns-in_err-with_keys
returns-in_err-with_keys c =
    let a = c.args in
    let p = err_from_is_err_and c.from_residual.result c.from_residual.ensures.1 in
    let was = c.in_err-with_keys.was in
    rw (p.1, p.2) (sym (ap judged_verdict was) ∙ seq_stop c.with_keys.result _ _ _
    (c.with_keys.ensures ∙ keys_told a.stores.now a.update_carried.now _ _ _ c.check-checked.ensures c.first_long-long.ensures) was)

pub returns : goal.returns
returns c =
    let a = c.args in
    c.room.ensures ∙ ap (λ t. room_in a.caps.slots a.slot_marks.now a.tallies.now t slabs 0) c.tally-asked.ensures
    ∙ seq_on c.with_keys.result _ _
    (c.with_keys.ensures ∙ keys_told a.stores.now a.update_carried.now _ _ _ c.check-checked.ensures c.first_long-long.ensures)
    c.in_ok-with_keys.was
