-- `object_ids::allocate_object_id` meets its contract: `next_id` gives the answer, which tells whether the call is granted (new_id_granted_lem)
-- or writes nothing (refused_after). Assumes nothing.
use Rattle.std.proofs.lemmas.Result.{err_from_is_err_and}
use Rattle.std.proofs.Common.{sym, refl, ap, ◌∙◌}
use Rattle.model.proofs.Answered.{refused_after}
use Rattle.model.specs.Store.{new_id}
use Rattle.model.specs.Lent.{lent_to}
use Rattle.object_ids.specs.NewIds.{new_id_answer}
use Rattle.object_ids.proofs.LawsNewId.{new_id_granted_lem}
use Rattle.object_ids.proofs.new_id.allocate_object_id.Goals as goal

pub hold_id-requires : goal.hold_id-requires
hold_id-requires c =
    let q = new_id_granted_lem _ _ (sym (ap new_id_answer c.in_ok-id.was) ∙ c.next_id.ensures) in
    (q.some, q.small)

pub returns : goal.returns
returns c =
    let a = c.args in
    let e = sym (ap new_id_answer c.in_ok-id.was) ∙ c.next_id.ensures in
    let q = new_id_granted_lem _ _ e in
    record { result_value = e; tallies_after = (λ i. lent_to new_id a.caps.ids a.caps.slots (c.hold_id.ensures.0 i) a.batch.now (c.hold_id.ensures.1 i)) ∙ sym q.after }

pub returns-in_err-id : goal.returns-in_err-id
returns-in_err-id c =
    let e = sym (ap new_id_answer c.in_err-id.was) ∙ c.next_id.ensures in
    let p = err_from_is_err_and c.from_residual.result c.from_residual.ensures.1 in
    rw (p.1, p.2) (record { result_value = e; tallies_after = sym (refused_after _ _ _ e refl) })
