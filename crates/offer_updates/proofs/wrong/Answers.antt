-- `offer_updates::wrong` meets its contract: each answer is the case of `wrong_by` that the tests on the way lead to. Assumes nothing.
use mathlib.Core.Path.{sym, ◌∙◌}
use Rattle.offer_updates.proofs.Laws.{row_not_held, row_repeated, row_large, row_bad, row_fine}
use Rattle.offer_updates.proofs.wrong.Goals as goal

pub returns-then-not-held_id : goal.returns-then-not-held_id
returns-then-not-held_id c =
    row_not_held _ _ _ _
    (sym c.held_id.ensures ∙ c.if-not-held_id.true)

pub returns-then-earlier : goal.returns-then-earlier
returns-then-earlier c =
    row_repeated _ _ _ _
    (sym c.held_id.ensures ∙ c.if-not-held_id.false) (sym c.earlier.ensures ∙ c.if-earlier.true)

pub returns-then-slab-eq-NO_CLASS : goal.returns-then-slab-eq-NO_CLASS
returns-then-slab-eq-NO_CLASS c =
    row_large _ _ _ _
    (sym c.held_id.ensures ∙ c.if-not-held_id.false) (sym c.earlier.ensures ∙ c.if-earlier.false) c.if-slab-eq-NO_CLASS.true

pub returns-then-bad_location : goal.returns-then-bad_location
returns-then-bad_location c =
    row_bad _ _ _ _
    (sym c.held_id.ensures ∙ c.if-not-held_id.false) (sym c.earlier.ensures ∙ c.if-earlier.false) c.if-slab-eq-NO_CLASS.false
    (sym c.bad_location.ensures ∙ c.if-bad_location.true)

pub returns : goal.returns
returns c =
    row_fine _ _ _ _
    (sym c.held_id.ensures ∙ c.if-not-held_id.false) (sym c.earlier.ensures ∙ c.if-earlier.false) c.if-slab-eq-NO_CLASS.false
    (sym c.bad_location.ensures ∙ c.if-bad_location.false)
