-- The first row that cannot be committed. The invariant: the first bad row from row i on is the first bad row of all. Assumes nothing.
use mathlib.Core.Path.{refl, sym, ◌∙◌}
use mathlib.Core.Bool.{true, false}
use native.Mathlib.Nat.{sub-zero}
use Rattle.std.proofs.lemmas.Result.{err_from_is_err_and}
use Rattle.batch_kept.proofs.Laws.{first_bad_here, first_bad_next, first_bad_none}
use Rattle.commit.specs.Commit.{row_bad}
use Rattle.commit.proofs.Laws.{not_own_read, row_out, row_own, own_as_refused, own_as_passed}
use Rattle.commit.proofs.check.check_rows.Goals as goal

pub loop-i-init : goal.loop-i-init
loop-i-init c = rw sub-zero

pub returns-then-bad_kept : goal.returns-then-bad_kept
returns-then-bad_kept c =
    let a = c.args in
    let i = c.loop-i.i in
    let f = row_bad a.caps.ids a.caps.slots a.locations.now a.slot_marks.now a.owners.now a.tallies.now in
    let bad = row_out _ _ a.locations.now a.slot_marks.now a.owners.now a.tallies.now _ _ _ _ _ c.get-id.ensures c.get-location.ensures c.bad_kept.ensures c.if-bad_kept.true in
    simp (c.at.ensures, c.loop-i.invariant, first_bad_here f a.batch.now a.n i c.loop-i-test.true bad)

pub returns-in_err-own_location : goal.returns-in_err-own_location
returns-in_err-own_location c =
    let a = c.args in
    let i = c.loop-i.i in
    let f = row_bad a.caps.ids a.caps.slots a.locations.now a.slot_marks.now a.owners.now a.tallies.now in
    let told = own_as_refused _ i _ (sym c.own_location.ensures ∙ c.in_err-own_location.was) in
    let own = not_own_read _ _ _ _ _ _ _ _ _ _ true c.get-id.ensures c.get-old.ensures refl told.0 in
    let bad = row_own _ _ a.locations.now a.slot_marks.now a.owners.now a.tallies.now _ _ _ _ _ c.get-id.ensures c.get-location.ensures c.bad_kept.ensures c.if-bad_kept.false own in
    let p = err_from_is_err_and c.from_residual.result c.from_residual.ensures.1 in
    rw (p.1, p.2) (simp (told.1, c.loop-i.invariant, first_bad_here f a.batch.now a.n i c.loop-i-test.true bad))

pub loop-i-preserved : goal.loop-i-preserved
loop-i-preserved c =
    let a = c.args in
    let i = c.loop-i.i in
    let f = row_bad a.caps.ids a.caps.slots a.locations.now a.slot_marks.now a.owners.now a.tallies.now in
    let told = own_as_passed _ i (sym c.own_location.ensures ∙ c.in_ok-own_location.was) in
    let own = not_own_read _ _ _ _ _ _ _ _ _ _ false c.get-id.ensures c.get-old.ensures refl told in
    c.loop-i.invariant
    ∙ first_bad_next f a.batch.now a.n i c.loop-i-test.true
    (row_own _ _ a.locations.now a.slot_marks.now a.owners.now a.tallies.now _ _ _ _ _ c.get-id.ensures c.get-location.ensures c.bad_kept.ensures c.if-bad_kept.false own)

pub returns : goal.returns
returns c =
    let a = c.args in
    let f = row_bad a.caps.ids a.caps.slots a.locations.now a.slot_marks.now a.owners.now a.tallies.now in
    simp (c.loop-i.invariant, first_bad_none f a.batch.now a.n c.loop-i.i c.loop-i-test.false)
