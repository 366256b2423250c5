-- What a granted call knows: its tables fit, and the tests on the way were not met. Assumes nothing.
use mathlib.Core.Path.{◌≡◌, sym, ap, ◌∙◌}
use mathlib.Core.Bool.{Bool, true, false, not}
use mathlib.Core.List.{[]}
use Prim.Native.Nat.{◌*◌, ◌≤◌, ◌<◌}
use native.Mathlib.Omega.{arith}
use lib.ListN.{length}
use borrow.Author.Tests.{not-false, ltb-false, eqb-true, leb-false}
use Rattle.refusal.specs.Refusals.{wrong_shape}
use Rattle.refusal.proofs.Tests.{and_true}
use Rattle.address.specs.Address.{slabs}
use Rattle.model.specs.Batches.{updates, updates_in, room}
use Rattle.carried.specs.Carried.{width}
use Rattle.model.specs.Columns.{carries_for, before_keys}
use Rattle.model.specs.Ids.{next_id}
use Rattle.model.specs.Lending.{every_table, lending_of}
use Rattle.model.specs.Lent.{fits}
use Rattle.model.specs.Memory.{Memory, read}
use Rattle.model.specs.Rebuild.{rows_in, rows}
use Rattle.model.specs.Step.{refusal_of, refusal}
use Rattle.model.specs.Store.{Store, Offer, Rows, Call, new_id, offer, rebuild}
use Rattle.model.specs.Tables.{most_updates, is_open}
use Rattle.model.specs.Tests.{shape, lists, as_long}
use Rattle.model.specs.Verdict.{ok, refuse, test, ◌⨾◌}
use Rattle.model.proofs.Sizes.{Sizes, sizes, fits_read, shape_read}
use Rattle.model.proofs.Verdicts.{test_ok, first_ok, then_ok, earlier_ok}

-- ---- every call

pub shape_ok : (s : Store) (c : Call) → shape s c ≡ ok → Sizes (lending_of c) s
shape_ok s c e = let a = and_true _ _ (not-false _ (test_ok _ _ _ e)) in sizes (lending_of c) s a.0 a.1

pub granted_sizes : (s : Store) (c : Call) → refusal s c ≡ ok → Sizes (lending_of c) s
unfolding refusal
granted_sizes s c e = shape_ok s c (first_ok _ _ e)

pub granted_fits : (m : Memory) (c : Call) → refusal (read m) c ≡ ok → fits (lending_of c) m ≡ true
unfolding refusal
granted_fits m c e = sym (fits_read (lending_of c) m) ∙ not-false _ (test_ok _ _ _ (first_ok _ _ e))

-- ---- refusal 1 by lengths, and what is left of the tests once it is passed

pub refused_shape : (m : Memory) (c : Call) → fits (lending_of c) m ≡ false → refusal (read m) c ≡ refuse wrong_shape 0
unfolding refusal test ◌⨾◌
refused_shape m c e = λ i. (shape_read c m ∙ ap (λ b. test (not b) wrong_shape 0) e) i ⨾ refusal_of (read m) c

pub fits_rest : (m : Memory) (c : Call) → fits (lending_of c) m ≡ true → refusal (read m) c ≡ refusal_of (read m) c
unfolding refusal test ◌⨾◌
fits_rest m c e = λ i. (shape_read c m ∙ ap (λ b. test (not b) wrong_shape 0) e) i ⨾ refusal_of (read m) c

pub granted_rest : (s : Store) (c : Call) → refusal s c ≡ ok → refusal_of s c ≡ ok
unfolding refusal
granted_rest s c e = then_ok (shape s c) _ e

pub lists_ok : (fit : Bool) → lists fit ≡ ok → fit ≡ true
lists_ok fit e = not-false _ (test_ok _ _ _ e)

pub shut_is : (s : Store) → is_open s ≡ false → s.batch.opened ≡ 0
shut_is s e = let h = ltb-false 0 s.batch.opened e in omega arith

-- ---- new id

pub new_id_granted : (s : Store) → refusal s new_id ≡ ok → next_id s < length s.id_marks
unfolding refusal_of
new_id_granted s e = rw (granted_sizes s new_id e).id_marks (leb-false _ _ (test_ok _ _ _ (then_ok _ _ (granted_rest s new_id e))))

-- ---- offer

pub record Offered (s : Store) (o : Offer) : Type 0 where
  pub tables : Sizes every_table s
  pub stores : length o.stores ≡ length o.ids
  pub lengths : length o.lengths ≡ length o.ids
  pub answers : length o.placed ≡ length o.ids
  pub carries : length o.carried ≡ length o.ids * width
  pub shut : s.batch.opened ≡ 0
  pub few : length o.ids ≤ most_updates
  pub fit : updates s [] 0 (updates_in o) ≡ ok
  pub enough : room s.slots s.slot_marks (updates_in o) slabs 0 ≡ ok

pub offer_granted : (s : Store) (o : Offer) → refusal s (offer o) ≡ ok → Offered s o
unfolding refusal_of
offer_granted s o e =
    let e₁ = granted_rest s (offer o) e in
    let b = and_true _ (carries_for o.ids o.carried) (lists_ok _ (first_ok _ _ e₁)) in
    let c = and_true _ (as_long o.ids o.placed) b.0 in
    let d = and_true (as_long o.ids o.stores) (as_long o.ids o.lengths) c.0 in
    let e₂ = then_ok _ _ e₁ in
    let e₃ = then_ok _ _ e₂ in
    let e₄ = then_ok _ _ e₃ in
    record {
      tables = granted_sizes s (offer o) e;
      stores = eqb-true _ _ d.0;
      lengths = eqb-true _ _ d.1;
      answers = eqb-true _ _ c.1;
      carries = eqb-true _ _ b.1;
      shut = shut_is s (test_ok _ _ _ (first_ok _ _ e₂));
      few = ltb-false most_updates (length o.ids) (test_ok _ _ _ (first_ok _ _ e₃));
      fit = (earlier_ok before_keys _ _ (first_ok _ _ e₄)).0;
      enough = then_ok _ _ e₄;
    }

-- ---- rebuild

pub rebuild_rows : (s : Store) (rs : Rows) → refusal s (rebuild rs) ≡ ok → rows s [] [] 0 (rows_in rs) ≡ ok
unfolding refusal_of
rebuild_rows s rs e = (earlier_ok (λ n. true) _ _ (then_ok _ _ (granted_rest s (rebuild rs) e))).0

pub rebuild_carries : (s : Store) (rs : Rows) → refusal s (rebuild rs) ≡ ok → length rs.carried ≡ length rs.ids * width
unfolding refusal_of
rebuild_carries s rs e =
    eqb-true _ _ (and_true (as_long rs.ids rs.locations) (carries_for rs.ids rs.carried) (lists_ok _ (first_ok _ _ (granted_rest s (rebuild rs) e)))).1
