-- Two such stores give the same reasons. A stored object's slot is held, so that the tip of its slab does not hang on the used word, which may differ.
-- Assumes nothing.
use mathlib.Core.Path.{◌≡◌, refl, sym, ◌∙◌, ap}
use mathlib.Core.Logic.{◌≢◌}
use mathlib.Core.Bool.{Bool, true, false, not, cond}
use mathlib.Core.List.{List}
use Prim.Native.Nat.{ℕ, suc, ◌/◌, ◌%◌, ◌<◌, pred}
use native.Mathlib.Omega.{arith}
use lib.Dec.{eqb}
use lib.ListN.{get_or, take}
use lib.Ieee.{Float}
use borrow.Author.Tests.{not-true, eqb-false}
use Rattle.refusal.proofs.Tests.{and_true}
use Rattle.list_parts.specs.Parts.{part}
use Rattle.list_parts.proofs.Parts.{part_at}
use Rattle.address.specs.Address.{unit}
use Rattle.marks.specs.Marks.{count_if, is_taken, last_taken, tip}
use Rattle.marks.proofs.LawsCount.{last_taken_gt, tip_of_taken}
use Rattle.model.specs.Reasons.{standing_at, reason_for, reason_of}
use Rattle.model.specs.Snapshots.{is_stored}
use Rattle.model.specs.Store.{Store, not_stored}
use Rattle.model.specs.Tables.{location_of, held_id, slab_tip}
use Rattle.model.proofs.Locations.{is_location_says}
use Rattle.histories.specs.Invariant.{Inv}
use Rattle.histories.proofs.Same.{Same, loc_same, stored_one_same}

-- a stored id has a location
pub stored_somewhere : (s : Store) (i : ℕ) → is_stored s i ≡ true → location_of s i ≢ 0
stored_somewhere s i e = eqb-false (location_of s i) 0 (not-true _ (and_true (held_id s i) (not (eqb (location_of s i) 0)) e).1)

only_then : {A : Type 0} (b : Bool) (x y z : A) → (b ≡ true → x ≡ y) → cond b x z ≡ cond b y z
only_then true x y z f = f refl
only_then false x y z f = refl

module _ (s t : Store) (e : Same s t) (vs : Inv s) (vt : Inv t) where
  parts : (k : ℕ) → part s.slots s.slot_marks k ≡ part t.slots t.slot_marks k
  parts k = λ i. part (e.slots i) (e.slot_marks i) k

  tip_same : (i : ℕ) → location_of s i ≢ 0 → slab_tip s (pred (location_of s i / unit)) ≡ slab_tip t (pred (location_of s i / unit))
  tip_same i h =
      let l = location_of s i in
      let k = pred (l / unit) in
      let there = vs.good.located i h in
      let v = is_location_says s.slots l there.range in
      let held : get_or (part s.slots s.slot_marks k) (l % unit) 0 ≡ 1 = part_at s.slots s.slot_marks k (l % unit) 0 v.slot ∙ there.slot_held in
      let some : l % unit < last_taken (part s.slots s.slot_marks k) = last_taken_gt (part s.slots s.slot_marks k) (l % unit) (λ z. omega (arith, held, z)) in
      let above = tip_of_taken (last_taken (part s.slots s.slot_marks k)) in
      above (get_or s.tallies.used (suc k) 0) (λ z. omega arith)
      ∙ sym (above (get_or t.tallies.used (suc k) 0) (λ z. omega arith))
      ∙ ap (λ (x : List ℕ). tip x (get_or t.tallies.used (suc k) 0)) (parts k)

  pub reason_same : (r : Float) (i : ℕ) → reason_of s r i ≡ reason_of t r i
  reason_same r i =
      only_then (is_stored s i) _ _ not_stored (λ p. ap (λ w. reason_for w r) (standing_same (stored_somewhere s i p)))
      ∙ ap (λ b. cond b (reason_for (standing_at t (location_of t i)) r) not_stored) (stored_one_same s t e vs vt i)
    where
      standing_same : location_of s i ≢ 0 → standing_at s (location_of s i) ≡ standing_at t (location_of t i)
      standing_same h =
          let l = location_of s i in
          (λ k. record {
            slab = pred (l / unit);
            slot = l % unit;
            smaller = count_if is_taken (take (l % unit) (parts (pred (l / unit)) k));
            live = count_if is_taken (parts (pred (l / unit)) k);
            tip = tip_same i h k;
          })
          ∙ ap (standing_at t) (loc_same s t e vs vt i)
