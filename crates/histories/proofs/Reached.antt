-- Every store that a history reaches is of the invariant. Assumes nothing.
use mathlib.Core.Path.{◌≡◌, refl, sym, ap, ◌∙◌}
use mathlib.Core.Bool.{true}
use mathlib.Core.List.{List, [], ◌∷◌}
use Prim.Native.Nat.{ℕ, ◌<◌, zero, suc, ◌≤◌, max, pred}
use native.Mathlib.Omega.{arith}
use lib.ListN.{length, get_or, length-set, set}
use Rattle.carried.specs.Carried.{width}
use Rattle.carried.proofs.Laws.{length_put_rows, length_committed}
use Rattle.model.specs.Batches.{updates_in, after_offer, after_commit}
use Rattle.model.specs.Columns.{offered_column, committed_column, rebuilt_column}
use Rattle.model.specs.Rebuild.{rebuilt, rows_in, fresh_store}
use Rattle.model.specs.Step.{effect, refusal, next, unless, after}
use Rattle.model.specs.Store.{Store, with_carried, Call, new_id, release, offer, commit, abandon, fresh, rebuild, ask, truncation, report}
use Rattle.model.specs.Tables.{capacities, kept, slab_tip}
use Rattle.model.specs.Lending.{sized}
use Rattle.model.specs.Truncation.{with_high, raise}
use Rattle.model.specs.Verdict.{ok, Verdict, refuse}
use Rattle.model.proofs.Batches.{length_updates_of}
use Rattle.model.proofs.Granted.{offer_granted, rebuild_rows}
use Rattle.model.proofs.Sizes.{sized_sizes, slab_tip_le, length_raise}
use Rattle.model.proofs.Lists.{set_each}
use Rattle.histories.specs.Invariant.{Inv}
use Rattle.histories.specs.Statements.{Reached}
use Rattle.histories.proofs.Kept.{sized_same, rows_frame, keep_new_id, keep_release, keep_commit}
use Rattle.histories.proofs.KeptBatches.{keep_offer, keep_abandon}
use Rattle.histories.proofs.KeptRebuild.{rebuilt_inv, rows_apart}

pub caps_of : (s : Store) → sized s ≡ true → capacities s.ids s.slots ≡ true
caps_of s e = (sized_sizes s e).caps

keep_high : (s : Store) (h : List ℕ) → length h ≡ length s.tallies.high → ((k : ℕ) → get_or h k 0 < s.slots) → Inv s → Inv (with_high s h)
keep_high s h e m v = record { is_sized = sized_same (with_high s h) s refl refl (rw e) ∙ v.is_sized; few = v.few; tops = m; good = v.good }

-- another column of the same length
pub keep_carried : (s : Store) (c : List ℕ) → length c ≡ length s.carried → Inv s → Inv (with_carried s c)
keep_carried s c e v = record { is_sized = sized_same (with_carried s c) s refl refl (rw e) ∙ v.is_sized; few = v.few; tops = v.tops; good = v.good }

raise_lt : (h : List ℕ) (k t n : ℕ) → t ≤ n → ((i : ℕ) → get_or h i 0 < n) → (i : ℕ) → get_or (raise h k t) i 0 < n
raise_lt h k zero n p a = a
raise_lt h k (suc t) n p a = set_each (λ x. x < n) h k (max (get_or h k 0) t) (omega (arith, a k)) a

pub keep_effect : (s : Store) (c : Call) → Inv s → refusal s c ≡ ok → Inv (effect s c)
unfolding effect offered_column committed_column rebuilt_column
keep_effect s new_id v e = keep_new_id s v
keep_effect s release v e = keep_release s v
keep_effect s (offer o) v e =
    let g = offer_granted s o e in
    keep_carried (after_offer s (updates_in o)) (offered_column s.ids o s.carried) (length_put_rows width _ _ s.carried)
    (keep_offer s (updates_in o) v g.shut (rw (length_updates_of o.ids o.stores o.lengths g.stores g.lengths) g.few) g.fit)
keep_effect s commit v e = keep_carried (after_commit s) (committed_column s.ids (kept s) s.carried)
    (length_committed width s.ids (kept s) s.carried ∙ ap length (sym (rows_frame s (kept s)).carried)) (keep_commit s v)
keep_effect s abandon v e = keep_abandon s v
keep_effect s fresh v e = rebuilt_inv s [] (caps_of s v.is_sized) tt
keep_effect s (rebuild rs) v e =
    keep_carried (rebuilt s.ids s.slots (rows_in rs)) (rebuilt_column s.ids rs) (length_put_rows width rs.ids _ _)
    (rebuilt_inv s (rows_in rs) (caps_of s v.is_sized) (rows_apart s [] [] 0 (rows_in rs) (rebuild_rows s rs e)))
keep_effect s (ask q) v e = v
keep_effect s (truncation k t) v e = keep_high s (raise s.tallies.high k (slab_tip s k)) (length_raise s.tallies.high k (slab_tip s k))
    (raise_lt s.tallies.high k (slab_tip s k) s.slots (slab_tip_le s (sized_sizes s v.is_sized).range.slots_from k) v.tops) v
keep_effect s (report k t) v e = keep_high s (set s.tallies.high k (pred (slab_tip s k))) (length-set s.tallies.high k (pred (slab_tip s k)))
    (set_each (λ x. x < s.slots) s.tallies.high k (pred (slab_tip s k))
    (omega (arith, slab_tip_le s (sized_sizes s v.is_sized).range.slots_from k, (sized_sizes s v.is_sized).range.slots_from)) v.tops) v

pub keep_next : (s : Store) (c : Call) → Inv s → Inv (next s c)
unfolding next
keep_next s c v = go (refusal s c) refl
  where
    go : (w : Verdict) → refusal s c ≡ w → Inv (unless w s (effect s c))
    go ok e = keep_effect s c v e
    go (refuse n i) e = v

pub keep_after : (s : Store) (h : List Call) → Inv s → Inv (after s h)
keep_after s [] v = v
keep_after s (c ∷ cs) v = keep_after (next s c) cs (keep_next s c v)

pub fresh_inv : (n m : ℕ) → capacities n m ≡ true → Inv (fresh_store n m)
fresh_inv n m c = rebuilt_inv (rebuilt n m []) [] c tt

pub reached : Reached
reached n m c h = keep_after (fresh_store n m) h (fresh_inv n m c)
