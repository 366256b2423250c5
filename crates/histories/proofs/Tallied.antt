-- The grant and free tallies: granted minus freed plus the rows rebuilt is held plus pending, modulo 2^64. No call breaks it (TalliedCalls),
-- so it holds over any history. Assumes nothing.
use mathlib.Core.Path.{◌≡◌, refl}
use mathlib.Core.List.{List, ◌∷◌, []}
use Prim.Native.Nat.{ℕ}
use borrow.Author.Tests.{leb-false}
use Rattle.marks.proofs.LawsCount.{tip_tally}
use Rattle.model.specs.Batches.{updates_in}
use Rattle.model.specs.Rebuild.{rows_in, fresh_store}
use Rattle.model.specs.Step.{next, after, effect, refusal_of, refusal, unless}
use Rattle.model.specs.Store.{new_id, Store, Row, release, offer, commit, abandon, Call, fresh, rebuild, ask, truncation, report, with_carried}
use Rattle.model.specs.Verdict.{ok, Verdict, refuse}
use Rattle.model.proofs.Granted.{granted_rest, rebuild_rows}
use Rattle.model.proofs.Verdicts.{test_ok, then_ok}
use Rattle.model.proofs.Sizes.{sized_sizes}
use Rattle.histories.specs.Invariant.{Inv}
use Rattle.histories.specs.Statements.{Tally, rows_by, rows_since, Tallied, BelowTip}
use Rattle.histories.proofs.KeptRebuild.{rows_apart}
use Rattle.histories.proofs.Reached.{keep_next, fresh_inv}
use Rattle.histories.proofs.TalliedCalls.{tally_new_id, tally_release, tally_offer, tally_commit, tally_abandon, tally_rebuilt}

-- ---- every call

-- no tally looks at what rows carry
tally_carried : {s : Store} {rs : List Row} (c : List ℕ) → Tally s rs → Tally (with_carried s c) rs
tally_carried c a = record { of_ids = a.of_ids; of_slab = a.of_slab }

effect_tally : (s : Store) (rs : List Row) (c : Call) → Inv s → refusal s c ≡ ok → Tally s rs → Tally (effect s c) (rows_by ok c rs)
unfolding refusal_of effect
effect_tally s rs new_id v e a = tally_new_id s rs (sized_sizes s v.is_sized) (leb-false _ _ (test_ok _ _ _ (then_ok _ _ (granted_rest s new_id e)))) a
effect_tally s rs release v e a = tally_release s rs (sized_sizes s v.is_sized) a
effect_tally s rs (offer o) v e a = tally_carried _ (tally_offer s rs (updates_in o) v a)
effect_tally s rs commit v e a = tally_carried _ (tally_commit s rs v a)
effect_tally s rs abandon v e a = tally_abandon s rs v a
effect_tally s rs fresh v e a = tally_rebuilt s [] tt
effect_tally s rs (rebuild rows) v e a =
    tally_carried _ (tally_rebuilt s (rows_in rows) (rows_apart s [] [] 0 (rows_in rows) (rebuild_rows s rows e)))
effect_tally s rs (ask q) v e a = a
effect_tally s rs (truncation k t) v e a = record { of_ids = a.of_ids; of_slab = a.of_slab }
effect_tally s rs (report k t) v e a = record { of_ids = a.of_ids; of_slab = a.of_slab }

next_tally : (s : Store) (rs : List Row) (c : Call) → Inv s → Tally s rs → Tally (next s c) (rows_by (refusal s c) c rs)
unfolding next
next_tally s rs c v a = go (refusal s c) refl
  where
    go : (w : Verdict) → refusal s c ≡ w → Tally (unless w s (effect s c)) (rows_by w c rs)
    go ok e = effect_tally s rs c v e a
    go (refuse n i) e = a

after_tally : (s : Store) (rs : List Row) (cs : List Call) → Inv s → Tally s rs → Tally (after s cs) (rows_since s rs cs)
after_tally s rs [] v a = a
after_tally s rs (c ∷ cs) v a = after_tally (next s c) (rows_by (refusal s c) c rs) cs (keep_next s c v) (next_tally s rs c v a)

-- ---- over any history

pub tallied : Tallied
tallied n m c h = after_tally (fresh_store n m) [] h (fresh_inv n m c) (tally_rebuilt (fresh_store n m) [] tt)

-- ---- held plus pending plus free below tip is tip

pub below_tip : BelowTip
below_tip = tip_tally
