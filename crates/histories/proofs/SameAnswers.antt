-- Two such stores whose rows carry the same (SameRows) answer alike, and are such stores after each call. Assumes nothing.
use mathlib.Core.Path.{◌≡◌, ap, refl, subst, ◌∙◌, sym}
use mathlib.Core.Logic.{◌≢◌}
use mathlib.Core.Bool.{Bool, true, false, not}
use mathlib.Core.List.{List, [], ◌∷◌, map}
use Prim.Native.Nat.{ℕ, zero, suc}
use lib.Dec.{eqb}
use lib.ListN.{drop, set, get_or, length}
use borrow.Author.Tests.{eqb-false}
use Rattle.refusal.specs.Outcomes.{granted}
use Rattle.refusal.specs.Refusals.{nothing_to_cut}
use Rattle.refusal.proofs.Tests.{or_false}
use Rattle.list_parts.proofs.Lists.{drop_map}
use Rattle.snapshot_blocks.specs.Formats.{version2}
use Rattle.snapshot_blocks.specs.Files.{file_of, file_length}
use Rattle.carried.specs.Carried.{width}
use Rattle.carried.proofs.Laws.{Carry}
use Rattle.marks.specs.Marks.{hold, let_go}
use Rattle.model.specs.Batches.{apply_row, apply_rows, after_offer, id_of, after_commit, after_abandon, updates_in}
use Rattle.model.specs.Ids.{after_new_id, next_id, after_release}
use Rattle.model.specs.Columns.{rebuilt_column}
use Rattle.model.specs.Questions.{unfound, told_by, told_of, ask_refusal, reply}
use Rattle.model.specs.Rebuild.{rebuilt, rows_in, fresh_store}
use Rattle.model.specs.Step.{next, refusal_of, refusal, grant, effect, answer, answer_by, unless, slab_refusal}
use Rattle.model.specs.Store.{Store, with_carried, Row, Batch, with_batch, Update, Question, lookup, lookups, counters, defrag, why, snapshot_length, snapshot, Call, new_id, release, offer, commit, abandon, fresh, rebuild, ask, truncation, report}
use Rattle.model.specs.Store.{done, gave, found, told, placed, moves, because, wrote}
use Rattle.model.specs.Tables.{write, location_of, held_id, shut, write_all, kept, pairs, locations_of, slab_tip, carried_of}
use Rattle.model.specs.Tests.{shape}
use Rattle.model.specs.Truncation.{high_mark, with_high, cut_at, keeps}
use Rattle.model.specs.Verdict.{Verdict, ok, refuse, ◌⨾◌, test}
use Rattle.model.proofs.Granted.{granted_rest, offer_granted}
use Rattle.model.proofs.Verdicts.{assoc, test_ok, first_ok, then_ok}
use Rattle.histories.specs.Invariant.{Inv}
use Rattle.histories.specs.Statements.{seen, veil, shown, answers}
use Rattle.histories.proofs.KeptBatches.{kept_offer}
use Rattle.histories.proofs.Reached.{keep_next}
use Rattle.histories.proofs.Same.{Same, drop_set, same_refl, drop_set_zero, next_same, taken_same, same_trans, shapes, slab_same, ask_same, rest_new_id, rest_release, rest_offer, rest_commit, rest_abandon, rest_rebuild, refusal_by, loc_same, same_sym, stored_same, unfound_same}
use Rattle.histories.proofs.SameMoves.{all_moves_same}
use Rattle.histories.proofs.SameReasons.{reason_same}
use Rattle.histories.proofs.SameRows.{Alike, KeptAlike, equal_alike, closed_alike, offer_alike, commit_alike, entries_alike}

-- ---- the store after a granted call

row_same : (s t : Store) → Same s t → (i l o o' : ℕ) → o ≡ o' → Same (apply_row s i l o) (apply_row t i l o')
row_same s t e i zero o o' p = record {
  ids = e.ids;
  slots = e.slots;
  id_marks = drop_set s.id_marks t.id_marks i 2 e.id_marks;
  locations = ap (λ x. set x i 0) e.locations;
  slot_marks = λ k. write (e.slots k) (p k) 2 (e.slot_marks k);
  opened = e.opened;
  batch = e.batch;
}
row_same s t e i (suc l) o o' p = record {
  ids = e.ids;
  slots = e.slots;
  id_marks = e.id_marks;
  locations = ap (λ x. set x i (suc l)) e.locations;
  slot_marks = λ k. write (e.slots k) (p k) 2 (e.slot_marks k);
  opened = e.opened;
  batch = e.batch;
}

all_rows_same : (s t : Store) → Same s t → (ks : List Row) → Same (apply_rows s ks) (apply_rows t ks)
all_rows_same s t e [] = e
all_rows_same s t e (r ∷ rs) =
    all_rows_same (apply_row s r.0 r.1 (location_of s r.0)) (apply_row t r.0 r.1 (location_of t r.0))
    (row_same s t e r.0 r.1 (location_of s r.0) (location_of t r.0) (ap (λ x. get_or x r.0 0) e.locations)) rs

same_shut : (s t : Store) → Same s t → (b c : Batch) → Same (with_batch s (shut b)) (with_batch t (shut c))
same_shut s t e b c = record {
  ids = e.ids;
  slots = e.slots;
  id_marks = e.id_marks;
  locations = e.locations;
  slot_marks = e.slot_marks;
  opened = refl;
  batch = refl;
}

equal_same : {s t : Store} → s ≡ t → Same s t
equal_same {s} {t} p = subst (λ x. Same s x) p (same_refl s)

high_same : (s : Store) (h : List ℕ) → Same s (with_high s h)
high_same s h = record { ids = refl; slots = refl; id_marks = refl; locations = refl; slot_marks = refl; opened = refl; batch = refl }

module _ (s t : Store) (e : Same s t) (vs : Inv s) (vt : Inv t) where
  new_id_same : Same (after_new_id s) (after_new_id t)
  new_id_same = record {
    ids = e.ids;
    slots = e.slots;
    id_marks = drop_set_zero (set s.id_marks (next_id s) 1) (hold (get_or s.id_marks 0 0))
        ∙ drop_set s.id_marks t.id_marks (next_id s) 1 e.id_marks
        ∙ ap (λ n. drop 1 (set t.id_marks n 1)) (next_same s t e vs vt)
        ∙ sym (drop_set_zero (set t.id_marks (next_id t) 1) (hold (get_or t.id_marks 0 0)));
    locations = e.locations;
    slot_marks = e.slot_marks;
    opened = e.opened;
    batch = e.batch;
  }

  release_same : Same (after_release s) (after_release t)
  release_same = record {
    ids = e.ids;
    slots = e.slots;
    id_marks = drop_map let_go 1 s.id_marks ∙ ap (map let_go) e.id_marks ∙ sym (drop_map let_go 1 t.id_marks);
    locations = e.locations;
    slot_marks = ap (map let_go) e.slot_marks;
    opened = e.opened;
    batch = e.batch;
  }

  offer_same : (us : List Update) → Same (after_offer s us) (after_offer t us)
  offer_same us = record {
    ids = e.ids;
    slots = e.slots;
    id_marks = e.id_marks;
    locations = e.locations;
    slot_marks = λ k. write_all (e.slots k) (taken_same s t e vs vt us k) 1 (e.slot_marks k);
    opened = refl;
    batch = kept_offer s us ∙ ap (pairs (length us) (map id_of us)) (taken_same s t e vs vt us) ∙ sym (kept_offer t us);
  }

  commit_leaves : Same (after_commit s) (after_commit t)
  commit_leaves = same_shut (apply_rows s (kept s)) (apply_rows t (kept t))
      (same_trans (all_rows_same s t e (kept s)) (equal_same (ap (apply_rows t) e.batch))) s.batch t.batch

  abandon_leaves : Same (after_abandon s) (after_abandon t)
  abandon_leaves = record {
    ids = e.ids;
    slots = e.slots;
    id_marks = e.id_marks;
    locations = e.locations;
    slot_marks = λ k. write_all (e.slots k) (locations_of (e.batch k)) 0 (e.slot_marks k);
    opened = refl;
    batch = refl;
  }

-- a call that is answered alike in both
both_by : (s t : Store) → Alike s t → Inv s → Inv t → (c : Call) → refusal_of s c ≡ refusal_of t c
    → (refusal s c ≡ ok → seen c (granted (grant s c)) ≡ seen c (granted (grant t c))) → (refusal s c ≡ ok → Alike (effect s c) (effect t c))
    → (seen c (answer s c) ≡ seen c (answer t c)) × Alike (next s c) (next t c)
unfolding answer next
both_by s t e vs vt c r g f = go (refusal t c) (refusal_by s t e.same vs vt c r) refl
  where
    go : (w : Verdict) → refusal s c ≡ w → refusal t c ≡ w
        → (seen c (answer_by (refusal s c) (grant s c)) ≡ seen c (answer_by (refusal t c) (grant t c)))
        × Alike (unless (refusal s c) s (effect s c)) (unless (refusal t c) t (effect t c))
    go ok p q = rw (p, q) (g p, f p)
    go (refuse n i) p q = rw (p, q) (refl, e)

-- a refused call leaves the store, and so does one whose effect none but the excepted calls see
unseen_effect : (s : Store) (c : Call) → Same s (effect s c) → Same s (next s c)
unfolding next
unseen_effect s c f = go (refusal s c)
  where
    go : (w : Verdict) → Same s (unless w s (effect s c))
    go ok = f
    go (refuse n i) = same_refl s

-- what is seen of a cut report that is not refused for its arguments
report_by : (v : Verdict) (b c : Bool) → veil (answer_by (v ⨾ test b nothing_to_cut 0) done) ≡ veil (answer_by (v ⨾ test c nothing_to_cut 0) done)
unfolding ◌⨾◌ test
report_by ok true true = refl
report_by ok true false = refl
report_by ok false true = refl
report_by ok false false = refl
report_by (refuse n i) b c = refl

report_seen : (s t : Store) → Same s t → Inv s → Inv t → (k d : ℕ) → veil (answer s (report k d)) ≡ veil (answer t (report k d))
unfolding answer refusal refusal_of grant
report_seen s t e vs vt k d =
    (λ i. veil (answer_by (assoc (shape s (report k d)) (slab_refusal s k d) (keeping s) i) done))
    ∙ report_by (shape s (report k d) ⨾ slab_refusal s k d) (keeps (cut_at k (high_mark s k) d (slab_tip s k))) (keeps (cut_at k (high_mark t k) d (slab_tip t k)))
    ∙ (λ i. veil (answer_by ((shapes s t e vs vt (report k d) i ⨾ slab_same s t e vs vt k d i) ⨾ keeping t) done))
    ∙ (λ i. veil (answer_by (sym (assoc (shape t (report k d)) (slab_refusal t k d) (keeping t)) i) done))
  where
    keeping : Store → Verdict
    keeping x = test (keeps (cut_at k (high_mark x k) d (slab_tip x k))) nothing_to_cut 0

-- an id that is found has a location
found_one : (s : Store) (i : ℕ) → unfound s i ≡ ok → location_of s i ≢ 0
found_one s i e =
    let d = test_ok _ _ _ (first_ok _ _ e) in
    eqb-false (location_of s i) 0 (or_false (not (held_id s i)) (eqb (location_of s i) 0) d).1

granted_found : (s : Store) (i : ℕ) (row : List ℕ) → refusal s (ask (lookup i row)) ≡ ok → unfound s i ≡ ok
unfolding refusal_of ask_refusal
granted_found s i row e = then_ok _ _ (granted_rest s (ask (lookup i row)) e)

-- what a page is told of one id: of a refused one nothing of its row is told
told_alike : (s t : Store) → Alike s t → Inv s → Inv t → (i : ℕ) → told_of s i ≡ told_of t i
told_alike s t e vs vt i =
    go (unfound s i) (λ o. e.rows i (found_one s i o))
    ∙ (λ k. told_by (unfound_same s t e.same vs vt i k) (loc_same s t e.same vs vt i k) (carried_of t i))
  where
    go : (v : Verdict) → (v ≡ ok → carried_of s i ≡ carried_of t i) → told_by v (location_of s i) (carried_of s i) ≡ told_by v (location_of s i) (carried_of t i)
    go ok f = ap (told_by ok (location_of s i)) (f refl)
    go (refuse n j) f = refl

tolds_alike : (s t : Store) → Alike s t → Inv s → Inv t → (is : List ℕ) → map (told_of s) is ≡ map (told_of t) is
tolds_alike s t e vs vt [] = refl
tolds_alike s t e vs vt (i ∷ is) = λ k. told_alike s t e vs vt i k ∷ tolds_alike s t e vs vt is k

-- what a question grants
reply_seen : (s t : Store) → Alike s t → Inv s → Inv t → (q : Question) → refusal s (ask q) ≡ ok
    → seen (ask q) (granted (reply s q)) ≡ seen (ask q) (granted (reply t q))
unfolding reply
reply_seen s t e vs vt (lookup i row) r = λ k. shown (granted (found (loc_same s t e.same vs vt i k) (e.rows i (found_one s i (granted_found s i row r)) k)))
reply_seen s t e vs vt (lookups p) r = ap (λ ts. shown (granted (told ts))) (tolds_alike s t e vs vt p.ids)
reply_seen s t e vs vt counters r = refl
reply_seen s t e vs vt (defrag r is ls) x = ap (λ ms. shown (granted (moves ms))) (all_moves_same s t e.same vs vt r)
reply_seen s t e vs vt (why i r) x = ap (λ g. shown (granted (because g))) (reason_same s t e.same vs vt r i)
reply_seen s t e vs vt snapshot_length r = ap (λ is. shown (granted (gave (file_length version2 (length is))))) (stored_same s t e.same vs vt)
reply_seen s t e vs vt (snapshot file) r = ap (λ es. shown (granted (wrote (file_of version2 es)))) (entries_alike s t e vs vt)

-- a cut report may be refused in one and granted in the other, and moves a high mark alone
report_alike : (s t : Store) → Alike s t → (k d : ℕ) → Alike (next s (report k d)) (next t (report k d))
unfolding next effect
report_alike s t e k d = record {
  same = same_trans (same_sym (unseen_effect s (report k d) (high_same s _))) (same_trans e.same (unseen_effect t (report k d) (high_same t _)));
  rows = rows (refusal s (report k d)) (refusal t (report k d));
  kept_rows = kept_rows (refusal s (report k d)) (refusal t (report k d));
}
  where
    rows : (w x : Verdict) → Carry width (unless w s (effect s (report k d))).locations (unless w s (effect s (report k d))).carried
        (unless x t (effect t (report k d))).carried
    rows ok ok = e.rows
    rows ok (refuse n i) = e.rows
    rows (refuse n i) ok = e.rows
    rows (refuse n i) (refuse n₁ i₁) = e.rows

    kept_rows : (w x : Verdict) → KeptAlike (unless w s (effect s (report k d))) (unless x t (effect t (report k d)))
    kept_rows ok ok = e.kept_rows
    kept_rows ok (refuse n i) = e.kept_rows
    kept_rows (refuse n i) ok = e.kept_rows
    kept_rows (refuse n i) (refuse n₁ i₁) = e.kept_rows

pub step_same : (s t : Store) → Alike s t → Inv s → Inv t → (c : Call) → (seen c (answer s c) ≡ seen c (answer t c)) × Alike (next s c) (next t c)
unfolding refusal_of grant effect
step_same s t e vs vt new_id =
    both_by s t e vs vt new_id (rest_new_id s t e.same vs vt) (λ r. ap (λ n. shown (granted (gave n))) (next_same s t e.same vs vt))
    (λ r. record { same = new_id_same s t e.same vs vt; rows = e.rows; kept_rows = e.kept_rows })
step_same s t e vs vt release =
    both_by s t e vs vt release (rest_release s t e.same vs vt) (λ r. refl)
    (λ r. record { same = release_same s t e.same vs vt; rows = e.rows; kept_rows = e.kept_rows })
step_same s t e vs vt (offer o) =
    both_by s t e vs vt (offer o) (rest_offer s t e.same vs vt o)
    (λ r. ap (λ ls. shown (granted (placed ls))) (taken_same s t e.same vs vt (updates_in o)))
    (λ r. offer_alike s t e vs vt o (offer_same s t e.same vs vt (updates_in o)) (offer_granted s o r))
step_same s t e vs vt commit =
    both_by s t e vs vt commit (rest_commit s t e.same vs vt) (λ r. refl) (λ r. commit_alike s t e vs vt (commit_leaves s t e.same vs vt))
step_same s t e vs vt abandon =
    both_by s t e vs vt abandon (rest_abandon s t e.same vs vt) (λ r. refl) (λ r. closed_alike (abandon_leaves s t e.same vs vt) e.rows refl)
step_same s t e vs vt fresh = both_by s t e vs vt fresh refl (λ r. refl) (λ r. equal_alike (λ k. fresh_store (e.same.ids k) (e.same.slots k)))
step_same s t e vs vt (rebuild rs) =
    both_by s t e vs vt (rebuild rs) (rest_rebuild s t e.same vs vt rs) (λ r. refl)
    (λ r. equal_alike (λ k. with_carried (rebuilt (e.same.ids k) (e.same.slots k) (rows_in rs)) (rebuilt_column (e.same.ids k) rs)))
step_same s t e vs vt (ask q) = both_by s t e vs vt (ask q) (ask_same s t e.same vs vt q) (reply_seen s t e vs vt q) (λ r. e)
step_same s t e vs vt (truncation k d) =
    both_by s t e vs vt (truncation k d) (slab_same s t e.same vs vt k d) (λ r. refl)
    (λ r. record { same = same_trans (same_sym (high_same s _)) (same_trans e.same (high_same t _)); rows = e.rows; kept_rows = e.kept_rows })
step_same s t e vs vt (report k d) = (report_seen s t e.same vs vt k d, report_alike s t e k d)

-- two such stores answer every sequence of calls alike
pub answers_same : (s t : Store) → Alike s t → Inv s → Inv t → (later : List Call) → answers s later ≡ answers t later
answers_same s t e vs vt [] = refl
answers_same s t e vs vt (c ∷ cs) =
    let q = step_same s t e vs vt c in
    λ i. q.0 i ∷ answers_same (next s c) (next t c) q.1 (keep_next s c vs) (keep_next t c vt) cs i
