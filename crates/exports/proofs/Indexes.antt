-- A status has room for every refusal of a store: its number is below 256 and its index at most 65,536. Only a rebuild has more rows than
-- that, and there a refused row comes after rows whose ids are in range and differ: each is one more mark in a table of as many marks as
-- there are ids. Assumes nothing.
use mathlib.Core.Path.{◌≡◌, refl, sym, subst, ◌∙◌}
use mathlib.Core.Bool.{Bool, true, false, not, ◌&&◌}
use mathlib.Core.List.{List, [], ◌∷◌}
use Prim.Native.Nat.{ℕ, zero, suc, ◌+◌, ◌*◌, ◌<◌, ◌≤◌, pred}
use native.Mathlib.Omega.{arith}
use lib.Dec.{eqb, ltb}
use lib.ListN.{length, length-replicate, length-set, get_or, set, replicate}
use lib.Seq.{get_or-set_other}
use borrow.Author.Tests.{ltb-true, ltb-false, eqb-true, not-false}
use Rattle.refusal.specs.declared.Kind.{Kind}
use Rattle.refusal.specs.declared.Kind.TheVariants as K
use Rattle.refusal.specs.Numbers.{is_unlisted}
use Rattle.refusal.specs.Refusals.{number_of, tables_disagree}
use Rattle.refusal.proofs.Tests.{and_true, by_test}
use Rattle.list_parts.specs.Lists.{elem}
use Rattle.list_parts.proofs.Lists.{elem_not}
use Rattle.keys.specs.Keys.{long_in, all_stored}
use Rattle.address.specs.Address.{slabs}
use Rattle.marks.specs.Marks.{is_taken, count_if}
use Rattle.marks.proofs.LawsCount.{count_if_set, count_if_le}
use Rattle.model.specs.Store.{Store, Update, Row, Offer, Rows, Question, lookup, lookups, counters, defrag, why, snapshot_length, snapshot, Call, new_id, release, offer, commit, abandon, fresh, rebuild, ask, truncation, report}
use Rattle.model.specs.Verdict.{Verdict, ok, refuse, ◌⨾◌, test}
use Rattle.model.specs.Tables.{most_updates, most_opened, in_ids, bad_location, kept, pairs}
use Rattle.model.specs.Batches.{updates_of, updates_in, updates, room, commit_rows, abandon_rows}
use Rattle.model.specs.Rebuild.{rows_in, rows}
use Rattle.model.specs.Tests.{lists, as_long}
use Rattle.model.specs.Columns.{carries_for, with_offered_keys, with_rebuilt_keys}
use Rattle.model.specs.Keyed.{updates_keyed, rows_keyed}
use Rattle.model.specs.Step.{slab_refusal, refusal_of, refusal, answer}
use Rattle.model.specs.Snapshots.{is_stored, stored_ids, snapshot_rows}
use Rattle.model.specs.Questions.{ask_refusal}
use Rattle.model.proofs.Granted.{shape_ok, lists_ok}
use Rattle.model.proofs.Keyed.{offered_in_order, rebuilt_in_order}
use Rattle.model.proofs.Snapshots.{length_those}
use Rattle.model.proofs.Verdicts.{test_ok, then_ok}
use Rattle.model.proofs.Lists.{zeros}
use Rattle.exports_status.specs.Status.{status_of}
use Rattle.model.specs.Outcomes.{outcome_of}
use Rattle.exports.proofs.Laws.{status_exact}

-- ---- a number below 256, an index below b

unlisted_small : (n : ℕ) → is_unlisted n ≡ true → n < 256
unlisted_small n e = by_test (eqb n 0) (λ h. omega (arith, eqb-true n 0 h)) λ h. ltb-true n 256 (and_true (ltb 26 n) (ltb n 256) (past h)).1
  where
    past : eqb n 0 ≡ false → (ltb 26 n && ltb n 256) ≡ true
    past h = rw h at e

kinds_small : (k : Kind) → number_of k < 256
kinds_small K.WrongShape = omega arith
kinds_small K.TooLarge = omega arith
kinds_small K.OutOfRange = omega arith
kinds_small K.CheckDiffers = omega arith
kinds_small K.TooLong = omega arith
kinds_small K.UnknownVersion = omega arith
kinds_small K.FanoutDiffers = omega arith
kinds_small K.NoSuchId = omega arith
kinds_small K.RepeatedId = omega arith
kinds_small K.NoneFree = omega arith
kinds_small K.BatchOpen = omega arith
kinds_small K.NoBatch = omega arith
kinds_small K.TablesDisagree = omega arith
kinds_small K.RatioOutOfRange = omega arith
kinds_small K.TooMany = omega arith
kinds_small K.RepeatedLocation = omega arith
kinds_small K.NothingToCut = omega arith
kinds_small K.GapNotZero = omega arith
kinds_small K.WrongBlock = omega arith
kinds_small K.WrongEnd = omega arith
kinds_small K.KeyTooLong = omega arith
kinds_small K.SettingsDiffer = omega arith
kinds_small K.BadMove = omega arith
kinds_small K.NoFace = omega arith
kinds_small K.BadFace = omega arith
kinds_small K.TotalsRefused = omega arith
kinds_small (K.Unlisted u) = unlisted_small u.number u.unlisted

abbrev index_of : Verdict → ℕ
index_of ok = 0
index_of (refuse n i) = i

pub record Small (b : ℕ) (v : Verdict) : Type 0 where
  pub index : index_of v < b

small : (b : ℕ) (v : Verdict) → index_of v < b → Small b v
small b v k = record { index = k }

small_test : (b : ℕ) (t : Bool) (n : Kind) (i : ℕ) → i < b → Small b (test t n i)
unfolding test
small_test b true n i k = small _ _ k
small_test b false n i k = small _ _ (omega arith)

small_then : (b : ℕ) (v w : Verdict) → Small b v → (v ≡ ok → Small b w) → Small b (v ⨾ w)
unfolding ◌⨾◌
small_then b ok w h f = f refl
small_then b (refuse n i) w h f = h

-- a test of the whole call has index 0
small_first : (b : ℕ) (t : Bool) (n : Kind) (w : Verdict) → 0 < b → (test t n 0 ≡ ok → Small b w) → Small b (test t n 0 ⨾ w)
small_first b t n w k f = small_then b (test t n 0) w (small_test b t n 0 k) f

-- ---- rows: t marks the ids before the row

none_taken : (n : ℕ) → count_if is_taken (replicate n 0) ≡ 0
none_taken zero = refl
none_taken (suc n) = none_taken n

rows_small :
    (s : Store) (t is ls : List ℕ) (i : ℕ) (rs : List Row) → length t ≡ s.ids → count_if is_taken t ≡ i
    → ((x : ℕ) → elem x is ≡ false → get_or t x 0 ≡ 0) → (ks : List Bool) → Small (suc s.ids) (rows_keyed s is ls i rs ks)
rows_small s t is ls i [] e c f ks = small _ _ (omega arith)
rows_small s t is ls i (r ∷ rs) e c f [] = small _ _ (omega arith)
rows_small s t is ls i (r ∷ rs) e c f (long ∷ ks) =
    let k : i < suc s.ids = omega (arith, count_if_le is_taken t) in
    small_then _ _ _ (small_test _ _ _ i k) (λ in_range.
    small_then _ _ _ (small_test _ _ _ i k) (λ new.
    small_then _ _ _ (small_test _ _ _ i k) (λ at.
    small_then _ _ _ (small_test _ _ _ i k) (λ free.
    small_then _ _ _ (small_test _ long _ i k) (λ short.
    rows_small s (set t r.0 1) (r.0 ∷ is) (r.1 ∷ ls) (suc i) rs (length-set t r.0 1 ∙ e) (one_more (test_ok _ _ i in_range) (test_ok _ _ i new)) (marked (test_ok _ _ i new)) ks)))))
  where
    one_more : not (in_ids s r.0) ≡ false → elem r.0 is ≡ false → count_if is_taken (set t r.0 1) ≡ suc i
    one_more p q =
        let z = f r.0 q in
        let h : r.0 < length t = rw e (ltb-true r.0 s.ids (and_true (ltb 0 r.0) (ltb r.0 s.ids) (not-false _ p)).1) in
        let w = count_if_set is_taken t r.0 1 h in
        omega (arith, rw z at w, c)

    marked : elem r.0 is ≡ false → (x : ℕ) → elem x (r.0 ∷ is) ≡ false → get_or (set t r.0 1) x 0 ≡ 0
    marked p x q = let n = elem_not x r.0 is q in get_or-set_other t r.0 x 1 0 n.0 ∙ f x n.1

-- ---- updates and kept rows: no more than the list has

updates_small : (s : Store) (seen : List ℕ) (i b : ℕ) (us : List Update) (ks : List Bool) → i + length us ≤ b → 0 < b → Small b (updates_keyed s seen i us ks)
updates_small s seen i b [] ks h z = small _ _ z
updates_small s seen i b (u ∷ us) [] h z = small _ _ z
updates_small s seen i b (u ∷ us) (long ∷ ks) h z =
    let k : i < b = omega arith in
    small_then _ _ _ (small_test _ _ _ i k) (λ _.
    small_then _ _ _ (small_test _ _ _ i k) (λ _.
    small_then _ _ _ (small_test _ long _ i k) (λ _.
    small_then _ _ _ (small_test _ _ _ i k) (λ _.
    small_then _ _ _ (small_test _ _ _ i k) (λ _. updates_small s _ (suc i) b us ks (omega arith) z)))))

room_small : (cap : ℕ) (ms : List ℕ) (us : List Update) (n k b : ℕ) → k + n ≤ b → 0 < b → Small b (room cap ms us n k)
unfolding room
room_small cap ms us zero k b h z = small _ _ z
room_small cap ms us (suc n) k b h z = small_then _ _ _ (small_test _ _ _ k (omega arith)) (λ _. room_small cap ms us n (suc k) b (omega arith) z)

commit_small : (s : Store) (i b : ℕ) (rs : List Row) → i + length rs ≤ b → 0 < b → Small b (commit_rows s i rs)
commit_small s i b [] h z = small _ _ z
commit_small s i b (r ∷ rs) h z = small_then _ _ _ (small_test _ _ _ i (omega arith)) (λ _. commit_small s (suc i) b rs (omega arith) z)

abandon_small : (s : Store) (i b : ℕ) (rs : List Row) → i + length rs ≤ b → 0 < b → Small b (abandon_rows s i rs)
abandon_small s i b [] h z = small _ _ z
abandon_small s i b (r ∷ rs) h z = small_then _ _ _ (small_test _ _ _ i (omega arith)) (λ _. abandon_small s (suc i) b rs (omega arith) z)

length_updates : (is : List ℕ) (ss : List Bool) (ns : List ℕ) → length (updates_of is ss ns) ≤ length is
length_updates [] ss ns = omega arith
length_updates (i ∷ is) [] ns = omega arith
length_updates (i ∷ is) (s ∷ ss) [] = omega arith
length_updates (i ∷ is) (s ∷ ss) (n ∷ ns) = omega (arith, length_updates is ss ns)

length_pairs : (n : ℕ) (is ls : List ℕ) → length (pairs n is ls) ≤ n
length_pairs zero is ls = omega arith
length_pairs (suc n) [] ls = omega arith
length_pairs (suc n) (i ∷ is) [] = omega arith
length_pairs (suc n) (i ∷ is) (l ∷ ls) = omega (arith, length_pairs n is ls)

-- ---- every call

kept_most : (s : Store) → test (ltb most_opened s.batch.opened) tables_disagree 0 ≡ ok → length (kept s) ≤ most_updates
kept_most s e = omega (arith, ltb-false most_opened s.batch.opened (test_ok _ _ 0 e), length_pairs (pred s.batch.opened) s.batch.kept_ids s.batch.kept_locations)

wider : (a b : ℕ) (v : Verdict) → a ≤ b → Small a v → Small b v
wider a b v h k = small _ _ (omega (arith, k.index))

slab_small : (s : Store) (k t : ℕ) → Small 65537 (slab_refusal s k t)
slab_small s k t =
    small_first _ _ _ _ (omega arith) (λ _.
    small_first _ _ _ _ (omega arith) (λ _. small_test _ _ _ 0 (omega arith)))

snapshot_small : (bad : ℕ → Bool) (i b : ℕ) (xs : List ℕ) → i + length xs ≤ b → 0 < b → Small b (snapshot_rows bad i xs)
unfolding snapshot_rows
snapshot_small bad i b [] h z = small _ _ z
snapshot_small bad i b (x ∷ xs) h z = small_then _ _ _ (small_test _ _ _ i (omega arith)) (λ _. snapshot_small bad (suc i) b xs (omega arith) z)

-- the questions
ask_small : (s : Store) (q : Question) → s.ids ≤ 65536 → Small 65537 (ask_refusal s q)
unfolding ask_refusal
ask_small s (lookup i row) ids =
    small_first _ _ _ _ (omega arith) (λ _. small_first _ _ _ _ (omega arith) (λ _. small_test _ _ _ 0 (omega arith)))
ask_small s (lookups p) ids = small_first _ _ _ _ (omega arith) (λ _. small_test _ _ _ 0 (omega arith))
ask_small s counters ids = small _ _ (omega arith)
ask_small s snapshot_length ids = small_test _ _ _ 0 (omega arith)
ask_small s (snapshot file) ids =
    small_first _ _ _ _ (omega arith) (λ _. small_first _ _ _ _ (omega arith) (λ _.
    snapshot_small (bad_location s) 0 65537 (stored_ids s) (omega (arith, length_those (is_stored s) s.ids 0)) (omega arith)))
ask_small s (defrag r is ls) ids =
    small_first _ _ _ _ (omega arith) (λ _. small_first _ _ _ _ (omega arith) (λ _. small_test _ _ _ 0 (omega arith)))
ask_small s (why i r) ids =
    small_first _ _ _ _ (omega arith) (λ _. small_first _ _ _ _ (omega arith) (λ _. small_test _ _ _ 0 (omega arith)))

abbrev offer_lists : Offer → Bool
offer_lists o = as_long o.ids o.stores && as_long o.ids o.lengths && as_long o.ids o.placed && carries_for o.ids o.carried

-- refusal 21 stands among the tests of a row
offered_small : (s : Store) (o : Offer) → lists (offer_lists o) ≡ ok → {b : ℕ} → Small b (updates_keyed s [] 0 (updates_in o) (long_in o.stores o.carried))
    → Small b (with_offered_keys o (updates s [] 0 (updates_in o)))
offered_small s o fit {b} h =
    let a = and_true _ (carries_for o.ids o.carried) (lists_ok (offer_lists o) fit) in
    let c = and_true _ (as_long o.ids o.placed) a.0 in
    let d = and_true (as_long o.ids o.stores) (as_long o.ids o.lengths) c.0 in
    subst (Small b) (sym (offered_in_order s o (eqb-true _ _ d.0) (eqb-true _ _ d.1))) h

rebuilt_small : (s : Store) (rs : Rows) → lists (as_long rs.ids rs.locations && carries_for rs.ids rs.carried) ≡ ok
    → {b : ℕ} → Small b (rows_keyed s [] [] 0 (rows_in rs) (long_in (all_stored rs.ids) rs.carried)) → Small b (with_rebuilt_keys rs (rows s [] [] 0 (rows_in rs)))
rebuilt_small s rs fit {b} h =
    let a = and_true (as_long rs.ids rs.locations) (carries_for rs.ids rs.carried) (lists_ok _ fit) in
    subst (Small b) (sym (rebuilt_in_order s rs (eqb-true _ _ a.0))) h

-- the tests of a call whose tables fit
rest_small : (s : Store) (c : Call) → s.ids ≤ 65536 → Small 65537 (refusal_of s c)
unfolding refusal_of
rest_small s new_id ids = small_first _ _ _ _ (omega arith) (λ _. small_test _ _ _ 0 (omega arith))
rest_small s release ids = small_test _ _ _ 0 (omega arith)
rest_small s (offer o) ids =
    small_first _ _ _ _ (omega arith) (λ fit. small_first _ _ _ _ (omega arith) (λ _.
    small_first _ _ _ _ (omega arith) (λ few.
    small_then _ _ _ (wider most_updates 65537 _ (omega arith) (offered_small s o fit (updates_small s [] 0 most_updates (updates_in o) _
    (omega (arith, length_updates o.ids o.stores o.lengths, ltb-false most_updates (length o.ids) (test_ok _ _ 0 few))) (omega arith))))
    (λ _. wider slabs 65537 _ (omega arith) (room_small _ _ _ slabs 0 slabs (omega arith) (omega arith))))))
rest_small s commit ids =
    small_then _ _ _ (small_first _ _ _ _ (omega arith) (λ _. small_test _ _ _ 0 (omega arith)))
    (λ opened. wider most_opened 65537 _ (omega arith) (commit_small s 0 most_opened (kept s) (omega (arith, kept_most s (then_ok _ _ opened))) (omega arith)))
rest_small s abandon ids =
    small_then _ _ _ (small_first _ _ _ _ (omega arith) (λ _. small_test _ _ _ 0 (omega arith)))
    (λ opened. wider most_opened 65537 _ (omega arith) (abandon_small s 0 most_opened (kept s) (omega (arith, kept_most s (then_ok _ _ opened))) (omega arith)))
rest_small s fresh ids = small _ _ (omega arith)
rest_small s (rebuild rs) ids =
    small_first _ _ _ _ (omega arith) (λ fit.
    wider (suc s.ids) 65537 _ (omega arith) (rebuilt_small s rs fit
    (rows_small s (replicate s.ids 0) [] [] 0 (rows_in rs) (length-replicate {A = ℕ} s.ids 0) (none_taken s.ids) (λ x _. zeros s.ids x) _)))
rest_small s (ask q) ids = ask_small s q ids
rest_small s (truncation k t) ids = slab_small s k t
rest_small s (report k t) ids = small_then _ _ _ (slab_small s k t) (λ _. small_test _ _ _ 0 (omega arith))

pub refusal_small : (s : Store) (c : Call) → Small 65537 (refusal s c)
unfolding refusal
refusal_small s c = small_first _ _ _ _ (omega arith) (λ fits. rest_small s c (shape_ok s c fits).range.ids_to)

-- a refusal's number and index are both in its status
pub status_says : (s : Store) (c : Call) (n : Kind) (i : ℕ) → refusal s c ≡ refuse n i → (number_of n < 256) × (status_of (outcome_of (answer s c)) ≡ number_of n + 256 * i)
unfolding answer
status_says s c n i e =
    let k : Small 65537 (refuse n i) = rw e at (refusal_small s c) in
    (kinds_small n, rw e (status_exact n i (kinds_small n) (omega (arith, k.index))))
