-- Two stores whose placement no call but the excepted ones tells apart, and that they refuse alike. Assumes nothing.
use mathlib.Core.Path.{◌≡◌, refl, sym, ◌∙◌, ap}
use mathlib.Core.Bool.{false, not, ◌&&◌, ◌||◌}
use mathlib.Core.List.{List, [], ◌∷◌}
use Prim.Native.Nat.{ℕ, suc, zero, ◌+◌}
use native.Mathlib.Nat.{suc-ne-zero}
use lib.Dec.{eqb, ltb, leb}
use lib.ListN.{drop, get_or, set, length}
use borrow.Author.Tests.{eq-eqb, lt-leb}
use Rattle.refusal.proofs.Tests.{all}
use Rattle.refusal.specs.Refusals.{batch_open, no_batch, tables_disagree, no_such_id, repeated_id, too_large, out_of_range, repeated_location, none_free, too_many, ratio_out_of_range}
use Rattle.list_parts.specs.Lists.{elem}
use Rattle.address.specs.Address.{is_location, slabs}
use Rattle.marks.specs.Marks.{is_held, first_free}
use Rattle.snapshot_blocks.specs.Formats.{version2}
use Rattle.snapshot_blocks.specs.Files.{file_length}
use Rattle.carried.specs.Carried.{width}
use Rattle.fragmentation.specs.Cutoff.{is_ratio}
use Rattle.model.specs.Batches.{updates, id_of, no_class, room, bad_row, commit_rows, abandon_rows, taken_by, place, updates_in}
use Rattle.model.specs.Columns.{carries_for, with_offered_keys, with_rebuilt_keys}
use Rattle.model.specs.Ids.{next_id}
use Rattle.model.specs.Questions.{unfound, ask_refusal}
use Rattle.model.specs.Rebuild.{rows, rows_in}
use Rattle.model.specs.Snapshots.{is_stored, those_from, stored_ids, snapshot_rows}
use Rattle.model.specs.Step.{refusal_of, refusal, slab_refusal}
use Rattle.model.specs.Store.{Store, with_carried, Update, Row, Offer, Rows, Question, lookup, lookups, counters, defrag, why, snapshot_length, snapshot, Call, new_id, release, offer, commit, abandon, rebuild}
use Rattle.model.specs.Tables.{most_updates, most_opened, kept, bad_location, location_of, bad_at, is_open, in_ids, held_id}
use Rattle.model.specs.Tests.{shape, lists, as_long, none_open, one_open}
use Rattle.model.specs.Truncation.{high_mark, is_target}
use Rattle.model.specs.Verdict.{test, ◌⨾◌}
use Rattle.model.proofs.Sizes.{sized_shape}
use Rattle.histories.specs.Invariant.{Inv, Located}
use Rattle.histories.specs.Statements.{seen}

pub record Same (s t : Store) : Type 0 where
  pub ids : s.ids ≡ t.ids
  pub slots : s.slots ≡ t.slots
  -- id 0's mark may differ
  pub id_marks : drop 1 s.id_marks ≡ drop 1 t.id_marks
  pub locations : s.locations ≡ t.locations
  pub slot_marks : s.slot_marks ≡ t.slot_marks
  pub opened : s.batch.opened ≡ t.batch.opened
  pub batch : kept s ≡ kept t

pub same_refl : (s : Store) → Same s s
same_refl s = record { ids = refl; slots = refl; id_marks = refl; locations = refl; slot_marks = refl; opened = refl; batch = refl }

pub same_sym : {s t : Store} → Same s t → Same t s
same_sym e = record {
  ids = sym e.ids;
  slots = sym e.slots;
  id_marks = sym e.id_marks;
  locations = sym e.locations;
  slot_marks = sym e.slot_marks;
  opened = sym e.opened;
  batch = sym e.batch;
}

pub same_trans : {s t u : Store} → Same s t → Same t u → Same s u
same_trans e f = record {
  ids = e.ids ∙ f.ids;
  slots = e.slots ∙ f.slots;
  id_marks = e.id_marks ∙ f.id_marks;
  locations = e.locations ∙ f.locations;
  slot_marks = e.slot_marks ∙ f.slot_marks;
  opened = e.opened ∙ f.opened;
  batch = e.batch ∙ f.batch;
}

-- placement does not look at what rows carry
pub same_carried : {s t : Store} (c d : List ℕ) → Same s t → Same (with_carried s c) (with_carried t d)
same_carried c d e = record {
  ids = e.ids;
  slots = e.slots;
  id_marks = e.id_marks;
  locations = e.locations;
  slot_marks = e.slot_marks;
  opened = e.opened;
  batch = e.batch;
}

-- ---- the table of ids' marks but its first

pub drop_get : (t : List ℕ) (i : ℕ) → get_or t (suc i) 0 ≡ get_or (drop 1 t) i 0
drop_get [] i = refl
drop_get (x ∷ xs) i = refl

pub drop_set_zero : (t : List ℕ) (v : ℕ) → drop 1 (set t 0 v) ≡ drop 1 t
drop_set_zero [] v = refl
drop_set_zero (x ∷ xs) v = refl

pub drop_set_suc : (t : List ℕ) (i v : ℕ) → drop 1 (set t (suc i) v) ≡ set (drop 1 t) i v
drop_set_suc [] i v = refl
drop_set_suc (x ∷ xs) i v = refl

pub drop_set : (t u : List ℕ) (i v : ℕ) → drop 1 t ≡ drop 1 u → drop 1 (set t i v) ≡ drop 1 (set u i v)
drop_set t u zero v e = drop_set_zero t v ∙ e ∙ sym (drop_set_zero u v)
drop_set t u (suc i) v e = drop_set_suc t i v ∙ ap (λ x. set x i v) e ∙ sym (drop_set_suc u i v)

-- ---- what a store of the invariant never refuses with: 13

pub never_13 : (s : Store) → Inv s → (i : ℕ) → bad_location s i ≡ false
never_13 s v i = go (location_of s i) refl
  where
    go : (l : ℕ) → location_of s i ≡ l → bad_at s i l ≡ false
    go zero e = refl
    go (suc l) e =
        let L : Located s.slots s.id_marks s.slot_marks s.owners i (suc l) = rw e at (v.good.located i (rw e (suc-ne-zero l))) in
        ap not (all (all L.range (ap is_held L.slot_held)) (eq-eqb _ i L.owner))

module _ (s t : Store) (e : Same s t) (vs : Inv s) (vt : Inv t) where
  pub shapes : (c : Call) → shape s c ≡ shape t c
  shapes c = sized_shape s vs.is_sized c ∙ sym (sized_shape t vt.is_sized c)

  pub open_same : is_open s ≡ is_open t
  open_same = ap (λ n. ltb 0 n) e.opened

  none_open_lem : none_open s ≡ none_open t
  none_open_lem = ap (λ b. test b batch_open 0) open_same

  one_open_lem : one_open s ≡ one_open t
  one_open_lem = λ k. test (not (open_same k)) no_batch 0 ⨾ test (ltb most_opened (e.opened k)) tables_disagree 0

  pub in_ids_same : (i : ℕ) → in_ids s i ≡ in_ids t i
  in_ids_same i = ap (λ n. ltb 0 i && ltb i n) e.ids

  pub held_same : (i : ℕ) → held_id s i ≡ held_id t i
  held_same zero = refl
  held_same (suc i) = λ k. in_ids_same (suc i) k && is_held ((drop_get s.id_marks i ∙ ap (λ x. get_or x i 0) e.id_marks ∙ sym (drop_get t.id_marks i)) k)

  pub loc_same : (i : ℕ) → location_of s i ≡ location_of t i
  loc_same i = ap (λ x. get_or x i 0) e.locations

  pub bad_same : (i : ℕ) → bad_location s i ≡ bad_location t i
  bad_same i = never_13 s vs i ∙ sym (never_13 t vt i)

  valid_same : (l : ℕ) → is_location s.slots l ≡ is_location t.slots l
  valid_same l = ap (λ c. is_location c l) e.slots

  updates_same : (seen : List ℕ) (i : ℕ) (us : List Update) → updates s seen i us ≡ updates t seen i us
  updates_same seen i [] = refl
  updates_same seen i (u ∷ us) = λ k.
      test (not (held_same (id_of u) k)) no_such_id i ⨾ test (elem (id_of u) seen) repeated_id i ⨾ test (no_class u) too_large i ⨾ test (bad_same (id_of u) k) tables_disagree i ⨾
      updates_same (id_of u ∷ seen) (suc i) us k

  room_same : (us : List Update) (n k : ℕ) → room s.slots s.slot_marks us n k ≡ room t.slots t.slot_marks us n k
  room_same us n k = λ i. room (e.slots i) (e.slot_marks i) us n k

  bad_row_same : (r : Row) → bad_row s r ≡ bad_row t r
  bad_row_same r = λ i. not (in_ids_same r.0 i && (eqb r.1 0 || valid_same r.1 i))

  commit_same : (i : ℕ) (ks : List Row) → commit_rows s i ks ≡ commit_rows t i ks
  commit_same i [] = refl
  commit_same i (r ∷ rs) = λ k. test (bad_row_same r k || bad_same r.0 k) tables_disagree i ⨾ commit_same (suc i) rs k

  abandon_same : (i : ℕ) (ks : List Row) → abandon_rows s i ks ≡ abandon_rows t i ks
  abandon_same i [] = refl
  abandon_same i (r ∷ rs) = λ k. test (bad_row_same r k) tables_disagree i ⨾ abandon_same (suc i) rs k

  rows_same : (is ls : List ℕ) (i : ℕ) (rs : List Row) → rows s is ls i rs ≡ rows t is ls i rs
  rows_same is ls i [] = refl
  rows_same is ls i (r ∷ rs) = λ k.
      test (not (in_ids_same r.0 k)) no_such_id i ⨾ test (elem r.0 is) repeated_id i ⨾ test (not (valid_same r.1 k)) out_of_range i ⨾ test
      (elem r.1 ls) repeated_location i ⨾
      rows_same (r.0 ∷ is) (r.1 ∷ ls) (suc i) rs k

  pub next_same : next_id s ≡ next_id t
  next_same = ap (λ x. 1 + first_free x) e.id_marks

  pub taken_same : (us : List Update) → taken_by s us ≡ taken_by t us
  taken_same us = λ i. place (e.slots i) (e.slot_marks i) us

  -- no high mark of a reached store is out of range
  pub slab_same : (k d : ℕ) → slab_refusal s k d ≡ slab_refusal t k d
  slab_same k d = λ i.
      none_open_lem i ⨾
      test (leb slabs k || (lt-leb s.slots (high_mark s k) (vs.tops k) ∙ sym (lt-leb t.slots (high_mark t k) (vt.tops k))) i) out_of_range 0 ⨾
      test (not (is_target d)) ratio_out_of_range 0

  pub stored_one_same : (i : ℕ) → is_stored s i ≡ is_stored t i
  stored_one_same i = λ k. held_same i k && not (eqb (loc_same i k) 0)

  pub stored_same : stored_ids s ≡ stored_ids t
  stored_same = λ k. those_from (λ i. stored_one_same i k) (e.ids k) 0

  -- and so is a lookup of one id
  pub unfound_same : (i : ℕ) → unfound s i ≡ unfound t i
  unfound_same i = λ k. test (not (held_same i k) || eqb (loc_same i k) 0) no_such_id 0 ⨾ test (bad_same i k) tables_disagree 0

  -- a question is refused alike
  pub ask_same : (q : Question) → ask_refusal s q ≡ ask_refusal t q
  unfolding ask_refusal
  ask_same (lookup i row) = λ k. lists (eqb (length row) width) ⨾ unfound_same i k
  ask_same (lookups p) = refl
  ask_same counters = refl
  ask_same (defrag r is ls) = λ k.
      lists (eqb (suc (length is)) (e.ids k) && as_long is ls) ⨾ none_open_lem k ⨾ test (not (is_ratio r)) ratio_out_of_range 0
  ask_same (why i r) = λ k. none_open_lem k ⨾ test (not (is_ratio r)) ratio_out_of_range 0 ⨾ test (stored_one_same i k && bad_same i k) tables_disagree 0
  ask_same snapshot_length = none_open_lem
  ask_same (snapshot file) = λ k.
      lists (eqb (length file) (file_length version2 (length (stored_same k)))) ⨾ none_open_lem k ⨾
      snapshot_rows (λ i. bad_same i k) 0 (stored_same k)

  -- ---- refused alike: the tests after refusal 1, which no such store gives for its tables

  pub rest_new_id : refusal_of s new_id ≡ refusal_of t new_id
  unfolding refusal_of
  rest_new_id = λ k. none_open_lem k ⨾ test (leb (e.ids k) (next_same k)) none_free 0

  pub rest_release : refusal_of s release ≡ refusal_of t release
  unfolding refusal_of
  rest_release = none_open_lem

  pub rest_offer : (o : Offer) → refusal_of s (offer o) ≡ refusal_of t (offer o)
  unfolding refusal_of
  rest_offer o = λ k.
      lists (as_long o.ids o.stores && as_long o.ids o.lengths && as_long o.ids o.placed && carries_for o.ids o.carried) ⨾ none_open_lem k ⨾
      test (ltb most_updates (length o.ids)) too_many 0 ⨾ with_offered_keys o (updates_same [] 0 (updates_in o) k) ⨾ room_same (updates_in o) slabs 0 k

  pub rest_commit : refusal_of s commit ≡ refusal_of t commit
  unfolding refusal_of
  rest_commit = λ k. one_open_lem k ⨾ (commit_same 0 (kept s) ∙ ap (commit_rows t 0) e.batch) k

  pub rest_abandon : refusal_of s abandon ≡ refusal_of t abandon
  unfolding refusal_of
  rest_abandon = λ k. one_open_lem k ⨾ (abandon_same 0 (kept s) ∙ ap (abandon_rows t 0) e.batch) k

  pub rest_rebuild : (rs : Rows) → refusal_of s (rebuild rs) ≡ refusal_of t (rebuild rs)
  unfolding refusal_of
  rest_rebuild rs = λ k. lists (as_long rs.ids rs.locations && carries_for rs.ids rs.carried) ⨾ with_rebuilt_keys rs (rows_same [] [] 0 (rows_in rs) k)

  pub refusal_by : (c : Call) → refusal_of s c ≡ refusal_of t c → refusal s c ≡ refusal t c
  unfolding refusal
  refusal_by c r = λ k. shapes c k ⨾ r k
