-- The snapshot of a store at rest is that of its live rows (Stored), a file gives back the rows that it was written from, and a rebuild from the live rows
-- agrees (histories). Assumes nothing.
use mathlib.Core.Path.{◌≡◌, refl, sym, ap, ◌∙◌, subst}
use mathlib.Core.Bool.{true}
use mathlib.Core.List.{List, [], ◌∷◌, ◌++◌, map}
use Prim.Native.Nat.{ℕ, suc, ◌*◌}
use native.Mathlib.Omega.{arith}
use lib.Dec.{ltb}
use lib.ListN.{length, take, length-map, get_or-eq_default}
use borrow.Author.Tests.{eq-eqb}
use Rattle.refusal.specs.Refusals.{batch_open, tables_disagree, key_too_long}
use Rattle.refusal.specs.Outcomes.{granted}
use Rattle.list_parts.specs.Parts.{part}
use Rattle.carried.specs.Carried.{width}
use Rattle.snapshot_blocks.specs.Formats.{version1, version2, format_of, per_block}
use Rattle.snapshot_blocks.specs.Blocks.{Entry, entry_for}
use Rattle.snapshot_blocks.specs.Files.{file_of, file_length}
use Rattle.snapshot_blocks.specs.Valid.{Valid, All}
use Rattle.keys.specs.Keys.{key_length, long_in, normal_rows, all_stored, brought}
use Rattle.keys.proofs.Laws.{normal_brought_1}
use Rattle.keys.proofs.Brought.{brought_of, kept_of, Wholes, long_in_brought_of, normal_rows_brought_of}
use Rattle.snapshot_laws.specs.Reading.{brought_by}
use Rattle.snapshot_laws.specs.Lent.{Holds}
use Rattle.snapshot_laws.proofs.Stated.{lists_read}
use Rattle.snapshot_lists.specs.Lists.{ReadInto, read_into}
use Rattle.model.specs.Questions.{ask_refusal, reply}
use Rattle.model.specs.Rebuild.{columns}
use Rattle.model.specs.Snapshots.{is_stored, stored_ids, entries_of, snapshot_of, snapshot_rows}
use Rattle.model.specs.Step.{refusal_of, refusal, grant, answer, answer_by, next, state}
use Rattle.model.specs.Store.{Store, rebuild, ask, snapshot, wrote}
use Rattle.model.specs.Tables.{bad_location, location_of, ids_of, locations_of}
use Rattle.model.specs.Tests.{lists}
use Rattle.model.specs.Verdict.{ok, ◌⨾◌, test, tests_from}
use Rattle.model.proofs.Sizes.{sized_sizes, sized_shape}
use Rattle.model.proofs.Snapshots.{length_those}
use Rattle.model.proofs.Verdicts.{tests_from_none}
use Rattle.histories.specs.Invariant.{Inv}
use Rattle.histories.specs.Statements.{AtRest, answers, Normal}
use Rattle.histories.proofs.Reached.{reached}
use Rattle.histories.proofs.Rebuilt.{rebuild_agrees}
use Rattle.histories.proofs.NormalRows.{reached_normal}
use Rattle.histories.proofs.Brought.{brought_at}
use Rattle.histories.proofs.Same.{never_13}
use Rattle.histories_files.specs.Statements.{rows_read, SnapshotAgrees, Version1Opens}
use Rattle.histories_files.proofs.Stored.{row_of, rows, bytes, stored_rows, stored_valid, stored_ascending}
use Rattle.histories_files.proofs.Opened.{without_keys, finds, next_inv, next_closed, next_count, next_entries}
use Rattle.std.specs.Prelude.{Ok}

-- ---- writing

rows_fine : (s : Store) → Inv s → (i : ℕ) (xs : List ℕ) → snapshot_rows (bad_location s) i xs ≡ ok
unfolding snapshot_rows test ◌⨾◌
rows_fine s v i [] = refl
rows_fine s v i (x ∷ xs) = λ k. test (never_13 s v x k) tables_disagree i ⨾ rows_fine s v (suc i) xs k

written : (s : Store) → Inv s → s.batch.opened ≡ 0 → (file : List ℕ) → length file ≡ file_length version2 (length (stored_ids s))
    → answer s (ask (snapshot file)) ≡ granted (wrote (snapshot_of s))
unfolding answer refusal refusal_of ask_refusal grant reply test ◌⨾◌
written s v a file e = λ k. answer_by
    (sized_shape s v.is_sized (ask (snapshot file)) k ⨾ lists (eq-eqb _ _ e k) ⨾ test (ltb 0 (a k)) batch_open 0 ⨾
    rows_fine s v 0 (stored_ids s) k) (wrote (snapshot_of s))

-- ---- the rows that come back

locations_rows : (s : Store) (xs : List ℕ) → map (λ (e : Entry). e.location) (map (entry_for width s.locations s.carried) xs) ≡ locations_of (map (row_of s) xs)
locations_rows s [] = refl
locations_rows s (x ∷ xs) = ap (λ ys. location_of s x ∷ ys) (locations_rows s xs)

ids_entries : (s : Store) (xs : List ℕ) → map (λ (e : Entry). e.id) (map (entry_for width s.locations s.carried) xs) ≡ ids_of (map (row_of s) xs)
ids_entries s [] = refl
ids_entries s (x ∷ xs) = ap (λ ys. x ∷ ys) (ids_entries s xs)

carried_rows : (s : Store) (xs : List ℕ) → brought_by (map (entry_for width s.locations s.carried) xs) ≡ brought_at s.carried xs
unfolding brought_by
carried_rows s [] = refl
carried_rows s (x ∷ xs) = ap (λ ys. brought (part width s.carried x) ++ ys) (carried_rows s xs)

rows_back : (s : Store) (v : Inv s) (a : AtRest s) (w : Normal s.carried) (t : ReadInto) → Holds (entries_of s) t
    → rows_read (length (stored_ids s)) t ≡ columns (rows s v a w) (bytes s v a w)
rows_back s v a w t h =
    let n : length (entries_of s) ≡ length (stored_ids s) = length-map (stored_ids s) (entry_for width s.locations s.carried) in
    λ k. record {
      ids = (ap (λ x. take x t.ids) (sym n) ∙ h.ids_held ∙ ids_entries s (stored_ids s)) k;
      locations = (ap (λ x. take x t.locations) (sym n) ∙ h.locations_held ∙ locations_rows s (stored_ids s)) k;
      carried = (ap (λ x. take (x * width) t.carried) (sym n) ∙ h.carried_held ∙ carried_rows s (stored_ids s)) k;
    }

pub snapshot_agrees : SnapshotAgrees
unfolding file_length per_block format_of
snapshot_agrees n m h file ids locations carried memory c a b e room same-locations same_carried en em z =
    let s = state n m h in
    let v : Inv s = reached n m c h in
    let es = entries_of s in
    let q : length es ≡ length (stored_ids s) = length-map (stored_ids s) (entry_for width s.locations s.carried) in
    let few = length_those (is_stored s) s.ids 0 in
    let top = (sized_sizes s v.is_sized).range.ids_to in
    let t = read_into (snapshot_of s) ids locations carried in
    let w : Normal s.carried = reached_normal n m h in
    let held = lists_read version2 refl es (omega (arith, q, few, top)) (stored_valid s v a w b) (stored_ascending s v a w) ids locations carried (omega (arith, q, e, room)) same-locations same_carried in
    let back = rows_back s v a w t held in
    let agreed = rebuild_agrees n m h (rows s v a w) (bytes s v a w) memory c a (stored_rows s v a w) en em z in
    record {
      written = written s v a.closed file e;
      read = held.answered ∙ ap Ok q;
      rebuilt = subst (λ r. refusal memory (rebuild r) ≡ ok) (sym back) agreed.0;
      agrees = λ later. subst (λ r. answers (next memory (rebuild r)) later ≡ answers s later) (sym back) (agreed.1 later);
    }

-- ---- files of version 1

wholes_1 : (es : List Entry) → All (Valid version1) es → Wholes (λ (e : Entry). e.carried) es
wholes_1 [] a = tt
wholes_1 (e ∷ es) a =
    let l : length e.carried ≡ 8 = a.0.wide in
    let z : key_length e.carried ≡ 0 = get_or-eq_default e.carried 0 (omega (arith, l)) in
    ((omega (arith, l), omega (arith, z)), wholes_1 es a.1)

kept_1 : (es : List Entry) → All (Valid version1) es → kept_of (λ (e : Entry). e.carried) es ≡ without_keys es
kept_1 [] a = refl
kept_1 (e ∷ es) a = λ k. normal_brought_1 e.carried a.0.wide k ++ kept_1 es a.1 k

brought_entries : (es : List Entry) → brought_by es ≡ brought_of (λ (e : Entry). e.carried) es
unfolding brought_by
brought_entries [] = refl
brought_entries (e ∷ es) = ap (λ ys. brought e.carried ++ ys) (brought_entries es)

stores_entries : (es : List Entry) → all_stored (map (λ (e : Entry). e.id) es) ≡ map (λ (e : Entry). true) es
stores_entries [] = refl
stores_entries (e ∷ es) = ap (λ ss. true ∷ ss) (stores_entries es)

pub version1_opens : Version1Opens
unfolding per_block format_of
version1_opens es n a o ids locations carried room same-locations same_carried =
    let t = read_into (file_of version1 es) ids locations carried in
    let held = lists_read version1 refl es n a o ids locations carried (omega (arith, room)) same-locations same_carried in
    let rs = rows_read (length es) t in
    let ss : all_stored (take (length es) t.ids) ≡ map (λ (e : Entry). true) es = ap all_stored held.ids_held ∙ stores_entries es in
    let bs : take (length es * width) t.carried ≡ brought_of (λ (e : Entry). e.carried) es = held.carried_held ∙ brought_entries es in
    let kept : normal_rows (all_stored (take (length es) t.ids)) (take (length es * width) t.carried) ≡ without_keys es =
    (λ k. normal_rows (ss k) (bs k)) ∙ normal_rows_brought_of (λ (e : Entry). e.carried) es (wholes_1 es a) ∙ kept_1 es a in
    record {
      short = (λ k. tests_from key_too_long 0 (long_in (ss k) (bs k)))
          ∙ ap (tests_from key_too_long 0) (long_in_brought_of (λ (e : Entry). e.carried) es (wholes_1 es a)) ∙ tests_from_none key_too_long 0 es;
      finds = finds es a rs held.ids_held held.locations_held kept;
      snaps = λ memory fine file e.
          let after = next memory (rebuild rs) in
          let count = next_count es a rs held.ids_held held.locations_held kept memory fine o in
          written after (next_inv es a rs held.ids_held held.locations_held kept memory fine)
          (next_closed es a rs held.ids_held held.locations_held kept memory fine) file (e ∙ ap (file_length version2) (sym count))
          ∙ ap (λ xs. granted (wrote (file_of version2 xs))) (next_entries es a rs held.ids_held held.locations_held kept memory fine o);
    }
