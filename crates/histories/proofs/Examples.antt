-- Demand 3's conditions are met by a history: three ids stored, one freed, released. And a batch stays open over a lookup, which is granted, and
-- a new id, which is refused. Both are computed. Assumes nothing.
use mathlib.Core.Path.{◌≡◌, sym, ◌∙◌, refl}
use mathlib.Core.Logic.{◌≢◌}
use mathlib.Core.Bool.{true, false, Bool, not, ◌&&◌, ◌||◌, true≢false}
use mathlib.Core.List.{List, ◌∷◌, []}
use Prim.Native.Nat.{ℕ, suc, zero}
use native.Mathlib.Nat.{suc-ne-zero}
use lib.Dec.{eqb}
use lib.ListN.{get_or, drop}
use borrow.Author.Tests.{eqb-false, not-true}
use Rattle.refusal.proofs.Tests.{and_true, clash}
use Rattle.sizes.specs.Sizes.{slab_for, first_fit, slab_sizes, field_width}
use Rattle.address.specs.Address.{bad_slots}
use Rattle.marks.specs.Marks.{is_held}
use Rattle.model.specs.Batches.{room}
use Rattle.carried.specs.Carried.{put_row, put_rows, up_from, kept_row, committed}
use Rattle.little_endian.specs.LittleEndian.{word, get_at}
use Rattle.keys.specs.Keys.{key_is_long, normal, long_in, normal_rows}
use Rattle.model.specs.Columns.{offered_column, committed_column}
use Rattle.model.specs.Cases.{stores, frees, bringing, keeping}
use Rattle.model.specs.Defrag.{moves_from}
use Rattle.model.specs.Ids.{bump_pending}
use Rattle.model.specs.Lending.{lent_fit, sized}
use Rattle.model.specs.Questions.{ask_refusal, reply}
use Rattle.model.specs.Step.{state, answer, next, refusal_of, refusal, grant, effect}
use Rattle.model.specs.Store.{lookup, Call, new_id, commit, release, ask}
use Rattle.model.specs.Tables.{bad_ids, held_id, location_of, in_ids}
use Rattle.model.specs.Verdict.{◌⨾◌, test, tests_from, earlier}
use Rattle.histories.specs.Statements.{AtRest, RebuildMet, AbandonMet}
use Rattle.histories.proofs.LiveRows.{live_rows, live_bytes, live_rows_lem}
use Rattle.histories.proofs.Reached.{reached}
use Rattle.histories.proofs.NormalRows.{reached_normal}

abbrev pub calls : List Call
calls =
    new_id ∷ new_id ∷ new_id ∷ stores (1 ∷ 2 ∷ 3 ∷ []) ∷ commit ∷ frees (2 ∷ []) ∷ commit ∷ release ∷ []

abbrev without2 : List ℕ → Bool
without2 [] = true
without2 (m ∷ t) = not (eqb m 2) && without2 t

no_2 : (t : List ℕ) → without2 t ≡ true → (i : ℕ) → get_or t i 0 ≢ 2
no_2 [] e i = λ p. suc-ne-zero 1 (sym p)
no_2 (m ∷ t) e zero = eqb-false m 2 (not-true _ (and_true (not (eqb m 2)) (without2 t) e).0)
no_2 (m ∷ t) e (suc i) = no_2 t (and_true (not (eqb m 2)) (without2 t) e).1 i

abbrev each_stored : List ℕ → List ℕ → Bool
each_stored [] lo = true
each_stored (m ∷ im) [] = not (is_held m) && each_stored im []
each_stored (m ∷ im) (l ∷ lo) = (not (is_held m) || not (eqb l 0)) && each_stored im lo

is_stored_lem : (im lo : List ℕ) → each_stored im lo ≡ true → (i : ℕ) → is_held (get_or im i 0) ≡ true → get_or lo i 0 ≢ 0
is_stored_lem [] lo e i h = clash (sym h)
is_stored_lem (m ∷ im) [] e zero h = absurd (true≢false (sym h ∙ not-true _ (and_true (not (is_held m)) (each_stored im []) e).0))
is_stored_lem (m ∷ im) [] e (suc i) h = is_stored_lem im [] (and_true (not (is_held m)) (each_stored im []) e).1 i h
is_stored_lem (m ∷ im) (l ∷ lo) e zero h =
    go (is_held m) h (and_true (not (is_held m) || not (eqb l 0)) (each_stored im lo) e).0
  where
    go : (b : Bool) → b ≡ true → (not b || not (eqb l 0)) ≡ true → l ≢ 0
    go true h f = eqb-false l 0 (not-true _ f)
    go false h f = clash (sym h)
is_stored_lem (m ∷ im) (l ∷ lo) e (suc i) h = is_stored_lem im lo (and_true (not (is_held m) || not (eqb l 0)) (each_stored im lo) e).1 i h

pub at_rest : AtRest (state 9 4 calls)
unfolding ◌⨾◌ test answer next refusal refusal_of ask_refusal reply lent_fit grant effect bad_ids bad_slots slab_for first_fit slab_sizes field_width room bump_pending moves_from offered_column committed_column put_row put_rows up_from kept_row committed tests_from earlier key_is_long long_in normal normal_rows get_at word
at_rest = record {
  closed = refl;
  no_id = no_2 (state 9 4 calls).id_marks refl;
  no_slot = no_2 (state 9 4 calls).slot_marks refl;
  stored = stored;
}
  where
    stored : (i : ℕ) → held_id (state 9 4 calls) i ≡ true → location_of (state 9 4 calls) i ≢ 0
    stored zero h = clash (sym h)
    stored (suc i) h = is_stored_lem (drop 1 (state 9 4 calls).id_marks) (drop 1 (state 9 4 calls).locations) refl i
        (and_true (in_ids (state 9 4 calls) (suc i)) _ h).1

pub rebuild_met : RebuildMet
unfolding sized ◌⨾◌ test answer next refusal refusal_of ask_refusal reply lent_fit grant effect bad_ids bad_slots slab_for first_fit slab_sizes field_width room bump_pending moves_from offered_column committed_column put_row put_rows up_from kept_row committed tests_from earlier key_is_long long_in normal normal_rows get_at word
rebuild_met = (calls, live_rows (state 9 4 calls), live_bytes (state 9 4 calls), at_rest, live_rows_lem (state 9 4 calls) (reached 9 4 refl calls) at_rest (reached_normal 9 4 calls), refl, refl)

pub abandon_met : AbandonMet
unfolding ◌⨾◌ test answer next refusal refusal_of ask_refusal reply lent_fit grant effect bad_ids bad_slots slab_for first_fit slab_sizes field_width room bump_pending moves_from offered_column committed_column put_row put_rows up_from kept_row committed tests_from earlier key_is_long long_in normal normal_rows get_at word
abandon_met = (calls, record { ids = 1 ∷ []; stores = true ∷ []; lengths = 60 ∷ []; carried = bringing 7 []; placed = 0 ∷ [] }, ask (lookup 3 (keeping 0 [])) ∷ new_id ∷ [], refl, (refl, (refl, refl)), refl, refl)
