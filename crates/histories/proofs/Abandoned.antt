-- A batch that is abandoned leaves no trace but in the excepted answers. Assumes nothing.
use mathlib.Core.Path.{ap, ◌≡◌, sym, refl, ◌∙◌, subst}
use mathlib.Core.Logic.{◌⊎◌, ◌≢◌, inr, inl}
use mathlib.Core.Bool.{true, Bool, false, ◌||◌, not}
use mathlib.Core.List.{List, [], ◌∷◌}
use Prim.Native.Nat.{ℕ, suc, pred}
use native.Mathlib.Decide.{ℕ_discrete}
use lib.Dec.{ltb, eqb}
use lib.ListN.{get_or}
use lib.Seq.{ext_get_or}
use borrow.Author.Tests.{lt-ltb, eqb-false, le-ltb}
use Rattle.refusal.specs.Refusals.{tables_disagree, no_batch}
use Rattle.refusal.proofs.Tests.{clash, all, contradiction}
use Rattle.address.specs.Address.{is_location}
use Rattle.fragmentation.proofs.LawsCut.{between}
use Rattle.model.specs.Batches.{abandon_rows, bad_row, after_abandon, after_offer, taken_by, updates_in}
use Rattle.model.specs.Columns.{offered_column}
use Rattle.model.specs.Lending.{every_table}
use Rattle.model.specs.Step.{refusal_of, refusal, after, effect, next, unless, state}
use Rattle.model.specs.Store.{Store, with_carried, Row, abandon, Update, Offer, offer, Call, new_id, release, commit, fresh, rebuild, ask, truncation, report}
use Rattle.model.specs.Tables.{most_opened, slot_place, write_all, is_open, kept, locations_of, pairs}
use Rattle.list_parts.specs.Lists.{elem}
use Rattle.model.specs.Tests.{none_open}
use Rattle.model.specs.Verdict.{ok, ◌⨾◌, test, Verdict, refuse}
use Rattle.model.proofs.Batches.{length_place}
use Rattle.model.proofs.Answered.{next_granted, next_refused}
use Rattle.model.proofs.Granted.{granted_rest, offer_granted}
use Rattle.model.proofs.Sizes.{Sizes, sized_sizes, sized_shape}
use Rattle.model.proofs.Lists.{nz_lt, one_nz}
use Rattle.list_parts.proofs.Lists.{elem_tail, elem_head, elem_cases}
use Rattle.model.proofs.Locations.{is_location_nz}
use Rattle.model.proofs.Spots.{Spot}
use Rattle.model.proofs.Writes.{length_write_all, write_all_same, write_all_other}
use Rattle.model.proofs.Verdicts.{test_ok, first_ok, then_ok}
use Rattle.histories.specs.Invariant.{KeptRows, Inv}
use Rattle.histories.specs.Statements.{StaysOpen, granted_of, keep_if, AbandonAgrees, answers}
use Rattle.histories.proofs.KeptBatches.{kept_offer, locs_pairs, place_free}
use Rattle.histories.proofs.Reached.{reached, keep_next}
use Rattle.histories.proofs.Same.{Same, same_carried}
use Rattle.histories.proofs.SameRows.{Alike, closed_alike, offered_other, located_lt}
use Rattle.histories.proofs.SameAnswers.{answers_same}

-- one of the locations has its slot at p, or none has
found : (cap p : ℕ) (ls : List ℕ)
    → ((l : ℕ) × (elem l ls ≡ true) × (is_location cap l ≡ true) × (p ≡ slot_place cap l))
    ⊎ ((l : ℕ) → elem l ls ≡ true → is_location cap l ≡ true → p ≢ slot_place cap l)
found cap p [] = inr (λ l e. clash (sym e))
found cap p (k ∷ ks) = go (is_location cap k) refl (ℕ_discrete p (slot_place cap k)) (found cap p ks)
  where
    Here : List ℕ → Type 0
    Here ls = (l : ℕ) × (elem l ls ≡ true) × (is_location cap l ≡ true) × (p ≡ slot_place cap l)

    None : List ℕ → Type 0
    None ls = (l : ℕ) → elem l ls ≡ true → is_location cap l ≡ true → p ≢ slot_place cap l

    go : (b : Bool) → is_location cap k ≡ b → Dec (p ≡ slot_place cap k) → Here ks ⊎ None ks → Here (k ∷ ks) ⊎ None (k ∷ ks)
    go b z d (inl h) = inl (h.0, elem_tail h.0 k ks h.1, h.2, h.3)
    go true z (yes q) (inr f) = inl (k, elem_head k k ks refl, z, q)
    go false z d (inr f) = inr (λ l e n. first l n (elem_cases l k ks e))
      where
        first : (l : ℕ) → is_location cap l ≡ true → (l ≡ k) ⊎ (elem l ks ≡ true) → p ≢ slot_place cap l
        first l n (inl s) = contradiction n (rw s z)
        first l n (inr m) = f l m n
    go true z (no q) (inr f) = inr (λ l e n. first l n (elem_cases l k ks e))
      where
        first : (l : ℕ) → is_location cap l ≡ true → (l ≡ k) ⊎ (elem l ks ≡ true) → p ≢ slot_place cap l
        first l n (inl s) = rw s q
        first l n (inr m) = f l m n

-- slots that were free are taken and freed
undone : (cap : ℕ) (ls t : List ℕ) → ((l : ℕ) → elem l ls ≡ true → l ≢ 0 → Spot cap t l) → write_all cap ls 0 (write_all cap ls 1 t) ≡ t
undone cap ls t h = ext_get_or 0 _ _ (length_write_all cap ls 0 (write_all cap ls 1 t) ∙ length_write_all cap ls 1 t) (λ p b. go p (found cap p ls))
  where
    go : (p : ℕ) → ((l : ℕ) × (elem l ls ≡ true) × (is_location cap l ≡ true) × (p ≡ slot_place cap l))
        ⊎ ((l : ℕ) → elem l ls ≡ true → is_location cap l ≡ true → p ≢ slot_place cap l)
        → get_or (write_all cap ls 0 (write_all cap ls 1 t)) p 0 ≡ get_or t p 0
    go p (inl f) =
        let q = h f.0 f.1 (is_location_nz cap f.0 f.2) in
        rw f.3 (write_all_same cap ls 0 (write_all cap ls 1 t) f.0 f.1 f.2 (rw length_write_all q.inside) ∙ sym q.is_free_lem)
    go p (inr f) = write_all_other cap ls 0 (write_all cap ls 1 t) p f ∙ write_all_other cap ls 1 t p f

-- ---- a kept batch of the invariant is not refused

rows_fine : (s : Store) → Sizes every_table s → (i : ℕ) (ks : List Row) → KeptRows s.slots s.id_marks s.locations s.slot_marks ks → abandon_rows s i ks ≡ ok
unfolding ◌⨾◌ test
rows_fine s z i [] k = refl
rows_fine s z i (r ∷ rs) k = λ j. test (fine_row j) tables_disagree i ⨾ rows_fine s z (suc i) rs k.1 j
  where
    range : ltb r.0 s.ids ≡ true
    range = lt-ltb _ _ (rw z.id_marks at (nz_lt s.id_marks r.0 (one_nz k.0.id_held)))

    loc : (b : Bool) → eqb r.1 0 ≡ b → (b || is_location s.slots r.1) ≡ true
    loc true e = refl
    loc false e = (k.0.reserved (eqb-false r.1 0 e)).range

    fine_row : bad_row s r ≡ false
    fine_row = ap not (all (all (lt-ltb 0 r.0 k.0.pos) range) (loc (eqb r.1 0) refl))

pub abandon_granted : (s : Store) → Inv s → is_open s ≡ true → refusal s abandon ≡ ok
unfolding refusal refusal_of ◌⨾◌ test
abandon_granted s v o = λ j.
    sized_shape s v.is_sized abandon j ⨾
    (test (not (o j)) no_batch 0 ⨾ test (le-ltb most_opened s.batch.opened v.few j) tables_disagree 0) ⨾
    rows_fine s (sized_sizes s v.is_sized) 0 (kept s) v.good.keeps j

-- ---- offered and abandoned

pub abandoned_same : (s : Store) (us : List Update) → Inv s → s.batch.opened ≡ 0 → Same (after_abandon (after_offer s us)) s
abandoned_same s us v o = record {
  ids = refl;
  slots = refl;
  id_marks = refl;
  locations = refl;
  slot_marks = ap (λ ls. write_all s.slots ls 0 (write_all s.slots (taken_by s us) 1 s.slot_marks))
      (ap locations_of (kept_offer s us) ∙ locs_pairs us (taken_by s us) (length_place s.slots s.slot_marks us))
      ∙ undone s.slots (taken_by s us) s.slot_marks (place_free s.slots s.slot_marks us v.good.small v.good.full);
  opened = sym o;
  batch = ap (λ n. pairs (pred n) s.batch.kept_ids s.batch.kept_locations) (sym o);
}

-- its rows were kept after those of the ids
pub abandoned_alike : (s : Store) (o : Offer) → Inv s → s.batch.opened ≡ 0
    → Alike (after_abandon (with_carried (after_offer s (updates_in o)) (offered_column s.ids o s.carried))) s
abandoned_alike s o v c = closed_alike (same_carried _ s.carried (abandoned_same s (updates_in o) v c))
    (λ i n. offered_other s.ids o s.carried i (located_lt s v i n)) refl

-- ---- the calls while a batch is open

-- a call whose effect is nothing
idle : (s : Store) (c : Call) → effect s c ≡ s → next s c ≡ s
unfolding next
idle s c f = go (refusal s c)
  where
    go : (w : Verdict) → unless w s (effect s c) ≡ s
    go ok = f
    go (refuse n i) = refl

-- a call that is refused with 11 while a batch is open
not_open : (s : Store) (v : Verdict) → (none_open s ⨾ v) ≡ ok → is_open s ≡ false
not_open s v e = test_ok _ _ _ (first_ok _ _ e)

-- a granted call that leaves the batch open changes no store
harmless : (s : Store) (c : Call) → is_open s ≡ true → refusal s c ≡ ok → is_open (effect s c) ≡ true → (x : Store) → next x c ≡ x
unfolding refusal_of effect
harmless s new_id o e t x = contradiction o (not_open s _ (granted_rest s new_id e))
harmless s release o e t x = contradiction o (test_ok _ _ _ (granted_rest s release e))
harmless s (offer b) o e t x = contradiction o (not_open s _ (then_ok _ _ (granted_rest s (offer b) e)))
harmless s commit o e t x = clash (sym t)
harmless s abandon o e t x = clash (sym t)
harmless s fresh o e t x = clash (sym t)
harmless s (rebuild rs) o e t x = clash (sym t)
harmless s (ask q) o e t x = idle x (ask q) refl
harmless s (truncation k d) o e t x = contradiction o (not_open s _ (granted_rest s (truncation k d) e))
harmless s (report k d) o e t x = contradiction o (not_open s _ (first_ok _ _ (granted_rest s (report k d) e)))

open_before : (s : Store) (cs : List Call) → StaysOpen s cs → is_open s ≡ true
open_before s [] t = t
open_before s (c ∷ cs) t = t.0

-- between the offer and the abandon the store stays as it is, and so does any other under the calls that were granted
between_same : (s : Store) (cs : List Call) → StaysOpen s cs → (after s cs ≡ s) × ((x : Store) → after x (granted_of s cs) ≡ x)
between_same s [] t = (refl, λ x. refl)
between_same s (c ∷ cs) t = go (refusal s c) refl (between_same (next s c) cs t.1)
  where
    go : (w : Verdict) → refusal s c ≡ w → (after (next s c) cs ≡ next s c) × ((x : Store) → after x (granted_of (next s c) cs) ≡ x)
        → (after (next s c) cs ≡ s) × ((x : Store) → after x (keep_if w c (granted_of (next s c) cs)) ≡ x)
    go ok e r =
        let h = harmless s c t.0 e (subst (λ (y : Store). is_open y ≡ true) (next_granted s c e) (open_before (next s c) cs t.1)) in
        (r.0 ∙ h s, λ x. ap (λ y. after y (granted_of (next s c) cs)) (h x) ∙ r.1 x)
    go (refuse n i) e r = (r.0 ∙ next_refused s c n i e, r.1)

pub abandon_agrees : AbandonAgrees
unfolding effect
abandon_agrees n m h o between later c e t =
    let s = state n m h in
    let v : Inv s = reached n m c h in
    let s' = next s (offer o) in
    let v' : Inv s' = keep_next s (offer o) v in
    let b = between_same s' between t in
    let q : next s' abandon ≡ after_abandon (with_carried (after_offer s (updates_in o)) (offered_column s.ids o s.carried)) =
    next_granted s' abandon (abandon_granted s' v' (open_before s' between t)) ∙ ap after_abandon (next_granted s (offer o) e) in
    let same : Alike (next s' abandon) s = subst (λ x. Alike x s) (sym q) (abandoned_alike s o v (offer_granted s o e).shut) in
    ap (λ x. answers (next x abandon) later) b.0
    ∙ answers_same (next s' abandon) s same (keep_next s' abandon v') v later
    ∙ ap (λ x. answers x later) (sym (b.1 s))
