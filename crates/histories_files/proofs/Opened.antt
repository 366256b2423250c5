-- A store rebuilt from the rows of a version 1 file finds each of them: the rows of a granted rebuild are apart, so each id has its own location and its
-- own row of the column, and the new store is one of the invariant, so that its lookups are granted. No other id has a row, so its snapshot has just
-- these. Assumes nothing.
use mathlib.Core.Path.{◌≡◌, refl, sym, ap, ◌∙◌, subst}
use mathlib.Core.Logic.{◌≢◌, ◌⊎◌, inl, inr}
use mathlib.Core.Bool.{Bool, true, false, not, cond, ◌&&◌, ◌||◌}
use mathlib.Core.List.Memᴰ
use mathlib.Core.List.{List, [], ◌∷◌, ◌++◌, map, Memᴰ}
use Prim.Native.Nat.{ℕ, zero, suc, ◌+◌, ◌*◌, ◌≤◌, ◌<◌}
use native.Mathlib.Decide.{ℕ_discrete}
use native.Mathlib.Omega.{arith}
use lib.Dec.{ltb, eqb}
use lib.ListN.{length, replicate, length-append, length-replicate, length-map}
use lib.Seq.{take_at, drop_at}
use borrow.Author.Tests.{eq-eqb, ne_eqb, lt-ltb, ltb-true}
use Rattle.refusal.specs.Refusals.{no_such_id, tables_disagree}
use Rattle.refusal.specs.Outcomes.{granted}
use Rattle.refusal.proofs.Tests.{and_true, all}
use Rattle.list_parts.specs.Lists.{elem}
use Rattle.list_parts.proofs.Lists.{elem_head}
use Rattle.list_parts.specs.Parts.{part}
use Rattle.carried.specs.Carried.{width, put_row, put_rows}
use Rattle.carried.proofs.Laws.{length_put_row, put_row_here, length_put_rows, put_rows_other}
use Rattle.keys.specs.Keys.{normal_rows, all_stored}
use Rattle.address.specs.Address.{is_location}
use Rattle.marks.specs.Marks.{is_held}
use Rattle.snapshot_blocks.specs.Formats.{version1}
use Rattle.snapshot_blocks.specs.Blocks.{Entry, entry_for, above, ascending}
use Rattle.snapshot_blocks.specs.Valid.{Valid, All}
use Rattle.model.specs.Columns.{rebuilt_column}
use Rattle.model.specs.Questions.{ask_refusal, reply}
use Rattle.model.specs.Rebuild.{rows_of, rows_in, rebuilt}
use Rattle.model.specs.Snapshots.{is_stored, those_from, stored_ids, entries_of}
use Rattle.model.specs.Step.{refusal_of, refusal, grant, effect, answer, answer_by, next}
use Rattle.model.specs.Store.{Store, with_carried, Row, Rows, rebuild, ask, lookup, found}
use Rattle.model.specs.Tables.{carried_bytes, in_ids, held_id, location_of, carried_of, ids_of}
use Rattle.model.specs.Tests.{lists}
use Rattle.model.specs.Verdict.{ok, ◌⨾◌, test}
use Rattle.model.proofs.Answered.{next_granted}
use Rattle.model.proofs.Granted.{granted_sizes, rebuild_rows}
use Rattle.model.proofs.Lists.{zeros}
use Rattle.model.proofs.Locations.{is_location_nz}
use Rattle.model.proofs.Sizes.{sized_shape}
use Rattle.histories.specs.Invariant.{Inv}
use Rattle.histories.specs.Statements.{Distinct, none, more}
use Rattle.histories.proofs.KeptRebuild.{Apart, rows_apart, rebuilt_inv}
use Rattle.histories.proofs.Reached.{keep_carried}
use Rattle.histories.proofs.Rebuilt.{id_mem, located_by_out, located_by_in}
use Rattle.histories.proofs.Same.{never_13}
use Rattle.snapshot_laws.proofs.Lists.{above_ascending}
use Rattle.histories_files.specs.Statements.{without_key, unkeyed}

-- what the rebuilt store keeps of the rows, one after the other
abbrev pub without_keys : List Entry → List ℕ
without_keys [] = []
without_keys (e ∷ es) = without_key e ++ without_keys es

-- ---- rows of entries

abbrev ids_in : List Entry → List ℕ
ids_in es = map (λ (e : Entry). e.id) es

abbrev row_in : Entry → Row
row_in e = (e.id, e.location)

rows_entries : (es : List Entry) → rows_of (ids_in es) (map (λ (e : Entry). e.location) es) ≡ map row_in es
rows_entries [] = refl
rows_entries (e ∷ es) = ap (λ rs. row_in e ∷ rs) (rows_entries es)

ids_in_lem : (es : List Entry) → ids_of (map row_in es) ≡ ids_in es
ids_in_lem [] = refl
ids_in_lem (e ∷ es) = ap (λ is. e.id ∷ is) (ids_in_lem es)

row_in_lem : (e : Entry) (es : List Entry) → Memᴰ e es → Memᴰ (row_in e) (map row_in es)
row_in_lem e [] m = absurd (Memᴰ.not-nil m)
row_in_lem e (q ∷ qs) m = go (λ k. row_in_lem e qs k) (Memᴰ.cases_cons m)
  where
    go : (Memᴰ e qs → Memᴰ (row_in e) (map row_in qs)) → (e ≡ q) ⊎ Memᴰ e qs → Memᴰ (row_in e) (map row_in (q ∷ qs))
    go f (inl s) = Memᴰ.head (ap row_in s)
    go f (inr k) = Memᴰ.tail (f k)

apart_distinct : (s : Store) (rs : List Row) → Apart s rs → Distinct rs
apart_distinct s [] a = none
apart_distinct s (r ∷ rs) a = more a.2 (apart_distinct s rs a.4)

apart_row : (s : Store) (r : Row) (rs : List Row) → Apart s rs → Memᴰ r rs → (in_ids s r.0 ≡ true) × (is_location s.slots r.1 ≡ true)
apart_row s r [] a m = absurd (Memᴰ.not-nil m)
apart_row s r (q ∷ qs) a m = go (λ k. apart_row s r qs a.4 k) (Memᴰ.cases_cons m)
  where
    go : (Memᴰ r qs → (in_ids s r.0 ≡ true) × (is_location s.slots r.1 ≡ true)) → (r ≡ q) ⊎ Memᴰ r qs
        → (in_ids s r.0 ≡ true) × (is_location s.slots r.1 ≡ true)
    go f (inl e) = rw e (a.0, a.1)
    go f (inr k) = f k

-- ---- the numbers of which a test holds, where it holds of the ids of rows that ascend

abbrev Within : ℕ → ℕ → Entry → Type 0
Within i n e = (i ≤ e.id) × (e.id < i + n)

within_next : (i n x : ℕ) (es : List Entry) → above x es ≡ true → i ≤ x → All (Within i (suc n)) es → All (Within (suc i) n) es
unfolding above
within_next i n x [] o h w = tt
within_next i n x (e ∷ es) o h w =
    let a = and_true (ltb x e.id) (above e.id es) o in
    let l = ltb-true x e.id a.0 in
    ((omega arith, omega (arith, w.0.1)), within_next i n e.id es a.1 (omega arith) w.1)

above_not : (i x : ℕ) (es : List Entry) → above x es ≡ true → i ≤ x → elem i (ids_in es) ≡ false
unfolding above
above_not i x [] o h = refl
above_not i x (e ∷ es) o h =
    let a = and_true (ltb x e.id) (above e.id es) o in
    let l = ltb-true x e.id a.0 in
    rw (ne_eqb i e.id (λ z. omega arith)) (above_not i e.id es a.1 (omega arith))

those_ids : (p : ℕ → Bool) (n i : ℕ) (es : List Entry) → ascending es ≡ true → All (Within i n) es
    → ((j : ℕ) → i ≤ j → p j ≡ elem j (ids_in es)) → those_from p n i ≡ ids_in es
unfolding those_from ascending above
those_ids p zero i [] o w h = refl
those_ids p zero i (e ∷ es) o w h = absurd (omega (arith, w.0.0, w.0.1))
those_ids p (suc n) i [] o w h = rw (h i (omega arith)) (those_ids p n (suc i) [] refl tt (λ j l. h j (omega arith)))
those_ids p (suc n) i (e ∷ es) o w h =
    go (ℕ_discrete e.id i) (those_ids p n (suc i) es (above_ascending e.id es o)) (those_ids p n (suc i) (e ∷ es) o)
  where
    go : Dec (e.id ≡ i)
        → (All (Within (suc i) n) es → ((j : ℕ) → suc i ≤ j → p j ≡ elem j (ids_in es)) → those_from p n (suc i) ≡ ids_in es)
        → (All (Within (suc i) n) (e ∷ es) → ((j : ℕ) → suc i ≤ j → p j ≡ elem j (ids_in (e ∷ es))) → those_from p n (suc i) ≡ ids_in (e ∷ es))
        → cond (p i) (i ∷ those_from p n (suc i)) (those_from p n (suc i)) ≡ ids_in (e ∷ es)
    go (yes z) f g =
        let here : p i ≡ true = h i (omega arith) ∙ elem_head i e.id (ids_in es) (sym z) in
        let rest = f (within_next i n e.id es o (omega arith) w.1) (λ j l. h j (omega arith) ∙ rw (ne_eqb j e.id (λ y. omega arith))) in
        ap (λ b. cond b (i ∷ those_from p n (suc i)) (those_from p n (suc i))) here ∙ (λ k. sym z k ∷ rest k)
    go (no d) f g =
        let l : i < e.id = omega (arith, w.0.0, d) in
        let from : above i (e ∷ es) ≡ true = all (lt-ltb i e.id l) o in
        let here : p i ≡ false = h i (omega arith) ∙ above_not i i (e ∷ es) from (omega arith) in
        ap (λ b. cond b (i ∷ those_from p n (suc i)) (those_from p n (suc i))) here
        ∙ g (within_next i n i (e ∷ es) from (omega arith) w) (λ j y. h j (omega arith))

-- ---- each id has its own row of the column

length_without_key : (e : Entry) → Valid version1 e → length (without_key e) ≡ width
length_without_key e v = length-append e.carried (replicate 72 0) ∙ omega (arith, v.wide, length-replicate {A = ℕ} 72 0)

put_rows_cons : (w i : ℕ) (is r bytes t : List ℕ) → length r ≡ w → put_rows w (i ∷ is) (r ++ bytes) t ≡ put_rows w is bytes (put_row w t i r)
unfolding put_rows
put_rows_cons w i is r bytes t e = λ k. put_rows w is (drop_at r bytes w e k) (put_row w t i (take_at r bytes w e k))

column_row : (s : Store) (es : List Entry) (t : List ℕ) → length t ≡ carried_bytes s.ids → All (Valid version1) es → Apart s (map row_in es)
    → (e : Entry) → Memᴰ e es → part width (put_rows width (ids_in es) (without_keys es) t) e.id ≡ without_key e
column_row s [] t l a p e m = absurd (Memᴰ.not-nil m)
column_row s (q ∷ qs) t l a p e m =
    let r = without_key q in
    ap (λ c. part width c e.id) (put_rows_cons width q.id (ids_in qs) r (without_keys qs) t (length_without_key q a.0))
    ∙ (go (λ k. column_row s qs (put_row width t q.id r) (length_put_row width t q.id r ∙ l) a.1 p.4 e k) (Memᴰ.cases_cons m))
  where
    under : q.id * width + width ≤ length t
    under = let h = ltb-true q.id s.ids (and_true (ltb 0 q.id) (ltb q.id s.ids) p.0).1 in omega (arith, l, h)

    go : (Memᴰ e qs → part width (put_rows width (ids_in qs) (without_keys qs) (put_row width t q.id (without_key q))) e.id ≡ without_key e)
        → (e ≡ q) ⊎ Memᴰ e qs
        → part width (put_rows width (ids_in qs) (without_keys qs) (put_row width t q.id (without_key q))) e.id ≡ without_key e
    go f (inl x) =
        let others : elem q.id (ids_in qs) ≡ false = subst (λ is. elem q.id is ≡ false) (ids_in_lem qs) p.2 in
        rw x (put_rows_other width (ids_in qs) (without_keys qs) (put_row width t q.id (without_key q)) q.id others
        ∙ put_row_here width t q.id (without_key q) under (length_without_key q a.0))
    go f (inr k) = f k

-- ---- a lookup in a store of the invariant

lookup_granted : (s : Store) → Inv s → (i l : ℕ) (c row : List ℕ) → held_id s i ≡ true → location_of s i ≡ l → location_of s i ≢ 0
    → carried_of s i ≡ c → length row ≡ width → answer s (ask (lookup i row)) ≡ granted (found l c)
unfolding answer refusal refusal_of ask_refusal grant reply test ◌⨾◌
lookup_granted s v i l c row held at-l some at_c e = λ k. answer_by
    (sized_shape s v.is_sized (ask (lookup i row)) k ⨾ lists (eq-eqb _ _ e k) ⨾ test (stored k) no_such_id 0 ⨾ test (never_13 s v i k) tables_disagree 0)
    (found (at-l k) (at_c k))
  where
    stored : not (held_id s i) || eqb (location_of s i) 0 ≡ false
    stored = rw held (ne_eqb (location_of s i) 0 some)

-- ---- a rebuild

and_false : (b : Bool) → b && false ≡ false
and_false true = refl
and_false false = refl

within_all : (s : Store) (es : List Entry) → Apart s (map row_in es) → All (Within 0 s.ids) es
within_all s [] a = tt
within_all s (e ∷ es) a =
    let h = ltb-true e.id s.ids (and_true (ltb 0 e.id) (ltb e.id s.ids) a.0).1 in
    ((omega arith, omega arith), within_all s es a.4)

map_ids : (f : ℕ → Entry) (es : List Entry) → ((e : Entry) → Memᴰ e es → f e.id ≡ unkeyed e) → map f (ids_in es) ≡ map unkeyed es
map_ids f [] h = refl
map_ids f (e ∷ es) h = λ k. h e (Memᴰ.head refl) k ∷ map_ids f es (λ q m. h q (Memᴰ.tail m)) k

module _ (es : List Entry) (valid : All (Valid version1) es) (rs : Rows) (same_ids : rs.ids ≡ ids_in es)
    (same-locations : rs.locations ≡ map (λ (e : Entry). e.location) es) (same_rows : normal_rows (all_stored rs.ids) rs.carried ≡ without_keys es)
    (memory : Store) (fine : refusal memory (rebuild rs) ≡ ok) where
  abbrev zero_column : List ℕ
  zero_column = replicate (carried_bytes memory.ids) 0

  abbrev column : List ℕ
  column = put_rows width (ids_in es) (without_keys es) zero_column

  abbrev opened : Store
  opened = with_carried (rebuilt memory.ids memory.slots (map row_in es)) column

  same_in : rows_in rs ≡ map row_in es
  same_in = (λ k. rows_of (same_ids k) (same-locations k)) ∙ rows_entries es

  apart : Apart memory (map row_in es)
  apart = subst (Apart memory) same_in (rows_apart memory [] [] 0 (rows_in rs) (rebuild_rows memory rs fine))

  next_opened : next memory (rebuild rs) ≡ opened
  unfolding effect rebuilt_column
  next_opened = next_granted memory (rebuild rs) fine
      ∙ (λ k. with_carried (rebuilt memory.ids memory.slots (same_in k)) (put_rows width (same_ids k) (same_rows k) zero_column))

  inv : Inv opened
  inv = keep_carried (rebuilt memory.ids memory.slots (map row_in es)) column (length_put_rows width (ids_in es) (without_keys es) _)
      (rebuilt_inv memory (map row_in es) (granted_sizes memory (rebuild rs) fine).caps apart)

  -- what a row has in it
  row_place : (r : Row) → Memᴰ r (map row_in es) → location_of opened r.0 ≡ r.1
  row_place r m =
      let in_range = (apart_row memory r (map row_in es) apart m).0 in
      let under : r.0 < memory.ids = ltb-true r.0 memory.ids (and_true (ltb 0 r.0) (ltb r.0 memory.ids) in_range).1 in
      located_by_in (replicate memory.ids 0) r (apart_distinct memory (map row_in es) apart) m (rw (length-replicate {A = ℕ} memory.ids 0) under)

  row_some : (r : Row) → Memᴰ r (map row_in es) → location_of opened r.0 ≢ 0
  row_some r m z = is_location_nz memory.slots r.1 (apart_row memory r (map row_in es) apart m).1 (sym (row_place r m) ∙ z)

  row_held : (r : Row) → Memᴰ r (map row_in es) → held_id opened r.0 ≡ true
  row_held r m = all (apart_row memory r (map row_in es) apart m).0 (ap is_held (inv.good.located r.0 (row_some r m)).id_held)

  row_carries : (e : Entry) → Memᴰ e es → carried_of opened e.id ≡ without_key e
  row_carries e m = column_row memory es zero_column (length-replicate {A = ℕ} (carried_bytes memory.ids) 0) valid apart e m

  pub finds : (e : Entry) → Memᴰ e es → (row : List ℕ) → length row ≡ width
      → answer (next memory (rebuild rs)) (ask (lookup e.id row)) ≡ granted (found e.location (without_key e))
  finds e m row long =
      let r = row_in_lem e es m in
      ap (λ s. answer s (ask (lookup e.id row))) next_opened
      ∙ lookup_granted opened inv e.id e.location (without_key e) row (row_held (row_in e) r) (row_place (row_in e) r) (row_some (row_in e) r)
      (row_carries e m) long

  -- no other id has a row
  stored_ids_lem : (j : ℕ) → is_stored opened j ≡ elem j (ids_in es)
  stored_ids_lem j = subst (λ is. is_stored opened j ≡ elem j is) (ids_in_lem es) (go (elem j (ids_of (map row_in es))) refl)
    where
      go : (b : Bool) → elem j (ids_of (map row_in es)) ≡ b → is_stored opened j ≡ b
      go true e =
          let x = id_mem j (map row_in es) e in
          subst (λ i. is_stored opened i ≡ true) x.2
          (all (row_held x.0 x.1) (ap not (ne_eqb (location_of opened x.0.0) 0 (row_some x.0 x.1))))
      go false e =
          let z : location_of opened j ≡ 0 = located_by_out (map row_in es) (replicate memory.ids 0) j e ∙ zeros memory.ids j in
          ap (λ l. held_id opened j && not (eqb l 0)) z ∙ and_false (held_id opened j)

  opened_ids : ascending es ≡ true → stored_ids opened ≡ ids_in es
  opened_ids o = those_ids (is_stored opened) memory.ids 0 es o (within_all memory es apart) (λ j l. stored_ids_lem j)

  -- ---- what its next snapshot asks
  pub next_inv : Inv (next memory (rebuild rs))
  next_inv = subst Inv (sym next_opened) inv

  pub next_closed : (next memory (rebuild rs)).batch.opened ≡ 0
  next_closed = ap (λ (s : Store). s.batch.opened) next_opened

  pub next_count : ascending es ≡ true → length (stored_ids (next memory (rebuild rs))) ≡ length es
  next_count o = ap (λ s. length (stored_ids s)) next_opened ∙ ap length (opened_ids o) ∙ length-map es (λ (e : Entry). e.id)

  pub next_entries : ascending es ≡ true → entries_of (next memory (rebuild rs)) ≡ map unkeyed es
  next_entries o =
      ap entries_of next_opened ∙ ap (map (entry_for width opened.locations column)) (opened_ids o)
      ∙ map_ids (entry_for width opened.locations column) es
      (λ e m k. record { id = e.id; carried = row_carries e m k; location = row_place (row_in e) (row_in_lem e es m) k })
