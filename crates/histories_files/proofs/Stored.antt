-- The rows of a snapshot are the live rows of a store at rest, in the order of their ids. Assumes nothing.
use mathlib.Core.Path.{◌≡◌, refl, sym, ap, subst, ◌∙◌}
use mathlib.Core.Logic.{◌⊎◌, inl, inr}
use mathlib.Core.Bool.{Bool, true, false, not, cond}
use mathlib.Core.List.Memᴰ
use mathlib.Core.List.{List, [], ◌∷◌, map, Memᴰ}
use Prim.Native.Nat.{ℕ, zero, suc, ◌+◌, ◌*◌, ◌<◌, ◌≤◌}
use native.Mathlib.Decide.{ℕ_discrete}
use native.Mathlib.Omega.{arith}
use lib.Dec.{ltb}
use lib.ListN.{length, drop}
use borrow.Author.Tests.{eqb-false, not-true, ne_eqb, lt-ltb, ltb-true}
use Rattle.refusal.specs.Refusals.{key_too_long}
use Rattle.refusal.proofs.Tests.{and_true, all, clash}
use Rattle.list_parts.specs.Lists.{elem}
use Rattle.list_parts.proofs.Lists.{elem_cases}
use Rattle.list_parts.proofs.Parts.{length_part_full}
use Rattle.little_endian.specs.LittleEndian.{Bytes}
use Rattle.little_endian.proofs.Laws.{take_bytes, drop_bytes}
use Rattle.carried.specs.Carried.{width, rows_at}
use Rattle.keys.specs.Keys.{long_in, normal_rows, all_stored}
use Rattle.snapshot_blocks.specs.Formats.{version2}
use Rattle.snapshot_blocks.specs.Blocks.{Entry, entry_for, above, ascending}
use Rattle.snapshot_blocks.specs.Valid.{Valid, All}
use Rattle.model.specs.Snapshots.{is_stored, those_from, stored_ids, entries_of}
use Rattle.model.specs.Store.{Store, Row}
use Rattle.model.specs.Tables.{most_updates, location_of, held_id, in_ids, ids_of}
use Rattle.model.specs.Verdict.{ok, tests_from}
use Rattle.model.proofs.Locations.{is_location_says}
use Rattle.model.proofs.Sizes.{sized_sizes}
use Rattle.histories.specs.Invariant.{Inv}
use Rattle.histories.specs.Statements.{Distinct, none, more, AtRest, LiveRows, Normal}
use Rattle.histories.proofs.Brought.{brought_at, brought_wide, brought_short, brought_kept}

-- ---- numbers of which a test holds

those_bounds : (p : ℕ → Bool) (n i j : ℕ) → elem j (those_from p n i) ≡ true → (i ≤ j) × (j < i + n)
unfolding those_from
those_bounds p zero i j e = clash (sym e)
those_bounds p (suc n) i j e = go (p i) e (λ h. those_bounds p n (suc i) j h)
  where
    go : (b : Bool) → elem j (cond b (i ∷ those_from p n (suc i)) (those_from p n (suc i))) ≡ true → (elem j (those_from p n (suc i)) ≡ true → (suc i ≤ j) × (j < suc i + n))
        → (i ≤ j) × (j < i + suc n)
    go true h f = first (elem_cases j i (those_from p n (suc i)) h)
      where
        first : (j ≡ i) ⊎ (elem j (those_from p n (suc i)) ≡ true) → (i ≤ j) × (j < i + suc n)
        first (inl q) = (omega arith, omega arith)
        first (inr q) = let k = f q in (omega (arith, k.0), omega (arith, k.1))
    go false h f = let k = f h in (omega (arith, k.0), omega (arith, k.1))

below_those : (p : ℕ → Bool) (n i j : ℕ) → j < i → elem j (those_from p n i) ≡ false
below_those p n i j h = go (elem j (those_from p n i)) refl
  where
    go : (b : Bool) → elem j (those_from p n i) ≡ b → b ≡ false
    go true e = let k = those_bounds p n i j e in absurd (omega (arith, k.0))
    go false e = refl

-- what holds of each
all_those : (P : Entry → Type 0) (f : ℕ → Entry) (p : ℕ → Bool) (n i : ℕ) → ((j : ℕ) → p j ≡ true → P (f j)) → All P (map f (those_from p n i))
unfolding those_from
all_those P f p zero i h = tt
all_those P f p (suc n) i h = go (p i) refl (all_those P f p n (suc i) h)
  where
    go : (b : Bool) → p i ≡ b → All P (map f (those_from p n (suc i))) → All P (map f (cond b (i ∷ those_from p n (suc i)) (those_from p n (suc i))))
    go true e r = (h i e, r)
    go false e r = r

-- they ascend
module _ (s : Store) where
  abbrev entry : ℕ → Entry
  entry = entry_for width s.locations s.carried

  above_those : (p : ℕ → Bool) (n i j : ℕ) → j < i → above j (map entry (those_from p n i)) ≡ true
  unfolding those_from above
  above_those p zero i j h = refl
  above_those p (suc n) i j h = go (p i) (above_those p n (suc i) i (omega arith)) (above_those p n (suc i) j (omega arith))
    where
      go : (b : Bool) → above i (map entry (those_from p n (suc i))) ≡ true → above j (map entry (those_from p n (suc i))) ≡ true
          → above j (map entry (cond b (i ∷ those_from p n (suc i)) (those_from p n (suc i)))) ≡ true
      go true x y = all (lt-ltb j i h) x
      go false x y = y

  ascending_those : (p : ℕ → Bool) (n i : ℕ) → ascending (map entry (those_from p n i)) ≡ true
  unfolding those_from ascending
  ascending_those p zero i = refl
  ascending_those p (suc n) i = go (p i) (above_those p n (suc i) i (omega arith)) (ascending_those p n (suc i))
    where
      go : (b : Bool) → above i (map entry (those_from p n (suc i))) ≡ true → ascending (map entry (those_from p n (suc i))) ≡ true
          → ascending (map entry (cond b (i ∷ those_from p n (suc i)) (those_from p n (suc i)))) ≡ true
      go true x y = x
      go false x y = y

  -- ---- the rows

  abbrev pub row_of : ℕ → Row
  row_of i = (i, location_of s i)

  pub ids_rows : (xs : List ℕ) → ids_of (map row_of xs) ≡ xs
  ids_rows [] = refl
  ids_rows (x ∷ xs) = ap (λ ys. x ∷ ys) (ids_rows xs)

  distinct_those : (p : ℕ → Bool) (n i : ℕ) → Distinct (map row_of (those_from p n i))
  unfolding those_from
  distinct_those p zero i = none
  distinct_those p (suc n) i = go (p i) (distinct_those p n (suc i))
    where
      go : (b : Bool) → Distinct (map row_of (those_from p n (suc i))) → Distinct (map row_of (cond b (i ∷ those_from p n (suc i)) (those_from p n (suc i))))
      go true d = more (ap (elem i) (ids_rows (those_from p n (suc i))) ∙ below_those p n (suc i) i (omega arith)) d
      go false d = d

  row_holds : (p : ℕ → Bool) (n i : ℕ) (r : Row) → Memᴰ r (map row_of (those_from p n i)) → (p r.0 ≡ true) × (location_of s r.0 ≡ r.1)
  unfolding those_from
  row_holds p zero i r m = absurd (Memᴰ.not-nil m)
  row_holds p (suc n) i r m = go (p i) refl m (λ k. row_holds p n (suc i) r k)
    where
      go : (b : Bool) → p i ≡ b → Memᴰ r (map row_of (cond b (i ∷ those_from p n (suc i)) (those_from p n (suc i))))
          → (Memᴰ r (map row_of (those_from p n (suc i))) → (p r.0 ≡ true) × (location_of s r.0 ≡ r.1))
          → (p r.0 ≡ true) × (location_of s r.0 ≡ r.1)
      go true e k f = first (Memᴰ.cases_cons k)
        where
          first : (r ≡ row_of i) ⊎ Memᴰ r (map row_of (those_from p n (suc i))) → (p r.0 ≡ true) × (location_of s r.0 ≡ r.1)
          first (inl q) = (ap (λ (x : Row). p x.0) q ∙ e, ap (λ (x : Row). location_of s x.0) q ∙ sym (ap (λ (x : Row). x.1) q))
          first (inr q) = f q
      go false e k f = f k

  row_there : (p : ℕ → Bool) (n i j : ℕ) → p j ≡ true → i ≤ j → j < i + n → Memᴰ (row_of j) (map row_of (those_from p n i))
  unfolding those_from
  row_there p zero i j e a b = absurd (omega arith)
  row_there p (suc n) i j e a b = go (p i) refl (λ c. row_there p n (suc i) j e c (omega arith))
    where
      go : (b : Bool) → p i ≡ b → (suc i ≤ j → Memᴰ (row_of j) (map row_of (those_from p n (suc i))))
          → Memᴰ (row_of j) (map row_of (cond b (i ∷ those_from p n (suc i)) (those_from p n (suc i))))
      go true q f = first (ℕ_discrete j i)
        where
          first : Dec (j ≡ i) → Memᴰ (row_of j) (row_of i ∷ map row_of (those_from p n (suc i)))
          first (yes z) = Memᴰ.head (ap row_of z)
          first (no z) = Memᴰ.tail (f (omega arith))
      go false q f = f (next (ℕ_discrete j i))
        where
          next : Dec (j ≡ i) → suc i ≤ j
          next (yes z) = clash (sym (sym q ∙ ap p (sym z) ∙ e))
          next (no z) = omega arith

-- ---- of a store at rest

module _ (s : Store) (v : Inv s) (a : AtRest s) (w : Normal s.carried) where
  abbrev pub rows : List Row
  rows = map (row_of s) (stored_ids s)

  abbrev pub bytes : List ℕ
  bytes = brought_at s.carried (stored_ids s)

  held_stored : (i : ℕ) → held_id s i ≡ true → is_stored s i ≡ true
  held_stored i h = all h (ap not (ne_eqb (location_of s i) 0 (a.stored i h)))

  held_lt : (i : ℕ) → held_id s i ≡ true → i < s.ids
  held_lt i h = ltb-true i s.ids (and_true (ltb 0 i) _ (and_true (in_ids s i) _ h).0).1

  stored_below : (i : ℕ) → elem i (stored_ids s) ≡ true → i < s.ids + most_updates
  stored_below i e = omega (arith, (those_bounds (is_stored s) s.ids 0 i e).1)

  pub stored_rows : LiveRows s rows bytes
  stored_rows = record {
    once = distinct_those s (is_stored s) s.ids 0;
    only = λ r m. let h = row_holds s (is_stored s) s.ids 0 r m in ((and_true (held_id s r.0) _ h.0).0, h.1);
    every = λ i h. let k = held_lt i h in row_there s (is_stored s) s.ids 0 i (held_stored i h) (omega arith) (omega arith);
    carries = subst (λ is. normal_rows (all_stored is) bytes ≡ rows_at width s.carried is) (sym (ids_rows s (stored_ids s)))
        (brought_kept (s.ids + most_updates) s.carried (sized_sizes s v.is_sized).carried w (stored_ids s) stored_below);
    wide = brought_wide (s.ids + most_updates) s.carried (sized_sizes s v.is_sized).carried w (stored_ids s) stored_below
        ∙ ap (λ is. length is * width) (sym (ids_rows s (stored_ids s)));
    short = subst (λ is. tests_from key_too_long 0 (long_in (all_stored is) bytes) ≡ ok) (sym (ids_rows s (stored_ids s)))
        (brought_short (s.ids + most_updates) s.carried (sized_sizes s v.is_sized).carried w (stored_ids s) stored_below key_too_long);
  }

  -- ---- every row can be written

  pub stored_valid : Bytes s.carried → All (Valid version2) (entries_of s)
  stored_valid b = all_those (Valid version2) (entry s) (is_stored s) s.ids 0 (λ i h.
      let t = and_true (held_id s i) _ h in
      let k = held_lt i t.0 in
      let z = sized_sizes s v.is_sized in
      let top = z.range.ids_to in
      let long : i * width + width ≤ length s.carried = omega (arith, z.carried) in
      let l = is_location_says s.slots (location_of s i) (v.good.located i (eqb-false (location_of s i) 0 (not-true _ t.1))).range in
      record {
        id_fits = omega (arith, k, top);
        location_fits = omega (arith, l.high);
        wide = length_part_full width s.carried i long;
        bytes = take_bytes width (drop (i * width) s.carried) (drop_bytes (i * width) s.carried b);
        carries = ap not (w i long);
      })

  pub stored_ascending : ascending (entries_of s) ≡ true
  stored_ascending = ascending_those s (is_stored s) s.ids 0
