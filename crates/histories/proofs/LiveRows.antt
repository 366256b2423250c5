-- The live rows of a store, in the order of their ids: demand 3's rows can always be had. Assumes nothing.
use mathlib.Core.Path.{◌≡◌, sym, refl, ap, ◌∙◌}
use mathlib.Core.Logic.{◌⊎◌, inl, inr, ◌≢◌}
use mathlib.Core.Bool.{true, Bool, false}
use mathlib.Core.List.Memᴰ
use mathlib.Core.List.{List, [], ◌∷◌, Memᴰ}
use Prim.Native.Nat.{ℕ, zero, suc, ◌≤◌, ◌<◌, ◌+◌}
use native.Mathlib.Nat.{add-zero, suc-ne-zero, add-suc, suc-add, zero-add}
use native.Mathlib.Omega.{arith}
use lib.ListN.{length, get_or}
use Rattle.refusal.specs.Refusals.{key_too_long}
use Rattle.refusal.proofs.Tests.{clash}
use Rattle.list_parts.specs.Lists.{elem}
use Rattle.list_parts.proofs.Lists.{elem_cases}
use Rattle.model.specs.Step.{state}
use Rattle.model.specs.Store.{Row, Store}
use Rattle.model.specs.Tables.{most_updates, ids_of, location_of}
use Rattle.model.proofs.Sizes.{sized_sizes}
use Rattle.histories.specs.Invariant.{Inv}
use Rattle.histories.specs.Statements.{Distinct, none, more, AtRest, LiveRows, Normal, RowsExist}
use Rattle.histories.proofs.Reached.{reached}
use Rattle.histories.proofs.Rebuilt.{located_held}
use Rattle.histories.proofs.NormalRows.{reached_normal}
use Rattle.histories.proofs.Brought.{brought_at, brought_wide, brought_short, brought_kept}

-- the rows of the ids from i on, by their locations
abbrev pub collect : ℕ → List ℕ → List Row
collect i [] = []
collect i (zero ∷ ls) = collect (suc i) ls
collect i (suc l ∷ ls) = (i, suc l) ∷ collect (suc i) ls

abbrev pub live_rows : Store → List Row
live_rows s = collect 0 s.locations

-- and what they carry
abbrev pub live_bytes : Store → List ℕ
live_bytes s = brought_at s.carried (ids_of (live_rows s))

from : (i : ℕ) (ls : List ℕ) (x : ℕ) → elem x (ids_of (collect i ls)) ≡ true → i ≤ x
from i [] x e = clash (sym e)
from i (zero ∷ ls) x e = let h = from (suc i) ls x e in omega arith
from i (suc l ∷ ls) x e = go (λ m. from (suc i) ls x m) (elem_cases x i (ids_of (collect (suc i) ls)) e)
  where
    go : (elem x (ids_of (collect (suc i) ls)) ≡ true → suc i ≤ x) → (x ≡ i) ⊎ (elem x (ids_of (collect (suc i) ls)) ≡ true) → i ≤ x
    go f (inl q) = omega arith
    go f (inr m) = let h = f m in omega arith

distinct : (i : ℕ) (ls : List ℕ) → Distinct (collect i ls)
distinct i [] = none
distinct i (zero ∷ ls) = distinct (suc i) ls
distinct i (suc l ∷ ls) = more (go (elem i (ids_of (collect (suc i) ls))) refl) (distinct (suc i) ls)
  where
    go : (b : Bool) → elem i (ids_of (collect (suc i) ls)) ≡ b → b ≡ false
    go true e = let h = from (suc i) ls i e in absurd (omega arith)
    go false e = refl

-- a row is an id's that has a location
there : (i : ℕ) (ls : List ℕ) (r : Row) → Memᴰ r (collect i ls) → (j : ℕ) × (r.0 ≡ i + j) × (get_or ls j 0 ≡ r.1) × (r.1 ≢ 0)
there i [] r m = absurd (Memᴰ.not-nil m)
there i (zero ∷ ls) r m = let q = there (suc i) ls r m in (suc q.0, omega (arith, q.1), q.2, q.3)
there i (suc l ∷ ls) r m = go (λ k. there (suc i) ls r k) (Memᴰ.cases_cons m)
  where
    go : (Memᴰ r (collect (suc i) ls) → (j : ℕ) × (r.0 ≡ suc i + j) × (get_or ls j 0 ≡ r.1) × (r.1 ≢ 0))
        → (r ≡ (i, suc l)) ⊎ Memᴰ r (collect (suc i) ls) → (j : ℕ) × (r.0 ≡ i + j) × (get_or (suc l ∷ ls) j 0 ≡ r.1) × (r.1 ≢ 0)
    go f (inl e) = (0, ap (λ x. x.0) e ∙ sym (add-zero i), sym (ap (λ x. x.1) e), λ z. suc-ne-zero l (sym (ap (λ x. x.1) e) ∙ z))
    go f (inr k) = let q = f k in (suc q.0, omega (arith, q.1), q.2, q.3)

all_there : (i : ℕ) (ls : List ℕ) (j : ℕ) → get_or ls j 0 ≢ 0 → Memᴰ (i + j, get_or ls j 0) (collect i ls)
all_there i [] j n = absurd (n refl)
all_there i (zero ∷ ls) zero n = absurd (n refl)
all_there i (zero ∷ ls) (suc j) n = rw (add-suc, ← suc-add) (all_there (suc i) ls j n)
all_there i (suc l ∷ ls) zero n = Memᴰ.head {x = (i, suc l)} (ap {B = Row} (λ x. (x, suc l)) (add-zero i))
all_there i (suc l ∷ ls) (suc j) n = Memᴰ.tail {x = (i, suc l)} {xs = collect (suc i) ls} (rw (add-suc, ← suc-add) (all_there (suc i) ls j n))

-- the ids of the rows are in range
below : (i : ℕ) (ls : List ℕ) (x : ℕ) → elem x (ids_of (collect i ls)) ≡ true → x < i + length ls
below i [] x e = clash (sym e)
below i (zero ∷ ls) x e = let h = below (suc i) ls x e in omega arith
below i (suc l ∷ ls) x e = go (λ m. below (suc i) ls x m) (elem_cases x i (ids_of (collect (suc i) ls)) e)
  where
    go : (elem x (ids_of (collect (suc i) ls)) ≡ true → x < suc i + length ls) → (x ≡ i) ⊎ (elem x (ids_of (collect (suc i) ls)) ≡ true) → x < i + suc (length ls)
    go f (inl q) = omega arith
    go f (inr m) = let h = f m in omega arith

row_below : (s : Store) → Inv s → (i : ℕ) → elem i (ids_of (live_rows s)) ≡ true → i < s.ids + most_updates
row_below s v i e = let h = below 0 s.locations i e in omega (arith, (sized_sizes s v.is_sized).locations)

pub live_rows_lem : (s : Store) → Inv s → AtRest s → Normal s.carried → LiveRows s (live_rows s) (live_bytes s)
live_rows_lem s v a w = record {
  once = distinct 0 s.locations;
  only = λ r m.
      let q = there 0 s.locations r m in
      let e : r.0 ≡ q.0 = q.1 ∙ zero-add q.0 in
      let l : location_of s r.0 ≡ r.1 = rw e q.2 in
      (located_held s v a r.0 (rw l q.3), l);
  every = λ i h. rw zero-add at (all_there 0 s.locations i (a.stored i h));
  carries = brought_kept (s.ids + most_updates) s.carried (sized_sizes s v.is_sized).carried w (ids_of (live_rows s)) (row_below s v);
  wide = brought_wide (s.ids + most_updates) s.carried (sized_sizes s v.is_sized).carried w (ids_of (live_rows s)) (row_below s v);
  short = brought_short (s.ids + most_updates) s.carried (sized_sizes s v.is_sized).carried w (ids_of (live_rows s)) (row_below s v) key_too_long;
}

pub rows_exist : RowsExist
rows_exist n m h c a = (live_rows (state n m h), live_bytes (state n m h), live_rows_lem (state n m h) (reached n m c h) a (reached_normal n m h))
