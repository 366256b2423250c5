-- Laws of a batch: as many locations as updates, each the smallest free slot of its slab or 0, and tables as long as before. Assumes nothing.
use mathlib.Core.Path.{◌≡◌, refl, sym, ap, ◌∙◌}
use mathlib.Core.Logic.{◌≢◌}
use mathlib.Core.Bool.{Bool, true, false, cond}
use mathlib.Core.List.{List, [], ◌∷◌, map}
use Prim.Native.Nat.{ℕ, suc, ◌≤◌, ◌*◌, ◌/◌}
use native.Mathlib.Nat.{suc-ne-zero}
use native.Mathlib.Omega.{arith}
use lib.ListN.{length, set, length-set}
use Rattle.sizes.specs.Sizes.{slab_for}
use Rattle.address.specs.Address.{is_location, unit, slabs}
use Rattle.model.specs.Batches.{updates_of, id_of, update_of, place, spot_for}
use Rattle.model.specs.Store.{Update, put, free}
use Rattle.model.specs.Tables.{write, bump_each, bump, use_each}
use Rattle.model.proofs.Spots.{Spot, spot_is}
use Rattle.model.proofs.Writes.{length_bump}

-- ---- updates_of

pub length_updates_of : (is : List ℕ) (ss : List Bool) (ns : List ℕ) → length ss ≡ length is → length ns ≡ length is → length (updates_of is ss ns) ≡ length is
length_updates_of [] ss ns p q = refl
length_updates_of (i ∷ is) [] ns p q = absurd (suc-ne-zero (length is) (sym p))
length_updates_of (i ∷ is) (s ∷ ss) [] p q = absurd (suc-ne-zero (length is) (sym q))
length_updates_of (i ∷ is) (s ∷ ss) (n ∷ ns) p q = ap suc (length_updates_of is ss ns (omega arith) (omega arith))

id_of_update_of : (s : Bool) (i n : ℕ) → id_of (update_of s i n) ≡ i
id_of_update_of true i n = refl
id_of_update_of false i n = refl

pub ids_updates_of : (is : List ℕ) (ss : List Bool) (ns : List ℕ) → length ss ≡ length is → length ns ≡ length is → map id_of (updates_of is ss ns) ≡ is
ids_updates_of [] ss ns p q = refl
ids_updates_of (i ∷ is) [] ns p q = absurd (suc-ne-zero (length is) (sym p))
ids_updates_of (i ∷ is) (s ∷ ss) [] p q = absurd (suc-ne-zero (length is) (sym q))
ids_updates_of (i ∷ is) (s ∷ ss) (n ∷ ns) p q = λ k. id_of_update_of s i n k ∷ ids_updates_of is ss ns (omega arith) (omega arith) k

-- ---- place

pub length_place : (cap : ℕ) (t : List ℕ) (us : List Update) → length (place cap t us) ≡ length us
length_place cap t [] = refl
length_place cap t (u ∷ us) = ap suc (length_place cap (write cap (spot_for cap t u) 1 t) us)

pub spot_for_is : (cap : ℕ) (t : List ℕ) (u : Update) → cap ≤ 65536 → length t ≡ slabs * cap → spot_for cap t u ≢ 0 → Spot cap t (spot_for cap t u)
spot_for_is cap t (put i n) c len h = spot_is cap t (slab_for n) c len h
spot_for_is cap t (free i) c len h = absurd (h refl)

-- ---- counters of a list of locations

pub length_bump_each : (cap : ℕ) (t ls : List ℕ) → length (bump_each cap t ls) ≡ length t
length_bump_each cap t [] = refl
length_bump_each cap t (l ∷ ls) = length_bump_each cap (cond (is_location cap l) (bump t (l / unit) 1) t) ls ∙ go (is_location cap l)
  where
    go : (b : Bool) → length (cond b (bump t (l / unit) 1) t) ≡ length t
    go true = length_bump t (l / unit) 1
    go false = refl

pub length_use_each : (cap : ℕ) (t ls : List ℕ) → length (use_each cap t ls) ≡ length t
length_use_each cap t [] = refl
length_use_each cap t (l ∷ ls) = length_use_each cap (cond (is_location cap l) (set t (l / unit) 1) t) ls ∙ go (is_location cap l)
  where
    go : (b : Bool) → length (cond b (set t (l / unit) 1) t) ≡ length t
    go true = length-set t (l / unit) 1
    go false = refl
