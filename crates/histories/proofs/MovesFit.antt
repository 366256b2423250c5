-- A defrag list fits its lent list: at most id capacity - 1 rows, whatever the tables hold. The locations of the rows rise, so no id comes
-- twice. Assumes nothing.
use mathlib.Core.Path.{◌≡◌, refl, ap, sym, ◌∙◌}
use mathlib.Core.Logic.{◌⊎◌, inl, inr}
use mathlib.Core.Bool.{true, Bool, false}
use mathlib.Core.List.{List, [], ◌∷◌, ◌++◌}
use Prim.Native.Nat.{ℕ, ◌≤◌, suc, ◌+◌, ◌-◌, zero, ◌*◌, pred, ◌<◌}
use native.Mathlib.Omega.{arith}
use lib.Dec.{eqb, ltb}
use lib.ListN.{get_or, replicate, length-replicate, length}
use lib.Ieee.{Float}
use borrow.Author.Tests.{eqb-true, ltb-true}
use Rattle.refusal.proofs.Tests.{and_true, clash}
use Rattle.list_parts.specs.Lists.{elem}
use Rattle.list_parts.proofs.Lists.{elem_cases}
use Rattle.address.specs.Address.{packing, slabs}
use Rattle.marks.specs.Marks.{is_taken}
use Rattle.marks.proofs.LawsCount.{count_if_le}
use Rattle.fragmentation.specs.Cutoff.{cutoff}
use Rattle.fragmentation.proofs.LawsCutoff.{cutoff_le}
use Rattle.model.specs.Defrag.{moves_in, movable, cons_if, slab_moves, moves_from, all_moves}
use Rattle.model.specs.Rebuild.{held_by}
use Rattle.model.specs.Store.{Store, Row}
use Rattle.model.specs.Tables.{in_ids, location_of, capacities, slab_tip, live, ids_of}
use Rattle.model.proofs.Sizes.{capacities_range, slab_tip_le}
use Rattle.model.proofs.Lists.{zeros}
use Rattle.histories.specs.Statements.{MovesFit}
use Rattle.histories.proofs.KeptRebuild.{length_held_by}
use Rattle.histories.proofs.TalliedIds.{Spare, count_held_by, count_zeros}

-- the moves' ids are in range, and their locations rise from b on and stay below c
abbrev Rising : Store → ℕ → ℕ → List Row → Type 0
Rising s b c [] = b ≤ c
Rising s b c (m ∷ ms) = (in_ids s m.0 ≡ true) × (b ≤ location_of s m.0) × Rising s (suc (location_of s m.0)) c ms

looser : (s : Store) (a b c : ℕ) (ms : List Row) → a ≤ b → Rising s b c ms → Rising s a c ms
looser s a b c [] h r = omega arith
looser s a b c (m ∷ ms) h r = (r.0, omega (arith, r.1), r.2)

joined : (s : Store) (a b c : ℕ) (xs ys : List Row) → Rising s a b xs → Rising s b c ys → Rising s a c (xs ++ ys)
joined s a b c [] ys r q = looser s a b c ys r q
joined s a b c (x ∷ xs) ys r q = (r.0, r.1, joined s (suc (location_of s x.0)) b c xs ys r.2 q)

in_slab_lem : (s : Store) (k j n : ℕ) → Rising s (packing k j) (packing k (j + n)) (moves_in s k j n)
in_slab_lem s k j zero = omega arith
in_slab_lem s k j (suc n) = go (movable s k j o) refl (in_slab_lem s k (suc j) n)
  where
    o : ℕ
    o = get_or s.owners (k * s.slots + j) 0

    go : (b : Bool) → movable s k j o ≡ b → Rising s (packing k (suc j)) (packing k (suc j + n)) (moves_in s k (suc j) n)
        → Rising s (packing k j) (packing k (j + suc n)) (cons_if b (o, packing k j) (moves_in s k (suc j) n))
    go true e r =
        let q = and_true (in_ids s o) (eqb (location_of s o) (packing k j)) e in
        let l : location_of s o ≡ packing k j = eqb-true (location_of s o) (packing k j) q.1 in
        (q.0, omega arith, rw l (rw more (looser s (suc (packing k j)) (packing k (suc j)) (packing k (suc j + n)) (moves_in s k (suc j) n) (omega arith) r)))
      where
        more : packing k (j + suc n) ≡ packing k (suc j + n)
        more = omega arith
    go false e r = rw more (looser s (packing k j) (packing k (suc j)) (packing k (suc j + n)) (moves_in s k (suc j) n) (omega arith) r)
      where
        more : packing k (j + suc n) ≡ packing k (suc j + n)
        more = omega arith

-- the end may lie further on
wider : (s : Store) (a b c : ℕ) (ms : List Row) → b ≤ c → Rising s a b ms → Rising s a c ms
wider s a b c [] h r = omega arith
wider s a b c (m ∷ ms) h r = (r.0, r.1, wider s (suc (location_of s m.0)) b c ms h r.2)

slab_rises : (s : Store) → capacities s.ids s.slots ≡ true → (r : Float) (k : ℕ) → Rising s (packing k 0) (packing (suc k) 0) (slab_moves s r k (slab_tip s k))
slab_rises s z r k =
    let t = slab_tip s k in
    let b = cutoff (live s k) t r in
    let h : b ≤ t = cutoff_le (live s k) t r in
    let c = capacities_range s.ids s.slots z in
    let u : t ≤ s.slots = slab_tip_le s c.slots_from k in
    let w : s.slots ≤ 65536 = c.slots_to in
    looser s (packing k 0) (packing k b) (packing (suc k) 0) (moves_in s k b (t - b)) (omega arith)
    (wider s (packing k b) (packing k (b + (t - b))) (packing (suc k) 0) (moves_in s k b (t - b)) (omega arith) (in_slab_lem s k b (t - b)))

all_rise : (s : Store) → capacities s.ids s.slots ≡ true → (r : Float) (n k : ℕ) → Rising s (packing k 0) (packing (k + n) 0) (moves_from s r n k)
unfolding moves_from
all_rise s z r zero k = omega arith
all_rise s z r (suc n) k =
    joined s (packing k 0) (packing (suc k) 0) (packing (k + suc n) 0) (slab_moves s r k (slab_tip s k)) (moves_from s r n (suc k)) (slab_rises s z r k)
    (wider s (packing (suc k) 0) (packing (suc k + n) 0) (packing (k + suc n) 0) (moves_from s r n (suc k)) (omega arith) (all_rise s z r n (suc k)))

-- the moved ids, less 1, as rows
abbrev moved : List Row → List Row
moved [] = []
moved (m ∷ ms) = (pred m.0, 0) ∷ moved ms

-- an id among them has a location from b on
later : (s : Store) (b c : ℕ) (ms : List Row) → Rising s b c ms → (i : ℕ) → elem i (ids_of (moved ms)) ≡ true → b ≤ location_of s (suc i)
later s b c [] r i e = clash (sym e)
later s b c (m ∷ ms) r i e = go (λ k. later s (suc (location_of s m.0)) c ms r.2 i k) (elem_cases i (pred m.0) (ids_of (moved ms)) e)
  where
    pos : 0 < m.0
    pos = ltb-true 0 m.0 (and_true (ltb 0 m.0) (ltb m.0 s.ids) r.0).0

    go : (elem i (ids_of (moved ms)) ≡ true → suc (location_of s m.0) ≤ location_of s (suc i)) → (i ≡ pred m.0) ⊎
        (elem i (ids_of (moved ms)) ≡ true) → b ≤ location_of s (suc i)
    go f (inl q) = let p : suc i ≡ m.0 = omega (arith, pos) in rw p r.1
    go f (inr k) = let h = f k in omega (arith, r.1)

spare : (s : Store) (b c : ℕ) (ms : List Row) → Rising s b c ms → Spare (replicate (s.ids - 1) 0) (moved ms)
spare s b c [] r = tt
spare s b c (m ∷ ms) r = (
  rw (length-replicate {A = ℕ} (s.ids - 1) 0) (omega (arith, pos, top)),
  zeros (s.ids - 1) (pred m.0),
  once (elem (pred m.0) (ids_of (moved ms))) refl,
  spare s (suc (location_of s m.0)) c ms r.2,
)
  where
    pos : 0 < m.0
    pos = ltb-true 0 m.0 (and_true (ltb 0 m.0) (ltb m.0 s.ids) r.0).0

    top : m.0 < s.ids
    top = ltb-true m.0 s.ids (and_true (ltb 0 m.0) (ltb m.0 s.ids) r.0).1

    once : (x : Bool) → elem (pred m.0) (ids_of (moved ms)) ≡ x → x ≡ false
    once false e = refl
    once true e =
        let h = later s (suc (location_of s m.0)) c ms r.2 (pred m.0) e in
        let p : suc (pred m.0) ≡ m.0 = omega (arith, pos) in
        let h' : suc (location_of s m.0) ≤ location_of s m.0 = rw p at h in
        absurd (omega arith)

length_moved : (ms : List Row) → length (moved ms) ≡ length ms
length_moved [] = refl
length_moved (m ∷ ms) = ap suc (length_moved ms)

pub moves_fit : MovesFit
moves_fit s r z =
    let ms = all_moves s r in
    let t : List ℕ = replicate (s.ids - 1) 0 in
    let c = count_held_by (moved ms) t (spare s (packing 0 0) (packing (0 + slabs) 0) ms (all_rise s z r slabs 0)) in
    let d = count_if_le is_taken (held_by (moved ms) t) in
    let e : length (held_by (moved ms) t) ≡ s.ids - 1 = length_held_by (moved ms) t ∙ length-replicate (s.ids - 1) 0 in
    omega (arith, length_moved ms, count_zeros (s.ids - 1))
