-- Document 01, "Defrag and truncation": the slots to move, by slab, then slot. Assumes nothing.
use Rattle.std.specs.Prelude.{Bool, true, false, ◌&&◌, List, [], ◌∷◌, ◌++◌, ℕ, zero, suc, ◌+◌, ◌-◌, ◌*◌, eqb, get_or, Float}
use Rattle.address.specs.Address.{packing, slabs}
use Rattle.fragmentation.specs.Cutoff.{cutoff}
use Rattle.model.specs.Store.{Store, Row}
use Rattle.model.specs.Tables.{slab_tip, live, location_of, in_ids}

abbrev pub cons_if : Bool → Row → List Row → List Row
cons_if true r rs = r ∷ rs
cons_if false r rs = rs

-- the owner o of slab k's slot j is an id in range that has the slot as its location
abbrev pub movable : Store → ℕ → ℕ → ℕ → Bool
movable s k j o = in_ids s o && eqb (location_of s o) (packing k j)

-- of n slots of slab k from j on
abbrev pub moves_in : Store → ℕ → ℕ → ℕ → List Row
moves_in s k j zero = []
moves_in s k j (suc n) =
    cons_if (movable s k j (get_or s.owners (k * s.slots + j) 0)) (get_or s.owners (k * s.slots + j) 0, packing k j) (moves_in s k (suc j) n)

-- of a slab whose tip is t: from the cutoff to t - 1
abbrev pub slab_moves : Store → Float → ℕ → ℕ → List Row
slab_moves s r k t = moves_in s k (cutoff (live s k) t r) (t - cutoff (live s k) t r)

-- of n slabs from k on
unfoldable pub moves_from : Store → Float → ℕ → ℕ → List Row
moves_from s r zero k = []
moves_from s r (suc n) k = slab_moves s r k (slab_tip s k) ++ moves_from s r n (suc k)

abbrev pub all_moves : Store → Float → List Row
all_moves s r = moves_from s r slabs 0
