-- What the lent tables say of one id and of one slot. Nothing here has to be believed: proofs/LawsEntries.antt shows that each says what the
-- model says of the store that the tables stand for. Assumes nothing.
use Rattle.std.specs.Prelude.{ℕ, ◌+◌, ◌*◌, Bool, cond, not, ◌&&◌, List, [], ◌==◌, nat_lt, slice_index, Result, Ok, Err, Option, Some, None}
use Rattle.list_parts.specs.Parts.{part}
use Rattle.address.specs.Address.{bad_slots, unpacked, slabs}
use Rattle.address.specs.declared.SlabAddress.{SlabAddress}
use Rattle.marks.specs.Marks.{is_held}
use Rattle.model.specs.Memory.{counted_by}
use Rattle.refusal.specs.declared.Refusal.{Refusal}

-- a held id above 0
unfoldable pub held_in : ℕ → List ℕ → List ℕ → ℕ → Bool
held_in ids marks words i = nat_lt 0 i && nat_lt i ids && is_held (slice_index (counted_by words 0 marks) i)

-- the marks of a slab; none where there is no such slab or capacity
unfoldable pub slab_part : ℕ → List ℕ → ℕ → List ℕ
slab_part cap t k = cond (nat_lt k slabs && not (bad_slots cap)) (part cap t k) []

-- a slot is held, and id i is its owner
abbrev pub owns_in : ℕ → List ℕ → List ℕ → List ℕ → ℕ → SlabAddress → Bool
owns_in cap marks owners words i a =
    is_held (slice_index (counted_by words (a.slab + 1) (slab_part cap marks a.slab)) a.slot) && slice_index owners (a.slab * cap + a.slot) == i

-- refusal 13 of a location that is id i's: out of range, its slot not held, or its owner another. Zero is no location, and fine
unfoldable pub bad_by : ℕ → List ℕ → List ℕ → List ℕ → ℕ → ℕ → Result (Option SlabAddress) Refusal → Bool
bad_by cap marks owners words i l (Ok (Some a)) = not (owns_in cap marks owners words i a)
bad_by cap marks owners words i l (Ok None) = not (l == 0)
bad_by cap marks owners words i l (Err r) = not (l == 0)

abbrev pub bad_in : ℕ → List ℕ → List ℕ → List ℕ → ℕ → ℕ → Bool
bad_in cap marks owners words i l = bad_by cap marks owners words i l (unpacked cap l)
