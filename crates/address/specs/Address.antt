-- Document 01, "Addresses". Assumes nothing.
use Rattle.std.specs.Prelude.{Bool, cond, ◌&&◌, ◌||◌, ℕ, ◌+◌, ◌*◌, ◌-◌, ◌/◌, ◌%◌, ◌^◌, leb, ltb, eqb, Result, Ok, Err, Option, Some, None}
use Rattle.refusal.specs.Refusals.{refusal, wrong_shape, out_of_range}
pub use Rattle.sizes.specs.Sizes.{slabs}
use Rattle.address.specs.declared.SlabAddress.{SlabAddress}
use Rattle.refusal.specs.declared.Refusal.{Refusal}

abbrev pub largest_slot : ℕ
largest_slot = 65535

-- the largest slot capacity, and so the largest tip
abbrev pub most_slots : ℕ
most_slots = 65536

-- the weight of a slab in a packed location
abbrev pub unit : ℕ
unit = 2 ^ 56

-- a slot capacity is 1 to 65,536
unfoldable pub bad_slots : ℕ → Bool
bad_slots slots = ltb slots 1 || ltb most_slots slots

-- an address within the type's own limits
unfoldable pub made_of : ℕ → ℕ → Result SlabAddress Refusal
made_of slab slot =
    cond (leb slabs slab || ltb largest_slot slot) (Err (refusal out_of_range 0))
    (Ok (record { slab = slab; slot = slot }))

-- the number that a slab and a slot are packed into: (slab + 1) × 2^56 + slot
abbrev pub packing : ℕ → ℕ → ℕ
packing slab slot = (slab + 1) * unit + slot

-- a number that stands for a slab and a slot below the capacity: its top byte is 1 to 78. Zero is none
abbrev pub is_location : ℕ → ℕ → Bool
is_location slots location = leb 1 (location / unit) && leb (location / unit) slabs && ltb (location % unit) slots

unfoldable pub packed : ℕ → SlabAddress → Result ℕ Refusal
packed slots a =
    cond (bad_slots slots) (Err (refusal wrong_shape 0))
    (cond (leb slabs a.slab || leb slots a.slot) (Err (refusal out_of_range 0))
    (Ok (packing a.slab a.slot)))

-- the location, and 0 where it is refused
abbrev pub location_in : Result ℕ Refusal → ℕ
location_in (Ok location) = location
location_in (Err r) = 0

unfoldable pub unpacked : ℕ → ℕ → Result (Option SlabAddress) Refusal
unpacked slots location =
    cond (bad_slots slots) (Err (refusal wrong_shape 0))
    (cond (eqb location 0) (Ok None)
    (cond (is_location slots location) (Ok (Some (record { slab = location / unit - 1; slot = location % unit })))
    (Err (refusal out_of_range 0))))
