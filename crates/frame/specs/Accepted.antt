-- Request 2026-02: a slot is accepted exactly if it is what a write of some object gives. Statements; proofs/Accepted.antt has the proofs,
-- each under the name said beside it. Assumes nothing.
use Rattle.std.specs.Prelude.{◌≡◌, ◌↔◌, List, ℕ, take, Ok}
use Rattle.little_endian.specs.LittleEndian.{Bytes}
use Rattle.frame.specs.Frame.{writing, verdict_of, object_part}

-- the slot is what a write of the object over some slot gives; of that slot a write looks at the length alone
abbrev pub IsWritten : List ℕ → List ℕ → Type 0
IsWritten object slot = (before : List ℕ) × (writing before object ≡ record { answer = Ok tt; slot = slot })

-- with the object named, the slot's own first bytes (accepted_named)
abbrev pub AcceptedNamed : Type 0
AcceptedNamed = (slot : List ℕ) → Bytes slot → (n : ℕ) → (verdict_of slot ≡ Ok n) ↔ IsWritten (take n slot) slot

-- for some object (accepted_some)
abbrev pub AcceptedSome : Type 0
AcceptedSome = (slot : List ℕ) → Bytes slot
    → ((n : ℕ) × (verdict_of slot ≡ Ok n)) ↔ ((object : List ℕ) × Bytes object × IsWritten object slot)

-- and that object is handed back (accepted_back)
abbrev pub AcceptedBack : Type 0
AcceptedBack = (slot object : List ℕ) → Bytes object → IsWritten object slot → object_part (verdict_of slot) slot ≡ object
