-- The outcome tells which answer it is. Assumes nothing.
use mathlib.Core.List.{List, [], ◌∷◌}
use mathlib.Core.Path.{◌≡◌, refl}
use Prim.Native.Nat.{ℕ}
use lib.ListN.{get_or}
use Rattle.refusal.proofs.Outcomes.{outcome_one}
use Rattle.address.specs.Outcomes.{made_outcome, packed_outcome, unpacked_says, unpacked_outcome}
use Rattle.std.specs.Prelude.{Result, Option, Some, None}
use Rattle.refusal.specs.declared.Refusal.{Refusal}
use Rattle.address.specs.declared.SlabAddress.{SlabAddress}

pub made_outcome_one : (a b : Result SlabAddress Refusal) → made_outcome a ≡ made_outcome b → a ≡ b
made_outcome_one = outcome_one _ (λ vs. (record { slab = get_or vs 0 0; slot = get_or vs 1 0 })) (λ _. refl)

pub packed_outcome_one : (a b : Result ℕ Refusal) → packed_outcome a ≡ packed_outcome b → a ≡ b
packed_outcome_one = outcome_one _ (λ vs. (get_or vs 0 0)) (λ _. refl)

abbrev unpacked_back : List ℕ → Option SlabAddress
unpacked_back [] = None
unpacked_back (v ∷ vs) = Some (record { slab = v; slot = get_or vs 0 0 })

unpacked_back_says : (u : Option SlabAddress) → unpacked_back (unpacked_says u) ≡ u
unpacked_back_says None = refl
unpacked_back_says (Some a) = refl

pub unpacked_outcome_one : (a b : Result (Option SlabAddress) Refusal) → unpacked_outcome a ≡ unpacked_outcome b → a ≡ b
unpacked_outcome_one = outcome_one unpacked_says unpacked_back unpacked_back_says
