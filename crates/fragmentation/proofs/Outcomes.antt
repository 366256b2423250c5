-- The outcome tells which answer it is. Assumes nothing.
use mathlib.Core.List.{List, [], ◌∷◌}
use mathlib.Core.Path.{◌≡◌, refl}
use Prim.Native.Nat.{ℕ}
use Rattle.refusal.proofs.Outcomes.{outcome_one}
use Rattle.fragmentation.specs.Outcomes.{cutoff_says, cutoff_outcome}
use Rattle.std.specs.Prelude.{Result, Option, Some, None}
use Rattle.refusal.specs.declared.Refusal.{Refusal}

abbrev cutoff_back : List ℕ → Option ℕ
cutoff_back [] = None
cutoff_back (v ∷ vs) = Some v

cutoff_back_says : (o : Option ℕ) → cutoff_back (cutoff_says o) ≡ o
cutoff_back_says None = refl
cutoff_back_says (Some slot) = refl

pub cutoff_outcome_one : (a b : Result (Option ℕ) Refusal) → cutoff_outcome a ≡ cutoff_outcome b → a ≡ b
cutoff_outcome_one = outcome_one cutoff_says cutoff_back cutoff_back_says
