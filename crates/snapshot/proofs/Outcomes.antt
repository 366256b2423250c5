-- The outcome tells which answer it is. Assumes nothing.
use mathlib.Core.List.{List, [], ◌∷◌}
use mathlib.Core.Path.{◌≡◌, refl}
use Prim.Native.Nat.{ℕ}
use lib.ListN.{get_or}
use Rattle.refusal.proofs.Outcomes.{one_by, read_back}
use Rattle.snapshot.specs.Outcomes.{step_outcome}
use Rattle.std.specs.Prelude.{Result, Ok, Err, Option, Some, None}
use Rattle.refusal.specs.declared.Refusal.{Refusal}
use Rattle.snapshot_blocks.specs.declared.Row.{Row}
use Rattle.snapshot.specs.declared.Position.{Position}

abbrev step_back : List ℕ → Option (Row × Position)
step_back [] = None
step_back (v ∷ vs) =
    Some (
      record { id = v; collection = get_or vs 0 0; location = get_or vs 1 0; key = get_or vs 4 0; length = get_or vs 5 0 },
      record { block = get_or vs 2 0; row = get_or vs 3 0 },
    )

pub step_outcome_one : (a b : Result (Option (Row × Position)) Refusal) → step_outcome a ≡ step_outcome b → a ≡ b
step_outcome_one = one_by step_outcome (read_back step_back) back
  where
    back : (s : Result (Option (Row × Position)) Refusal) → read_back step_back (step_outcome s) ≡ s
    back (Ok (Some (r, next))) = refl
    back (Ok None) = refl
    back (Err r) = refl
