-- The outcome of a step in a snapshot: the documents' number and values. Assumes nothing.
use Rattle.std.specs.Prelude.{[], ◌∷◌, Result, Ok, Err, Option, Some, None}
use Rattle.refusal.specs.Outcomes.{Values, granted, refused_as}
use Rattle.refusal.specs.declared.Refusal.{Refusal}
use Rattle.snapshot_blocks.specs.declared.Row.{Row}
use Rattle.snapshot.specs.declared.Position.{Position}

-- the row, block and row of the next position, where in the file the key stands and how long it is; nothing at the end
abbrev pub step_outcome : Result (Option (Row × Position)) Refusal → Values
step_outcome (Ok (Some (r, next))) = granted (r.id ∷ r.collection ∷ r.location ∷ next.block ∷ next.row ∷ r.key ∷ r.length ∷ [])
step_outcome (Ok None) = granted []
step_outcome (Err r) = refused_as r
