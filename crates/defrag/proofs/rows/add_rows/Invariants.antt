use Prim.Native.Nat.{◌+◌, ◌≤◌, ◌-◌}
use mathlib.Core.Path.{◌≡◌}
use lib.ListN.{length, drop}
use lib.Seq.{sets}
use Rattle.model.specs.Tables.{ids_of, locations_of}
use Rattle.defrag.specs.Listed.{listed_of}
use Rattle.defrag.proofs.rows.add_rows.Given as goal

abbrev pub invariant-loop-i : goal.invariant-loop-i
invariant-loop-i l =
    (l.i ≤ length l.owners) × (l.location ≡ l.first + l.i) × (l.n ≤ l.from + l.i)
    × (length l.moved_ids ≡ length l.initial.moved_ids) × (length l.moved_locations ≡ length l.initial.moved_locations)
    × (l.n + length (listed_of l.locations l.location (drop l.i l.owners)) ≡ l.from + length (listed_of l.locations l.first l.owners))
    × (sets l.moved_ids l.n (ids_of (listed_of l.locations l.location (drop l.i l.owners))) ≡ sets l.initial.moved_ids l.from (ids_of (listed_of l.locations l.first l.owners)))
    × (sets l.moved_locations l.n (locations_of (listed_of l.locations l.location (drop l.i l.owners))) ≡ sets l.initial.moved_locations l.from (locations_of (listed_of l.locations l.first l.owners)))

abbrev pub decreases-loop-i : goal.decreases-loop-i
decreases-loop-i l = length l.owners - l.i
