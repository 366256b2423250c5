use mathlib.Core.Path.{◌≡◌}
use mathlib.Core.List.{◌++◌, map}
use Prim.Native.Nat.{◌-◌, ◌*◌, ◌≤◌}
use lib.ListN.{length, take, drop}
use Rattle.snapshot_blocks.specs.Formats.{version2}
use Rattle.snapshot_blocks.specs.Blocks.{entry_for}
use Rattle.snapshot_blocks.specs.Files.{file_of}
use Rattle.model.specs.Snapshots.{those_from}
use Rattle.snapshot_writer.specs.Writer.{stored_in}
use Rattle.snapshot_writer.proofs.LawsBlocks.{rest}
use Rattle.snapshot_writer.proofs.Stored.put_blocks.Given as goal

abbrev pub invariant-loop-k : goal.invariant-loop-k
invariant-loop-k l =
    ((length l.file ≡ length l.initial.file) × ((l.k ≤ l.last) × (l.from ≤ l.self.ids)))
    × ((those_from (stored_in l.self.ids l.self.id_marks.now l.self.locations.now l.self.tallies.now) (l.self.ids - l.from) l.from ≡ drop (5 * l.k) (those_from (stored_in l.self.ids l.self.id_marks.now l.self.locations.now l.self.tallies.now) l.self.ids 0))
    × (take (512 * l.k) l.file ++ rest (entry_for 80 l.self.locations.now l.carried) (those_from (stored_in l.self.ids l.self.id_marks.now l.self.locations.now l.self.tallies.now) l.self.ids 0) l.last l.k
    ≡ file_of version2 (map (entry_for 80 l.self.locations.now l.carried) (those_from (stored_in l.self.ids l.self.id_marks.now l.self.locations.now l.self.tallies.now) l.self.ids 0))))
