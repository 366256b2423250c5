-- `defrag::slabs::list_all` meets its contract. The loop's invariant: the rows of the slabs left, written from the present row on, complete what is to be written. Assumes nothing.
use Prim.Native.Nat.{◌+◌, ◌-◌}
use mathlib.Core.Path.{ap, ◌∙◌}
use lib.ListN.{length}
use lib.Seq.{length-sets}
use native.Mathlib.Omega.{arith}
use Rattle.address.specs.Address.{slabs}
use Rattle.model.specs.Tables.{ids_of, locations_of}
use Rattle.defrag.specs.Listed.{slab_rows, listed_from}
use Rattle.defrag.proofs.Written.{next_count, next_ids, next_locations}
use Rattle.defrag.proofs.Spans.{slab_rows_le, listed_from_turn, listed_from_end}
use Rattle.defrag.proofs.slabs.list_all.Goals as goal

pub loop-slab-preserved : goal.loop-slab-preserved
loop-slab-preserved c =
    let a = c.args in
    let p = c.requires in
    let b = c.loop-slab in
    let row = slab_rows a.slots a.locations.now a.slot_marks.now a.owners.now a.tallies.now a.r b.slab in
    let rest = listed_from a.slots a.locations.now a.slot_marks.now a.owners.now a.tallies.now a.r (slabs - (b.slab + 1)) (b.slab + 1) in
    let split = listed_from_turn a.slots a.locations.now a.slot_marks.now a.owners.now a.tallies.now a.r b.slab (omega arith) in
    let few = slab_rows_le a.slots a.locations.now a.slot_marks.now a.owners.now a.tallies.now a.r b.slab p.0 p.1 (omega arith) p.2 in
    let e = c.add_slab-n.ensures in (
      omega (arith, e.0, few),
      ap length e.1 ∙ length-sets b.moved_ids b.n (ids_of row) ∙ b.invariant.1,
      ap length e.2 ∙ length-sets b.moved_locations b.n (locations_of row) ∙ b.invariant.2,
      next_count row rest b.n split e.0 b.invariant.3,
      next_ids row rest b.n split e.0 b.moved_ids e.1 b.invariant.4,
      next_locations row rest b.n split e.0 b.moved_locations e.2 b.invariant.5,
    )

pub returns : goal.returns
returns c =
    let a = c.args in
    let b = c.loop-slab in
    let e = listed_from_end a.slots a.locations.now a.slot_marks.now a.owners.now a.tallies.now a.r b.slab (omega arith) in
    (omega (arith, rw e at b.invariant.3), rw e at b.invariant.4, rw e at b.invariant.5)
