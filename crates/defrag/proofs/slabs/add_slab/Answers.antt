-- `defrag::slabs::add_slab` meets its contract: the owners between the cutoff and the tip are a part of the table, and all sums stay small. Assumes nothing.
use Prim.Native.Nat.{◌+◌}
use native.Mathlib.Omega.{arith}
use mathlib.Core.Path.{ap, ◌∙◌}
use lib.ListN.{length, length-take}
use lib.Seq.{sets}
use Rattle.model.specs.Tables.{ids_of, locations_of}
use Rattle.defrag.proofs.Spans.{below, near, first_is, slab_is}
use Rattle.defrag.proofs.slabs.add_slab.Goals as goal

pub overflow_mul-base : goal.overflow_mul-base
overflow_mul-base c = let a = c.args in omega (arith, below a.slots a.slab c.requires.2)

pub overflow_add-low : goal.overflow_add-low
overflow_add-low c =
    let a = c.args in
    let p = c.requires in
    let s = near a.slots a.slot_marks.now a.tallies.now a.r a.slab p.1 p.2 p.0 p.3 c.looked_at-looked.ensures in
    omega arith

pub overflow_add-high : goal.overflow_add-high
overflow_add-high c =
    let a = c.args in
    let p = c.requires in
    let s = near a.slots a.slot_marks.now a.tallies.now a.r a.slab p.1 p.2 p.0 p.3 c.looked_at-looked.ensures in
    omega arith

pub overflow_add-first : goal.overflow_add-first
overflow_add-first c =
    let a = c.args in
    let p = c.requires in
    let s = near a.slots a.slot_marks.now a.tallies.now a.r a.slab p.1 p.2 p.0 p.3 c.looked_at-looked.ensures in
    let first = c.first_location.ensures ∙ first_is a.slots a.slab p.1 p.2 p.0 in
    omega arith

pub offset_bounds-owners-low : goal.offset_bounds-owners-low
offset_bounds-owners-low c =
    let a = c.args in
    let p = c.requires in
    let s = near a.slots a.slot_marks.now a.tallies.now a.r a.slab p.1 p.2 p.0 p.3 c.looked_at-looked.ensures in
    omega arith

pub slice_bounds-add_rows-count : goal.slice_bounds-add_rows-count
slice_bounds-add_rows-count c =
    let a = c.args in
    let p = c.requires in
    let s = near a.slots a.slot_marks.now a.tallies.now a.r a.slab p.1 p.2 p.0 p.3 c.looked_at-looked.ensures in
    omega arith

pub slice_bounds-add_rows-start : goal.slice_bounds-add_rows-start
slice_bounds-add_rows-start c =
    let a = c.args in
    let p = c.requires in
    let s = near a.slots a.slot_marks.now a.tallies.now a.r a.slab p.1 p.2 p.0 p.3 c.looked_at-looked.ensures in
    omega arith

pub slice_bounds-add_rows-end : goal.slice_bounds-add_rows-end
slice_bounds-add_rows-end c =
    let a = c.args in
    let p = c.requires in
    let s = near a.slots a.slot_marks.now a.tallies.now a.r a.slab p.1 p.2 p.0 p.3 c.looked_at-looked.ensures in
    omega (arith, p.4)

pub add_rows-requires : goal.add_rows-requires
add_rows-requires c =
    let a = c.args in
    let p = c.requires in
    let s = near a.slots a.slot_marks.now a.tallies.now a.r a.slab p.1 p.2 p.0 p.3 c.looked_at-looked.ensures in
    let first = c.first_location.ensures ∙ first_is a.slots a.slab p.1 p.2 p.0 in
    (simp length-take (omega arith), simp length-take (omega arith))

pub returns : goal.returns
returns c =
    let a = c.args in
    let p = c.requires in
    let first = c.first_location.ensures ∙ first_is a.slots a.slab p.1 p.2 p.0 in
    let q = slab_is a.slots a.locations.now a.slot_marks.now a.owners.now a.tallies.now a.r a.slab p.1 p.0 p.3 _ c.looked_at-looked.ensures _ (ap (λ x. x + c.looked_at-looked.result.from) first) in
    let e = c.add_rows.ensures in
    (e.0 ∙ ap (λ rs. a.n + length rs) q, e.1 ∙ ap (λ rs. sets a.moved_ids.now a.n (ids_of rs)) q, e.2 ∙ ap (λ rs. sets a.moved_locations.now a.n (locations_of rs)) q)
