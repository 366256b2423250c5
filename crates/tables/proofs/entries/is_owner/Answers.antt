-- The tests are those of `owns_in`; where there is no such slab or capacity no slot is held (owns_in_none). Assumes nothing.
use Rattle.std.proofs.Common.{sym, ◌∙◌, arith, le-ltb, lt-ltb}
use borrow.Author.Tests.{not-true, not-false}
use Rattle.tables.proofs.LawsEntries.{owns_in_none, start_lt}
use Rattle.tables.proofs.entries.is_owner.Goals as goal
use Rattle.tables.proofs.entries.is_owner.Goals.{then-slab-ge-SLABS-via-then-slab-ge-SLABS, then-slab-ge-SLABS-via-else-slab-ge-SLABS+then-bad_slots}

pub returns-then-slab-ge-SLABS : goal.returns-then-slab-ge-SLABS
returns-then-slab-ge-SLABS c =
    let a = c.args in
    owns_in_none a.slots a.slot_marks.now a.owners.now a.tallies.now a.id a.address
    (elim c.then-slab-ge-SLABS.branch [
      | then-slab-ge-SLABS-via-then-slab-ge-SLABS w ↦ simp (le-ltb _ _ w.if-slab-ge-SLABS.true)
      | then-slab-ge-SLABS-via-else-slab-ge-SLABS+then-bad_slots w ↦ simp (lt-ltb _ _ w.if-slab-ge-SLABS.false, sym w.bad_slots.ensures ∙ w.if-bad_slots.true)
    ])

pub returns-then-not-is_held : goal.returns-then-not-is_held
returns-then-not-is_held c =
    let free = sym c.is_held.ensures ∙ not-true _ c.if-not-is_held.true-raw in
    simp (← c.slab_marks.ensures, ← c.get-hint.ensures, ← c.get-waiting.ensures, free)

pub overflow_mul-slab : goal.overflow_mul-slab
overflow_mul-slab c = omega (arith, start_lt _ _ c.if-slab-ge-SLABS.false (sym c.bad_slots.ensures ∙ c.if-bad_slots.false))

pub returns : goal.returns
returns c =
    let held = sym c.is_held.ensures ∙ not-false _ c.if-not-is_held.false-raw in
    simp (← c.slab_marks.ensures, ← c.get-hint.ensures, ← c.get-waiting.ensures, held, c.get.ensures)
