use Rattle.std.proofs.Common.{◌≡◌, ℕ, ◌+◌, ◌-◌, ◌*◌, ◌≤◌, length, take, drop, sym, ap, ◌∙◌, arith, length-drop, drop_of_length-le, take_all, le-ltb, lt-ltb}
use lib.Seq.{take-nil}
use Rattle.list_parts.proofs.Ranges.{rest_part}
use Rattle.tables.proofs.LawsEntries.{slab_part_none, slab_part_is, start_lt, end_part}
use Rattle.tables.proofs.entries.slab_marks.Goals as goal
use Rattle.tables.proofs.entries.slab_marks.Goals.{then-slab-ge-SLABS-via-then-slab-ge-SLABS, then-slab-ge-SLABS-via-else-slab-ge-SLABS+then-bad_slots}

pub returns-then-slab-ge-SLABS : goal.returns-then-slab-ge-SLABS
returns-then-slab-ge-SLABS c =
    end_part c.args.slot_marks.now
    ∙ sym (slab_part_none _ _ _ (elim c.then-slab-ge-SLABS.branch [
      | then-slab-ge-SLABS-via-then-slab-ge-SLABS w ↦ simp (le-ltb _ _ w.if-slab-ge-SLABS.true)
      | then-slab-ge-SLABS-via-else-slab-ge-SLABS+then-bad_slots w ↦ simp (lt-ltb _ _ w.if-slab-ge-SLABS.false, sym w.bad_slots.ensures ∙ w.if-bad_slots.true)
    ]))

pub overflow_mul-start : goal.overflow_mul-start
overflow_mul-start c = omega (arith, start_lt _ _ c.if-slab-ge-SLABS.false (sym c.bad_slots.ensures ∙ c.if-bad_slots.false))

pub returns-then-length-start : goal.returns-then-length-start
returns-then-length-start c =
    let t = c.args.slot_marks.now in
    let k = c.args.slab in
    let cap = c.args.slots in
    let past : length t ≤ k * cap = c.if-length-start.true in
    end_part t ∙ sym (slab_part_is cap k t c.if-slab-ge-SLABS.false (sym c.bad_slots.ensures ∙ c.if-bad_slots.false) ∙ ap (take cap) (drop_of_length-le t past) ∙ take-nil cap)

pub returns-then-length-start-2 : goal.returns-then-length-start-2
returns-then-length-start-2 c =
    let t = c.args.slot_marks.now in
    let k = c.args.slab in
    let cap = c.args.slots in
    let short : length (drop (k * cap) t) ≤ cap = rw (length-drop (k * cap) t) c.if-length-start-2.true in
    rest_part t (k * cap) ∙ sym (slab_part_is cap k t c.if-slab-ge-SLABS.false (sym c.bad_slots.ensures ∙ c.if-bad_slots.false) ∙ take_all cap (drop (k * cap) t) short)

pub returns : goal.returns
returns c =
    let t = c.args.slot_marks.now in
    let k = c.args.slab in
    let cap = c.args.slots in
    let e : k * cap + cap - k * cap ≡ cap = omega arith in
    ap (λ (n : ℕ). take n (drop (k * cap) t)) e ∙ sym (slab_part_is cap k t c.if-slab-ge-SLABS.false (sym c.bad_slots.ensures ∙ c.if-bad_slots.false))
