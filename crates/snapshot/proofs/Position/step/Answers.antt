-- A block that is right lies within the file and has no more rows than it has room for, which is what the step in it asks for.
use mathlib.Core.Path.{refl, sym, ◌∙◌}
use Prim.Native.Nat.{◌*◌}
use native.Mathlib.Omega.{arith}
use Rattle.snapshot_blocks.specs.Formats.{format_of}
use Rattle.snapshot.specs.Snapshot.{format_at, step_of}
use Rattle.snapshot.proofs.Turns.{part_block, wrong_at_end, wrong_at_count}
use Rattle.snapshot.proofs.Position.step.Goals as goal

pub returns-in-Some : goal.returns-in-Some
unfolding step_of
returns-in-Some c = simp (sym c.wrong_at.ensures ∙ c.in-Some.is, c.at.ensures)

pub overflow_mul-start : goal.overflow_mul-start
overflow_mul-start c =
    let n = c.args.self.block in
    let file = c.args.file.now in
    omega (arith, wrong_at_end (format_at format_of n file) n file (sym c.wrong_at.ensures ∙ c.in_default.is))

pub overflow_add-end : goal.overflow_add-end
overflow_add-end c =
    let n = c.args.self.block in
    let file = c.args.file.now in
    omega (arith, wrong_at_end (format_at format_of n file) n file (sym c.wrong_at.ensures ∙ c.in_default.is))

pub slice_bounds-step_in-end : goal.slice_bounds-step_in-end
slice_bounds-step_in-end c =
    let n = c.args.self.block in
    let file = c.args.file.now in
    wrong_at_end (format_at format_of n file) n file (sym c.wrong_at.ensures ∙ c.in_default.is)

pub step_in-requires : goal.step_in-requires
step_in-requires c =
    let n = c.args.self.block in
    let file = c.args.file.now in
    let z = sym c.wrong_at.ensures ∙ c.in_default.is in
    (rw (part_block n (512 * n) file refl) (wrong_at_count (format_at format_of n file) n file z), omega (arith, wrong_at_end (format_at format_of n file) n file z))

pub returns : goal.returns
unfolding step_of
returns c =
    let n = c.args.self.block in
    let file = c.args.file.now in
    let z = sym c.wrong_at.ensures ∙ c.in_default.is in
    c.step_in.ensures ∙ simp (z, part_block n (512 * n) file refl)
