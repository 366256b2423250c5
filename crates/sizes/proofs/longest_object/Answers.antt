use native.Mathlib.Omega.{arith}
use Rattle.sizes.specs.Sizes.{longest_object}
use Rattle.sizes.proofs.Laws.{field_width_le}
use Rattle.sizes.proofs.longest_object.Goals as goal

pub overflow_add-frame : goal.overflow_add-frame
overflow_add-frame c = omega (arith, c.field_width-frame.ensures, field_width_le c.args.s)

pub returns-then-frame-s : goal.returns-then-frame-s
unfolding longest_object
returns-then-frame-s c = omega (arith, c.field_width-frame.ensures)

pub returns-else-frame-s : goal.returns-else-frame-s
unfolding longest_object
returns-else-frame-s c = omega (arith, c.field_width-frame.ensures)
