-- `slab_for_size` meets its contract: the smallest slab, a private function's answer, or none, each by its law of class_of. Assumes nothing.
use mathlib.Core.Path.{sym}
use native.Mathlib.Omega.{arith}
use Rattle.sizes.proofs.Laws.{slab_for_first, class_of_slab, class_of_none}
use Rattle.sizes.proofs.slab_for_size.Goals as goal

pub returns-then-n-le-LONGEST_IN_FIRST : goal.returns-then-n-le-LONGEST_IN_FIRST
returns-then-n-le-LONGEST_IN_FIRST c = let n = c.args.n in class_of_slab n 0 (omega arith) (sym (slab_for_first n c.if-n-le-LONGEST_IN_FIRST.true))

pub returns-then-n-le-LONGEST_WITH_2 : goal.returns-then-n-le-LONGEST_WITH_2
returns-then-n-le-LONGEST_WITH_2 c = class_of_slab c.args.n c.by_quarters.result (omega arith) c.by_quarters.ensures

pub returns-then-n-le-LONGEST_WITH_8 : goal.returns-then-n-le-LONGEST_WITH_8
returns-then-n-le-LONGEST_WITH_8 c = class_of_slab c.args.n c.by_halves.result c.if-n-le-LONGEST_WITH_8.true c.by_halves.ensures

pub returns : goal.returns
returns c = class_of_none c.args.n c.if-n-le-LONGEST_WITH_8.false
