-- `by_quarters` meets its contract: the law by_bits of the length field that n bytes get. Assumes nothing.
use native.Mathlib.Omega.{arith}
use Rattle.sizes.proofs.Laws.{slab_for_some}
use Rattle.sizes.proofs.LeadingBits.{ByBits, by_bits_1, by_bits_2}
use borrow.Author.Rules.{rules}
use Rattle.sizes.proofs.by_quarters.Goals as goal
use Rattle.sizes.proofs.by_quarters.Goals.{Joined-n-le-LONGEST_WITH_1, then-n-le-LONGEST_WITH_1, else-n-le-LONGEST_WITH_1}

found : (c : Joined-n-le-LONGEST_WITH_1) → ByBits 2 225 c.args.n c.if-n-le-LONGEST_WITH_1.last
found c =
    let n = c.args.n in
    let last = c.if-n-le-LONGEST_WITH_1.last in
    elim c.if-n-le-LONGEST_WITH_1.branch [
      | then-n-le-LONGEST_WITH_1 o ↦ by_bits_1 n last o.last-is c.requires.0 o.if-n-le-LONGEST_WITH_1.true
      | else-n-le-LONGEST_WITH_1 o ↦ by_bits_2 n last o.last-is o.if-n-le-LONGEST_WITH_1.false c.requires.1
    ]

pub overflow_sub-result : goal.overflow_sub-result
overflow_sub-result c = (found (goal.at.overflow_sub-result c).Joined-n-le-LONGEST_WITH_1).0

pub overflow_add-result : goal.overflow_add-result
overflow_add-result c =
    let f = found (goal.at.overflow_add-result c).Joined-n-le-LONGEST_WITH_1 in
    omega (arith, f, slab_for_some c.args.n (search rules))

pub overflow_mul-result : goal.overflow_mul-result
overflow_mul-result c = let f = found (goal.at.overflow_mul-result c).Joined-n-le-LONGEST_WITH_1 in omega (arith, f)

pub overflow_cast-result-2 : goal.overflow_cast-result-2
overflow_cast-result-2 c = let f = found (goal.at.overflow_cast-result-2 c).Joined-n-le-LONGEST_WITH_1 in omega (arith, f)

pub overflow_sub-result-2 : goal.overflow_sub-result-2
overflow_sub-result-2 c = (found (goal.at.overflow_sub-result-2 c).Joined-n-le-LONGEST_WITH_1).1

pub returns : goal.returns
returns c = (found (goal.at.returns c).Joined-n-le-LONGEST_WITH_1).2
