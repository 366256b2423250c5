-- `by_halves` meets its contract: the law by_bits of the length field that n bytes get, and of the side of the extra size. Assumes nothing.
use native.Mathlib.Omega.{arith}
use Rattle.sizes.proofs.Laws.{slab_for_some}
use Rattle.sizes.proofs.LeadingBits.{ByBits, by_bits_4, by_bits_4_on, by_bits_8}
use borrow.Author.Rules.{rules}
use Rattle.sizes.proofs.by_halves.Goals as goal
use Rattle.sizes.proofs.by_halves.Goals.{Joined-last-lt-EXTRA_SIZE, then-n-le-LONGEST_WITH_4, else-n-le-LONGEST_WITH_4, then-last-lt-EXTRA_SIZE, else-last-lt-EXTRA_SIZE}

found : (c : Joined-last-lt-EXTRA_SIZE) → ByBits 1 c.if-last-lt-EXTRA_SIZE.base c.args.n c.if-n-le-LONGEST_WITH_4.last
found c =
    let n = c.args.n in
    let last = c.if-n-le-LONGEST_WITH_4.last in
    elim c.if-last-lt-EXTRA_SIZE.branch [
      | then-last-lt-EXTRA_SIZE o ↦ rw o.base-is (elim c.if-n-le-LONGEST_WITH_4.branch [
        | then-n-le-LONGEST_WITH_4 p ↦ by_bits_4 n last p.last-is c.requires.0 o.if-last-lt-EXTRA_SIZE.true
        | else-n-le-LONGEST_WITH_4 p ↦ absurd (omega arith)
      ])
      | else-last-lt-EXTRA_SIZE o ↦ rw o.base-is (elim c.if-n-le-LONGEST_WITH_4.branch [
        | then-n-le-LONGEST_WITH_4 p ↦ by_bits_4_on n last p.last-is o.if-last-lt-EXTRA_SIZE.false p.if-n-le-LONGEST_WITH_4.true
        | else-n-le-LONGEST_WITH_4 p ↦ by_bits_8 n last p.last-is p.if-n-le-LONGEST_WITH_4.false c.requires.1
      ])
    ]

pub overflow_sub-result : goal.overflow_sub-result
overflow_sub-result c = (found (goal.at.overflow_sub-result c).Joined-last-lt-EXTRA_SIZE).0

pub overflow_add-result : goal.overflow_add-result
overflow_add-result c =
    let f = found (goal.at.overflow_add-result c).Joined-last-lt-EXTRA_SIZE in
    omega (arith, f, slab_for_some c.args.n (search rules))

pub overflow_mul-result : goal.overflow_mul-result
overflow_mul-result c = let f = found (goal.at.overflow_mul-result c).Joined-last-lt-EXTRA_SIZE in omega (arith, f)

pub overflow_cast-result-2 : goal.overflow_cast-result-2
overflow_cast-result-2 c = let f = found (goal.at.overflow_cast-result-2 c).Joined-last-lt-EXTRA_SIZE in omega (arith, f)

pub overflow_sub-result-2 : goal.overflow_sub-result-2
overflow_sub-result-2 c = (found (goal.at.overflow_sub-result-2 c).Joined-last-lt-EXTRA_SIZE).1

pub returns : goal.returns
returns c = (found (goal.at.returns c).Joined-last-lt-EXTRA_SIZE).2
