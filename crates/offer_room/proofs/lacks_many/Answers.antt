-- `room::lacks_many` meets its contract. The loop's invariant: what is counted, with what is free in the rest, is all that is free. Assumes nothing.
use Rattle.std.proofs.Common.{◌≡◌, ℕ, ◌+◌, List, take, drop, sym, ap, arith}
use lib.Dec.{ltb}
use borrow.Author.Tests.{le-ltb}
use Rattle.marks.specs.Marks.{is_free, count_if}
use Rattle.marks.proofs.LawsCount.{count_if_split, count_if_le}
use Rattle.offer_room.proofs.lacks_many.Goals as goal

-- a stretch is counted
counted_on : (ms left part rest : List ℕ) (free n : ℕ) → free + count_if is_free left ≡ count_if is_free ms → part ≡ take 1536 left → rest ≡ drop 1536 left
    → n ≡ count_if is_free part → free + n + count_if is_free rest ≡ count_if is_free ms
counted_on ms left part rest free n h p r e =
    rw r (omega (arith, rw p at e, count_if_split is_free left 1536))

pub overflow_add-free : goal.overflow_add-free
overflow_add-free c =
    let l = c.loop-stretch in
    let some = c.in-Some in
    omega (arith, counted_on c.args.marks.now l.left.now some.stretch.now some.rest.now l.free c.free_in-free.result l.invariant some.ensures.cases.0 some.ensures.cases.1 c.free_in-free.ensures, count_if_le is_free c.args.marks.now)

pub returns-then-asked-free : goal.returns-then-asked-free
returns-then-asked-free c =
    let l = c.loop-stretch in
    let some = c.in-Some in
    let counted = counted_on c.args.marks.now l.left.now some.stretch.now some.rest.now l.free c.free_in-free.result l.invariant some.ensures.cases.0 some.ensures.cases.1 c.free_in-free.ensures in
    sym (le-ltb (count_if is_free c.args.marks.now) c.args.asked (omega (arith, counted, c.if-asked-free.true)))

pub loop-stretch-preserved : goal.loop-stretch-preserved
loop-stretch-preserved c =
    let l = c.loop-stretch in
    let some = c.in-Some in
    counted_on c.args.marks.now l.left.now some.stretch.now some.rest.now l.free c.free_in-free.result l.invariant some.ensures.cases.0 some.ensures.cases.1 c.free_in-free.ensures

pub overflow_add-free-2 : goal.overflow_add-free-2
overflow_add-free-2 c = omega (arith, c.free_in-free-2.ensures, c.loop-stretch.invariant, count_if_le is_free c.args.marks.now)

pub returns : goal.returns
returns c =
    let all : c.loop-stretch.free + c.free_in-free-2.result ≡ count_if is_free c.args.marks.now = omega (arith, c.free_in-free-2.ensures, c.loop-stretch.invariant) in
    ap (λ (n : ℕ). ltb n c.args.asked) all
