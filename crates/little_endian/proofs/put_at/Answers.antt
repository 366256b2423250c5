use mathlib.Core.Path.{ap, ◌∙◌}
use mathlib.Core.List.{List, ◌++◌}
use Prim.Native.Nat.{ℕ}
use lib.ListN.{take, drop}
use borrow.Author.Tests.{le-leb}
use Rattle.list_parts.proofs.Ranges.{length_range, put_range}
use Rattle.little_endian.specs.LittleEndian.{bytes_of, put_at}
use native.Mathlib.Omega.{arith}
use Rattle.std.proofs.lemmas.Grind.{common_steps}
use Rattle.little_endian.proofs.put_at.Goals as goal

pub returns-then-end-bytes : goal.returns-then-end-bytes
unfolding put_at
returns-then-end-bytes c =
    let l = c.args.bytes.now in
    let start = c.args.start in
    let end = c.args.end in
    let number = c.args.number in
    let h = c.if-start-end.true in
    let e = c.if-end-bytes.true in
    put_range l start end h c.put.new.bytes
    ∙ ap (λ (ys : List ℕ). take start l ++ (ys ++ drop end l)) (c.put.ensures ∙ ap (λ (k : ℕ). bytes_of k number) (length_range l start end h e))
    ∙ simp (le-leb _ _ h, le-leb _ _ e)

pub returns-else-start-end : goal.returns-else-start-end
unfolding put_at
returns-else-start-end c = grind (arith, common_steps)
