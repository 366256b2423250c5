-- `tables::carries` meets its contract: bytes whose quotient by the width is the number of rows, with nothing left over, are as many as the rows carry. Assumes nothing.
use Rattle.std.proofs.Common.{◌≡◌, ℕ, ◌*◌, ◌/◌, ◌%◌, ◌&&◌, eqb, ◌∙◌, arith, eq-eqb, eqb-true}
use Rattle.refusal.proofs.Tests.{and_true, all, both_ways}
use Rattle.carried.specs.Carried.{width}
use Rattle.tables.proofs.shapes.carries.Goals as goal

whole_rows : (b n : ℕ) → (eqb (b / width) n && eqb (b % width) 0) ≡ eqb b (n * width)
whole_rows b n =
    both_ways (eqb (b / width) n && eqb (b % width) 0) (eqb b (n * width))
    (λ h.
    let a = and_true (eqb (b / width) n) (eqb (b % width) 0) h in
    let q = eqb-true (b / width) n a.0 in
    let r = eqb-true (b % width) 0 a.1 in
    eq-eqb b (n * width) (omega arith))
    (λ h. let e = eqb-true b (n * width) h in all (eq-eqb (b / width) n (omega arith)) (eq-eqb (b % width) 0 (omega arith)))

pub returns : goal.returns
returns c =
    let a = c.args in
    c.both.ensures ∙ whole_rows a.bytes a.rows
