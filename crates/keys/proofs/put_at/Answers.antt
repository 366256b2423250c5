-- The loop's invariant: the rows still to come, kept in the column as it is, are all rows kept in the column as it was. Assumes nothing.
use mathlib.Core.List.{[], ◌∷◌, ◌++◌}
use mathlib.Core.Path.{◌≡◌, sym, ◌∙◌}
use Prim.Native.Nat.{◌+◌, ◌*◌}
use native.Mathlib.Omega.{arith}
use lib.ListN.{length, drop, get_or, length-append}
use borrow.Author.Tests.{eqb-true}
use borrow.Author.Rules.{rules}
use Rattle.std.specs.Iterator.Adapters.{zip_first, zip_second}
use Rattle.std.specs.Slice.Iter.{iter_rest}
use Rattle.std.proofs.lemmas.Slice.Zip.{zip_turn, zip_end}
use Rattle.list_parts.specs.Parts.{part}
use Rattle.carried.specs.Carried.{width, put_row}
use Rattle.keys.specs.Keys.{normal, normal_rows, all_stored}
use Rattle.keys.proofs.LawsCode.{when_so_many, so_many, row_at, put_at_turn, put_at_end}
use Rattle.keys.proofs.put_at.Goals as goal

pub loop-row-preserved : goal.loop-row-preserved
loop-row-preserved c =
    let a = c.args in
    let ids = a.ids.now in
    let rows = c.in-Some.rows.now in
    let xs = c.loop-row.yielded in
    let i = length xs in
    let t = c.loop-row.column in
    let it = c.into_iter-row-iterator.result in
    let first : iter_rest (zip_first it) ≡ rows = search rules in
    let second : iter_rest (zip_second it) ≡ ids = search rules in
    let turn = zip_turn rows ids xs it c.loop-row.row-iterator c.next.new.self c.next.result first second c.loop-row.yielded_by (c.in-Some-2.row, c.in-Some-2.id) c.in-Some-2.is c.next.ensures.steps in
    let row : c.in-Some-2.row.now ≡ part width a.rows.now i =
    turn.2 [] ∙ row_at (length ids) a.rows.now rows i c.in-Some.ensures.1 turn.1 in
    let id : c.in-Some-2.id.now ≡ get_or ids i 0 = turn.3 0 in
    let more : length (xs ++ ((c.in-Some-2.row, c.in-Some-2.id) ∷ [])) ≡ i + 1 = length-append xs ((c.in-Some-2.row, c.in-Some-2.id) ∷ []) in
    rw more (put_at_turn ids a.rows.now t c.keep_row.new.column i (eqb-true _ _ c.in-Some.ensures.0) turn.1
    (c.keep_row.ensures ∙ (λ j. put_row width t (id j) (normal (row j)))) ∙ c.loop-row.invariant)

pub returns : goal.returns
returns c =
    let a = c.args in
    let ids = a.ids.now in
    let rows = c.in-Some.rows.now in
    let xs = c.loop-row.yielded in
    let i = length xs in
    let it = c.into_iter-row-iterator.result in
    let first : iter_rest (zip_first it) ≡ rows = search rules in
    let second : iter_rest (zip_second it) ≡ ids = search rules in
    let end = zip_end rows ids xs it c.loop-row.row-iterator c.next.new.self c.next.result first second c.loop-row.yielded_by c.in-None.is c.next.ensures.steps in
    let many = so_many (length ids) a.rows.now rows c.in-Some.ensures.1 in
    let rest = normal_rows (drop i (all_stored ids)) (drop (i * width) a.rows.now) in
    sym (put_at_end ids rest c.loop-row.column i (omega (arith, end, many))) ∙ c.loop-row.invariant
    ∙ when_so_many _ _ a.column.now c.in-Some.ensures.0
