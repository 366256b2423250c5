-- The loop's invariant: the rows still to come, kept in the column as it is, are all rows kept in the column as it was. Where the column has no row for
-- the next it has none for the others. Assumes nothing.
use mathlib.Core.List.{[]}
use mathlib.Core.Path.{◌≡◌, sym, ap, ◌∙◌}
use Prim.Native.Nat.{◌+◌, ◌-◌, ◌*◌, ◌^◌, ◌<◌}
use native.Mathlib.Omega.{arith}
use lib.ListN.{length, drop, get_or}
use borrow.Author.Tests.{eqb-true}
use borrow.Author.Rules.{rules}
use Rattle.list_parts.specs.Parts.{part}
use Rattle.carried.specs.Carried.{width, put_row}
use Rattle.carried.proofs.Laws.{put_rows_past}
use Rattle.keys.specs.Keys.{normal_of, normal_rows, stores_of}
use Rattle.keys.proofs.Laws.{length_stores_of, get_d_stores_of}
use Rattle.keys.proofs.LawsCode.{when_so_many, so_many, row_at, keep_turn, keep_end, put_row_capped}
use Rattle.keys.proofs.keep.Goals as goal

pub bounds-stores-i : goal.bounds-stores-i
bounds-stores-i c =
    omega (arith, c.loop-i-test.true, so_many (length c.args.stores.now) c.args.rows.now c.in-Some.rows.now c.in-Some.ensures.1)

pub returns-then-column-index : goal.returns-then-column-index
returns-then-column-index c =
    let a = c.args in
    let t = c.loop-i.column in
    let i = c.loop-i.i in
    let n = length a.stores.now in
    let rest = normal_rows (drop i (stores_of a.stores.now)) (drop (i * width) a.rows.now) in
    let past : length t < (a.first + i) * width + width = omega (arith, c.if-column-index.true, c.saturating_add-index.ensures) in
    sym (put_rows_past width (a.first + i) (n - i) rest t past) ∙ c.loop-i.invariant ∙ when_so_many _ _ a.column.now c.in-Some.ensures.0

pub loop-i-preserved : goal.loop-i-preserved
loop-i-preserved c =
    let a = c.args in
    let bs = a.stores.now in
    let n = length bs in
    let t = c.loop-i.column in
    let i = c.loop-i.i in
    let inside : i < n = omega (arith, c.loop-i-test.true, so_many n a.rows.now c.in-Some.rows.now c.in-Some.ensures.1) in
    let row : get_or c.in-Some.rows.now i [] ≡ part width a.rows.now i = row_at n a.rows.now c.in-Some.rows.now i c.in-Some.ensures.1 inside in
    let small : length t < 2 ^ 64 = search rules in
    keep_turn a.first (stores_of bs) a.rows.now t c.keep_row.new.column n i c.is_store.result (length_stores_of bs) (eqb-true _ _ c.in-Some.ensures.0) inside
    (c.is_store.ensures ∙ get_d_stores_of bs i)
    (c.keep_row.ensures ∙ ap (λ x. put_row width t c.saturating_add-index.result (normal_of c.is_store.result x)) row
    ∙ put_row_capped t (normal_of c.is_store.result (part width a.rows.now i)) (a.first + i) c.saturating_add-index.result small c.saturating_add-index.ensures)
    ∙ c.loop-i.invariant

pub returns : goal.returns
returns c =
    let a = c.args in
    let n = length a.stores.now in
    let i = c.loop-i.i in
    let many = so_many n a.rows.now c.in-Some.rows.now c.in-Some.ensures.1 in
    let rest = normal_rows (drop i (stores_of a.stores.now)) (drop (i * width) a.rows.now) in
    sym (keep_end (a.first + i) n i rest c.loop-i.column (omega (arith, c.loop-i-test.false, many))) ∙ c.loop-i.invariant
    ∙ when_so_many _ _ a.column.now c.in-Some.ensures.0
