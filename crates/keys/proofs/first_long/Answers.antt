-- The loop's invariant: no row so far has too long a key, so that the first is found among the others. Assumes nothing.
use mathlib.Core.Bool.{false, ◌&&◌}
use mathlib.Core.List.{[]}
use mathlib.Core.Path.{◌≡◌, ap, ◌∙◌}
use Prim.Native.Nat.{◌<◌}
use native.Mathlib.Omega.{arith}
use lib.ListN.{length, get_or}
use Rattle.list_parts.specs.Parts.{part}
use Rattle.carried.specs.Carried.{width}
use Rattle.keys.specs.Keys.{key_is_long, stores_of}
use Rattle.keys.proofs.Laws.{length_stores_of, get_d_stores_of}
use Rattle.keys.proofs.LawsCode.{when_so_many, so_many, row_at, long_here, long_turn, long_end}
use Rattle.keys.proofs.first_long.Goals as goal

pub bounds-stores-i : goal.bounds-stores-i
bounds-stores-i c =
    omega (arith, c.loop-i-test.true, so_many (length c.args.stores.now) c.args.rows.now c.in-Some.rows.now c.in-Some.ensures.1)

pub returns-then-is_long : goal.returns-then-is_long
returns-then-is_long c =
    let bs = c.args.stores.now in
    let bytes = c.args.rows.now in
    let rows = c.in-Some.rows.now in
    let n = length bs in
    let i = c.loop-i.i in
    let inside : i < n = omega (arith, c.loop-i-test.true, so_many n bytes rows c.in-Some.ensures.1) in
    let test : c.is_long.result ≡ (get_or (stores_of bs) i false && key_is_long (part width bytes i)) =
    c.is_long.ensures ∙ ap (λ s. s && key_is_long (get_or rows i [])) (c.is_store.ensures ∙ get_d_stores_of bs i)
    ∙ ap (λ r. get_or (stores_of bs) i false && key_is_long r) (row_at n bytes rows i c.in-Some.ensures.1 inside) in
    long_here (stores_of bs) bytes n i (length_stores_of bs) c.loop-i.invariant c.is_long.result inside test c.if-is_long.true
    ∙ when_so_many _ _ n c.in-Some.ensures.0

pub loop-i-preserved : goal.loop-i-preserved
loop-i-preserved c =
    let bs = c.args.stores.now in
    let bytes = c.args.rows.now in
    let rows = c.in-Some.rows.now in
    let n = length bs in
    let i = c.loop-i.i in
    let inside : i < n = omega (arith, c.loop-i-test.true, so_many n bytes rows c.in-Some.ensures.1) in
    let test : c.is_long.result ≡ (get_or (stores_of bs) i false && key_is_long (part width bytes i)) =
    c.is_long.ensures ∙ ap (λ s. s && key_is_long (get_or rows i [])) (c.is_store.ensures ∙ get_d_stores_of bs i)
    ∙ ap (λ r. get_or (stores_of bs) i false && key_is_long r) (row_at n bytes rows i c.in-Some.ensures.1 inside) in
    long_turn (stores_of bs) bytes n i (length_stores_of bs) c.loop-i.invariant c.is_long.result inside test c.if-is_long.false

pub returns : goal.returns
returns c =
    let bs = c.args.stores.now in
    let bytes = c.args.rows.now in
    let n = length bs in
    let i = c.loop-i.i in
    let all : n ≡ i = omega (arith, c.loop-i-test.false, c.loop-i.auto.i-end, so_many n bytes c.in-Some.rows.now c.in-Some.ensures.1) in
    all ∙ long_end (stores_of bs) bytes n i (length_stores_of bs) c.loop-i.invariant (omega (arith, all)) ∙ when_so_many _ _ n c.in-Some.ensures.0
