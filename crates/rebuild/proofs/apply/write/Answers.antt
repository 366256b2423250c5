-- `rebuild::apply::write` meets its contract: zeros, the ids' used word, then the rows. Assumes nothing.
use mathlib.Core.Bool.{cond}
use mathlib.Core.List.{List}
use mathlib.Core.Path.{◌≡◌, ap, ◌∙◌}
use Prim.Native.Nat.{ℕ, ◌*◌, min}
use native.Mathlib.Omega.{arith}
use lib.Dec.{eqb}
use lib.ListN.{length}
use borrow.Author.Tests.{eq-eqb}
use Rattle.carried.specs.Carried.{width, put_rows}
use Rattle.keys.specs.Keys.{normal_rows, all_stored}
use Rattle.model.specs.Tables.{write_all, locations_of}
use Rattle.model.specs.Rebuild.{rows_of, held_by, located_by, owned_by}
use Rattle.model.specs.Memory.{put_word, used_words}
use Rattle.model.specs.MemoryAfter.{use_slots}
use Rattle.rebuild.proofs.apply.write.Goals as goal

-- the rows of a whole list, kept over zeros
column : (is bs zeros t u : List ℕ) → length bs ≡ length is * width
    → u ≡ cond (eqb (length bs) (length is * width)) (put_rows width is (normal_rows (all_stored is) bs) t) t → t ≡ zeros
    → u ≡ put_rows width is (normal_rows (all_stored is) bs) zeros
column is bs zeros t u l e z =
    let kept = put_rows width is (normal_rows (all_stored is) bs) in
    e ∙ ap (λ b. cond b (kept t) t) (eq-eqb (length bs) (length is * width) l) ∙ ap kept z

pub returns : goal.returns
returns c =
    let a = c.args in
    let rs = rows_of a.ids.now a.row_locations.now in
    let clear = c.all.ensures in
    let held = c.hold_ids.ensures in
    let owned = c.hold_slots.ensures in
    let once : c.min.result ≡ min 1 (length a.ids.now) = omega (arith, c.min.ensures) in (
      held.0 ∙ ap (held_by rs) clear.0,
      held.1 ∙ ap (located_by rs) clear.1,
      owned.0 ∙ ap (write_all a.slots (locations_of rs) 1) clear.2,
      owned.1 ∙ ap (owned_by a.slots rs) clear.3,
      clear.4,
      owned.2 ∙ ap (λ g. use_slots a.slots g (locations_of rs)) (c.put.ensures ∙ (λ i. put_word (clear.5 i) used_words 0 (once i))),
      column a.ids.now a.row_carried.now _ _ _ c.requires.2 c.put_at.ensures clear.6,
    )
