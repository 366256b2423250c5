-- The numbers are those of the entry, and what is written is what it carries as a rebuild takes it (`brought_row`).
use mathlib.Core.Path.{refl, ap, ◌∙◌}
use lib.ListN.{set}
use Rattle.carried.specs.Carried.{width, put_row}
use Rattle.snapshot_lists.proofs.Carried.{brought_row, id_row, location_row}
use Rattle.snapshot_lists.proofs.take_row.Goals as goal

pub write_brought-requires : goal.write_brought-requires
write_brought-requires c =
    let pre = c.requires in
    let e = c.key_length-long.ensures in
    (refl, refl, rw e pre.3, rw e pre.4)

pub returns : goal.returns
returns c =
    λ f s w r.
    let a = c.args in
    let pre = c.requires in
    let e = c.key_length-long.ensures in
    let held = brought_row f s a.row.now a.wide _ _ w r pre.2 e (rw e pre.4) c.write_brought.ensures in (
      ap (set a.ids.now a.p) (c.get_at.ensures ∙ id_row f a.row.now),
      ap (set a.locations.now a.p) (c.get_at-2.ensures ∙ location_row f a.row.now),
      c.put_row.ensures ∙ ap (put_row width a.carried.now a.p) held,
    )
