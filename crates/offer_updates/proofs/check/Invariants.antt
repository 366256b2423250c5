use mathlib.Core.Path.{◌≡◌}
use mathlib.Core.Bool.{true, false}
use mathlib.Core.List.{[]}
use Prim.Native.Nat.{ℕ, ◌≤◌, ◌-◌, ◌%◌}
use lib.ListN.{length, drop, get_or}
use Rattle.list_parts.specs.Lists.{elem}
use Rattle.offer_updates.specs.Kinds.{before, check_in}
use Rattle.model.specs.Lending.{place_tables}
use Rattle.model.specs.Lent.{lent_by}
use Rattle.offer_updates.proofs.check.Given as goal

abbrev pub invariant-loop-i : goal.invariant-loop-i
invariant-loop-i l = (length l.seen ≡ 4096) × ((x : ℕ) → elem x (before l.i l.ids) ≡ true → get_or l.seen (x % 4096) false ≡ true) × (check_in (lent_by place_tables l.caps.ids l.caps.slots l.id_marks l.locations l.slot_marks l.owners l.tallies) (before l.i l.ids) l.i (drop l.i l.ids) (drop l.i l.slabs) ≡ check_in (lent_by place_tables l.caps.ids l.caps.slots l.id_marks l.locations l.slot_marks l.owners l.tallies) [] 0 l.ids l.slabs)
