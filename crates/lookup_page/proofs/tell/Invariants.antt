use mathlib.Core.List.{map}
use mathlib.Core.Path.{◌≡◌}
use lib.ListN.{length, drop}
use Rattle.lookup_page.specs.Rows.{told_in, put_number, put_location, put_carried, written}
use Rattle.lookup_page.proofs.tell.Given as goal

abbrev pub invariant-loop-p : goal.invariant-loop-p
invariant-loop-p l =
    ((length l.numbers ≡ length l.asked) × (length l.found ≡ length l.asked) × (length l.rows ≡ length l.initial.rows))
    × ((written put_number l.numbers l.p (map (told_in l.caps.ids l.caps.slots l.id_marks l.locations l.slot_marks l.owners l.tallies l.carried) (drop l.p l.asked))
    ≡ written put_number l.initial.numbers 0 (map (told_in l.caps.ids l.caps.slots l.id_marks l.locations l.slot_marks l.owners l.tallies l.carried) l.asked))
    × (written put_location l.found l.p (map (told_in l.caps.ids l.caps.slots l.id_marks l.locations l.slot_marks l.owners l.tallies l.carried) (drop l.p l.asked))
    ≡ written put_location l.initial.found 0 (map (told_in l.caps.ids l.caps.slots l.id_marks l.locations l.slot_marks l.owners l.tallies l.carried) l.asked))
    × (written put_carried l.rows l.p (map (told_in l.caps.ids l.caps.slots l.id_marks l.locations l.slot_marks l.owners l.tallies l.carried) (drop l.p l.asked))
    ≡ written put_carried l.initial.rows 0 (map (told_in l.caps.ids l.caps.slots l.id_marks l.locations l.slot_marks l.owners l.tallies l.carried) l.asked)))
