-- The calls that only look: when each is refused once its tables fit, what it grants, and whether the answer remembers history, which
-- demand 3 excepts. Assumes nothing.
use Rattle.std.specs.Prelude.{Bool, true, false, not, ◌&&◌, ◌||◌, List, map, ℕ, suc, eqb, ltb, length, replicate}
use Rattle.refusal.specs.Refusals.{number_of, no_such_id, tables_disagree, ratio_out_of_range, too_many}
use Rattle.carried.specs.Carried.{width}
use Rattle.fragmentation.specs.Cutoff.{is_ratio}
use Rattle.model.specs.Store.{Store, Question, lookup, lookups, counters, defrag, why, snapshot_length, snapshot}
use Rattle.model.specs.Store.{Told, Grant, gave, found, told, counts, moves, because, wrote}
use Rattle.model.specs.Verdict.{Verdict, ok, refuse, ◌⨾◌, test}
use Rattle.model.specs.Tables.{location_of, carried_of, held_id, bad_location}
use Rattle.model.specs.Tests.{lists, as_long, none_open}
use Rattle.model.specs.Columns.{carries_for}
use Rattle.model.specs.Ids.{sums_of}
use Rattle.model.specs.Defrag.{all_moves}
use Rattle.model.specs.Reasons.{reason_of}
use Rattle.model.specs.Snapshots.{is_stored, stored_ids, snapshot_of, snapshot_bytes, snapshot_rows}

-- ---- one id

-- why a lookup of it is refused, once the lengths are right
abbrev pub unfound : Store → ℕ → Verdict
unfound s i = test (not (held_id s i) || eqb (location_of s i) 0) no_such_id 0 ⨾ test (bad_location s i) tables_disagree 0

-- what a page is told of it
abbrev pub told_by : Verdict → ℕ → List ℕ → Told
told_by ok l c = record { number = 0; location = l; carried = c }
told_by (refuse n i) l c = record { number = number_of n; location = 0; carried = replicate width 0 }

abbrev pub told_of : Store → ℕ → Told
told_of s i = told_by (unfound s i) (location_of s i) (carried_of s i)

-- request 2026-09: the most ids of a page
abbrev pub most_asked : ℕ
most_asked = 256

-- ---- every question

unfoldable pub ask_refusal : Store → Question → Verdict
ask_refusal s (lookup i row) = lists (eqb (length row) width) ⨾ unfound s i
ask_refusal s (lookups p) =
    lists (as_long p.ids p.numbers && as_long p.ids p.locations && carries_for p.ids p.carried) ⨾ test (ltb most_asked (length p.ids)) too_many 0
ask_refusal s counters = ok
ask_refusal s (defrag r ids locations) =
    lists (eqb (suc (length ids)) s.ids && as_long ids locations) ⨾ none_open s ⨾ test (not (is_ratio r)) ratio_out_of_range 0
-- an id under which nothing is stored is a reason, and not refused
ask_refusal s (why i r) = none_open s ⨾ test (not (is_ratio r)) ratio_out_of_range 0 ⨾ test (is_stored s i && bad_location s i) tables_disagree 0
ask_refusal s snapshot_length = none_open s
ask_refusal s (snapshot file) = lists (eqb (length file) (snapshot_bytes s)) ⨾ none_open s ⨾ snapshot_rows (bad_location s) 0 (stored_ids s)

unfoldable pub reply : Store → Question → Grant
reply s (lookup i row) = found (location_of s i) (carried_of s i)
reply s (lookups p) = told (map (told_of s) p.ids)
reply s counters = counts s.tallies.granted s.tallies.freed (sums_of s.tallies)
reply s (defrag r ids locations) = moves (all_moves s r)
reply s (why i r) = because (reason_of s r i)
reply s snapshot_length = gave (snapshot_bytes s)
reply s (snapshot file) = wrote (snapshot_of s)

abbrev pub asks_history : Question → Bool
asks_history (lookup i row) = false
asks_history (lookups p) = false
asks_history counters = true
asks_history (defrag r ids locations) = false
asks_history (why i r) = false
asks_history snapshot_length = false
asks_history (snapshot file) = false
