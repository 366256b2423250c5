-- Every call: its refusal in document 01's order, its answer where it is granted, and the store after it. A refusal writes nothing.
-- Assumes nothing.
use Rattle.std.specs.Prelude.{not, ◌&&◌, ◌||◌, List, [], ◌∷◌, ℕ, pred, leb, ltb, length, set}
use Rattle.refusal.specs.Outcomes.{granted, refused}
use Rattle.refusal.specs.Refusals.{out_of_range, none_free, ratio_out_of_range, too_many, nothing_to_cut}
use Rattle.address.specs.Address.{slabs}
use Rattle.model.specs.Store.{Store, with_carried, Call, new_id, release, offer, commit, abandon, fresh, rebuild, ask, truncation, report, Grant}
use Rattle.model.specs.Store.{done, gave, placed, truncated, Answer}
use Rattle.model.specs.Verdict.{Verdict, ok, refuse, ◌⨾◌, test}
use Rattle.model.specs.Tables.{most_updates, slab_tip, kept}
use Rattle.model.specs.Tests.{shape, lists, as_long, none_open, one_open}
use Rattle.model.specs.Ids.{next_id, after_new_id, after_release}
use Rattle.model.specs.Batches.{updates_in, updates, room, taken_by, after_offer, commit_rows, after_commit, abandon_rows, after_abandon}
use Rattle.model.specs.Rebuild.{rows_in, rows, rebuilt, fresh_store}
use Rattle.model.specs.Truncation.{is_target, high_mark, cut_at, keeps, raise, with_high}
use Rattle.model.specs.Columns.{carries_for, with_offered_keys, with_rebuilt_keys, offered_column, committed_column, rebuilt_column}
use Rattle.model.specs.Questions.{ask_refusal, reply}

-- ---- refusals

abbrev pub slab_refusal : Store → ℕ → ℕ → Verdict
slab_refusal s k t = none_open s ⨾ test (leb slabs k || leb s.slots (high_mark s k)) out_of_range 0 ⨾ test (not (is_target t)) ratio_out_of_range 0

-- of a call whose tables fit
unfoldable pub refusal_of : Store → Call → Verdict
refusal_of s new_id = none_open s ⨾ test (leb s.ids (next_id s)) none_free 0
refusal_of s release = none_open s
refusal_of s (offer o) =
    lists (as_long o.ids o.stores && as_long o.ids o.lengths && as_long o.ids o.placed && carries_for o.ids o.carried) ⨾ none_open s ⨾
    test (ltb most_updates (length o.ids)) too_many 0 ⨾ with_offered_keys o (updates s [] 0 (updates_in o)) ⨾ room s.slots s.slot_marks (updates_in o) slabs 0
refusal_of s commit = one_open s ⨾ commit_rows s 0 (kept s)
refusal_of s abandon = one_open s ⨾ abandon_rows s 0 (kept s)
refusal_of s fresh = ok
refusal_of s (rebuild rs) = lists (as_long rs.ids rs.locations && carries_for rs.ids rs.carried) ⨾ with_rebuilt_keys rs (rows s [] [] 0 (rows_in rs))
refusal_of s (ask q) = ask_refusal s q
refusal_of s (truncation k t) = slab_refusal s k t
refusal_of s (report k t) = slab_refusal s k t ⨾ test (keeps (cut_at k (high_mark s k) t (slab_tip s k))) nothing_to_cut 0

unfoldable pub refusal : Store → Call → Verdict
refusal s c = shape s c ⨾ refusal_of s c

-- ---- what a granted call answers

unfoldable pub grant : Store → Call → Grant
grant s new_id = gave (next_id s)
grant s release = done
grant s (offer o) = placed (taken_by s (updates_in o))
grant s commit = done
grant s abandon = done
grant s fresh = done
grant s (rebuild rs) = done
grant s (ask q) = reply s q
grant s (truncation k t) = truncated (cut_at k (high_mark s k) t (slab_tip s k))
grant s (report k t) = done

-- ---- the store after a granted call

unfoldable pub effect : Store → Call → Store
effect s new_id = after_new_id s
effect s release = after_release s
effect s (offer o) = with_carried (after_offer s (updates_in o)) (offered_column s.ids o s.carried)
effect s commit = with_carried (after_commit s) (committed_column s.ids (kept s) s.carried)
effect s abandon = after_abandon s
effect s fresh = fresh_store s.ids s.slots
effect s (rebuild rs) = with_carried (rebuilt s.ids s.slots (rows_in rs)) (rebuilt_column s.ids rs)
effect s (ask q) = s
effect s (truncation k t) = with_high s (raise s.tallies.high k (slab_tip s k))
effect s (report k t) = with_high s (set s.tallies.high k (pred (slab_tip s k)))

-- ---- answer and next

abbrev pub answer_by : Verdict → Grant → Answer
answer_by ok g = granted g
answer_by (refuse n i) g = refused n i

abbrev pub unless : {A : Type 0} → Verdict → A → A → A
unless ok old new = new
unless (refuse n i) old new = old

unfoldable pub answer : Store → Call → Answer
answer s c = answer_by (refusal s c) (grant s c)

unfoldable pub next : Store → Call → Store
next s c = unless (refusal s c) s (effect s c)

-- the store after a history, and the one that a history leaves from a fresh store of n ids and m slots in each slab
abbrev pub after : Store → List Call → Store
after s [] = s
after s (c ∷ cs) = after (next s c) cs

abbrev pub state : ℕ → ℕ → List Call → Store
state n m h = after (fresh_store n m) h
