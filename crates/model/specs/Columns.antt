-- Requests 2026-01 and 2026-06: the column of what rows carry, call by call, and the test of their keys. Assumes nothing.
use Rattle.std.specs.Prelude.{Bool, true, false, List, ℕ, ◌*◌, eqb, length, replicate}
use Rattle.refusal.specs.declared.Kind.{Kind}
use Rattle.refusal.specs.declared.Kind.TheVariants as K
use Rattle.refusal.specs.Refusals.{key_too_long}
use Rattle.carried.specs.Carried.{width, put_rows, up_from, committed}
use Rattle.keys.specs.Keys.{long_in, normal_rows, all_stored}
use Rattle.model.specs.Store.{Row, Offer, Rows}
use Rattle.model.specs.Verdict.{Verdict, tests_from, earlier}
use Rattle.model.specs.Tables.{carried_bytes}

-- a row for each of these
abbrev pub carries_for : List ℕ → List ℕ → Bool
carries_for is bytes = eqb (length bytes) (length is * width)

-- ---- refusal 21

-- per update after 8 and 9, before 2 and 13
abbrev pub before_keys : Kind → Bool
before_keys K.NoSuchId = true
before_keys K.RepeatedId = true
before_keys k = false

abbrev pub with_offered_keys : Offer → Verdict → Verdict
with_offered_keys o v = earlier before_keys v (tests_from key_too_long 0 (long_in o.stores o.carried))

-- per row of a rebuild after all others
abbrev pub with_rebuilt_keys : Rows → Verdict → Verdict
with_rebuilt_keys rs v = earlier (λ n. true) v (tests_from key_too_long 0 (long_in (all_stored rs.ids) rs.carried))

-- ---- the column

-- of n ids: an offer keeps its rows after theirs
unfoldable pub offered_column : ℕ → Offer → List ℕ → List ℕ
offered_column n o t = put_rows width (up_from n (length o.ids)) (normal_rows o.stores o.carried) t

-- a commit gives each kept row to its id, and clears a freed one's
unfoldable pub committed_column : ℕ → List Row → List ℕ → List ℕ
committed_column n ks t = committed width n ks t

-- a rebuild stores its rows over zeros
unfoldable pub rebuilt_column : ℕ → Rows → List ℕ
rebuilt_column n rs = put_rows width rs.ids (normal_rows (all_stored rs.ids) rs.carried) (replicate (carried_bytes n) 0)
