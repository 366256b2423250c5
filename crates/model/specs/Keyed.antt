-- Request 2026-06: refusal 21 stands in its place among the other tests of a row. Statements; the proofs stand in proofs/Keyed.antt, each under the
-- name said beside it. Assumes nothing.
use Rattle.std.specs.Prelude.{◌≡◌, Bool, not, List, [], ◌∷◌, ℕ, suc, length}
use Rattle.refusal.specs.Refusals.{too_large, out_of_range, no_such_id, repeated_id, tables_disagree, repeated_location, key_too_long}
use Rattle.list_parts.specs.Lists.{elem}
use Rattle.keys.specs.Keys.{long_in, all_stored}
use Rattle.address.specs.Address.{is_location}
use Rattle.model.specs.Store.{Store, Update, Row, Offer, Rows}
use Rattle.model.specs.Verdict.{Verdict, ok, test, ◌⨾◌}
use Rattle.model.specs.Tables.{in_ids, held_id, bad_location}
use Rattle.model.specs.Batches.{updates_in, id_of, no_class, updates}
use Rattle.model.specs.Rebuild.{rows_in, rows}
use Rattle.model.specs.Columns.{with_offered_keys, with_rebuilt_keys}

-- the tests of an offer's updates, per update in list order: that of its key comes after 9 and before 2
abbrev pub updates_keyed : Store → List ℕ → ℕ → List Update → List Bool → Verdict
updates_keyed s seen i [] ls = ok
updates_keyed s seen i (u ∷ us) [] = ok
updates_keyed s seen i (u ∷ us) (long ∷ ls) =
    test (not (held_id s (id_of u))) no_such_id i ⨾ test (elem (id_of u) seen) repeated_id i ⨾ test long key_too_long i ⨾
    test (no_class u) too_large i ⨾ test (bad_location s (id_of u)) tables_disagree i ⨾ updates_keyed s (id_of u ∷ seen) (suc i) us ls

-- (offered_in_order)
abbrev pub OfferedInOrder : Type 0
OfferedInOrder =
    (s : Store) (o : Offer) → length o.stores ≡ length o.ids → length o.lengths ≡ length o.ids →
    with_offered_keys o (updates s [] 0 (updates_in o)) ≡ updates_keyed s [] 0 (updates_in o) (long_in o.stores o.carried)

-- and those of a rebuild's rows: that of its key comes last
abbrev pub rows_keyed : Store → List ℕ → List ℕ → ℕ → List Row → List Bool → Verdict
rows_keyed s is ls i [] ks = ok
rows_keyed s is ls i (r ∷ rs) [] = ok
rows_keyed s is ls i (r ∷ rs) (long ∷ ks) =
    test (not (in_ids s r.0)) no_such_id i ⨾ test (elem r.0 is) repeated_id i ⨾
    test (not (is_location s.slots r.1)) out_of_range i ⨾ test (elem r.1 ls) repeated_location i ⨾ test long key_too_long i ⨾
    rows_keyed s (r.0 ∷ is) (r.1 ∷ ls) (suc i) rs ks

-- (rebuilt_in_order)
abbrev pub RebuiltInOrder : Type 0
RebuiltInOrder =
    (s : Store) (rs : Rows) → length rs.locations ≡ length rs.ids →
    with_rebuilt_keys rs (rows s [] [] 0 (rows_in rs)) ≡ rows_keyed s [] [] 0 (rows_in rs) (long_in (all_stored rs.ids) rs.carried)
