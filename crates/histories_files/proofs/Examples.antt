-- The history of histories' own example, computed: its column holds bytes, and its snapshot has two rows in one block. And a file of version 1 with two
-- rows, from which a rebuild is granted. Assumes nothing.
use mathlib.Core.Path.{◌≡◌, refl, sym, subst}
use mathlib.Core.Bool.{Bool, true, ◌&&◌}
use mathlib.Core.List.{List, [], ◌∷◌}
use Prim.Native.Nat.{ℕ, zero, suc, ◌*◌, ◌<◌}
use native.Mathlib.Omega.{arith}
use lib.Dec.{ltb}
use lib.ListN.{replicate}
use borrow.Author.Tests.{ltb-true, lt-ltb}
use Rattle.refusal.proofs.Tests.{and_true, all}
use Rattle.little_endian.specs.LittleEndian.{Bytes, word, bytes_of, get_at}
use Rattle.keys.specs.Keys.{key_is_long, normal, brought, long_in, normal_rows}
use Rattle.sizes.specs.Sizes.{slab_for, first_fit, slab_sizes, field_width}
use Rattle.address.specs.Address.{bad_slots, packing}
use Rattle.carried.specs.Carried.{width, put_row, put_rows, up_from, kept_row, committed}
use Rattle.snapshot_blocks.specs.Formats.{version1, format_of, per_block}
use Rattle.snapshot_blocks.specs.Blocks.{Entry, above, ascending}
use Rattle.snapshot_blocks.specs.Valid.{Valid, All}
use Rattle.snapshot_blocks.specs.Files.{file_of, file_length}
use Rattle.snapshot_lists.specs.Lists.{read_into}
use Rattle.snapshot_laws.specs.Reading.{brought_by}
use Rattle.snapshot_laws.proofs.Stated.{lists_read}
use Rattle.model.specs.Batches.{room}
use Rattle.model.specs.Columns.{offered_column, committed_column}
use Rattle.model.specs.Ids.{bump_pending}
use Rattle.model.specs.Lending.{lent_fit}
use Rattle.model.specs.Questions.{ask_refusal, reply}
use Rattle.model.specs.Rebuild.{fresh_store}
use Rattle.model.specs.Snapshots.{those_from}
use Rattle.model.specs.Step.{state, answer, next, refusal_of, refusal, grant, effect}
use Rattle.model.specs.Store.{Rows, rebuild}
use Rattle.model.specs.Tables.{bad_ids}
use Rattle.model.specs.Verdict.{ok, ◌⨾◌, test, tests_from, earlier}
use Rattle.histories.proofs.Examples.{calls, at_rest}
use Rattle.histories_files.specs.Statements.{rows_read, SnapshotMet, Version1Met}

abbrev all_bytes : List ℕ → Bool
all_bytes [] = true
all_bytes (b ∷ bs) = ltb b 256 && all_bytes bs

bytes_of_lem : (t : List ℕ) → all_bytes t ≡ true → Bytes t
bytes_of_lem [] e k = omega arith
bytes_of_lem (b ∷ bs) e zero = ltb-true b 256 (and_true (ltb b 256) (all_bytes bs) e).0
bytes_of_lem (b ∷ bs) e (suc k) = bytes_of_lem bs (and_true (ltb b 256) (all_bytes bs) e).1 k

pub snapshot_met : SnapshotMet
unfolding ◌⨾◌ test answer next refusal refusal_of ask_refusal reply lent_fit grant effect bad_ids bad_slots slab_for first_fit slab_sizes field_width room bump_pending offered_column committed_column put_row put_rows up_from kept_row committed tests_from earlier key_is_long long_in normal normal_rows get_at word those_from file_length per_block
snapshot_met = (calls, at_rest, bytes_of_lem (state 9 4 calls).carried refl, refl, refl)

-- ---- a file of version 1: two rows, in the first two slots of the smallest slab
abbrev entry : ℕ → ℕ → Entry
entry i slot = record { id = i; carried = i ∷ 7 ∷ 0 ∷ 0 ∷ 0 ∷ 0 ∷ 0 ∷ 0 ∷ []; location = packing 0 slot }

abbrev entries : List Entry
entries = entry 1 0 ∷ entry 2 1 ∷ []

valid_1 : (i slot : ℕ) → i < 256 → slot < 256 → Valid version1 (entry i slot)
valid_1 i slot h k = record {
  id_fits = omega arith;
  location_fits = omega arith;
  wide = refl;
  bytes = bytes_of_lem (entry i slot).carried (all (lt-ltb i 256 h) refl);
  carries = refl;
}

abbrev rows_of_file : Rows
rows_of_file = record { ids = 1 ∷ 2 ∷ []; locations = packing 0 0 ∷ packing 0 1 ∷ []; carried = brought_by entries }

granted_1 : refusal (fresh_store 9 4) (rebuild rows_of_file) ≡ ok
unfolding ◌⨾◌ test refusal refusal_of lent_fit bad_ids bad_slots tests_from earlier key_is_long long_in get_at word bytes_of brought brought_by
granted_1 = refl

pub version1_met : Version1Met
unfolding per_block format_of ascending above
version1_met =
    let valid : All (Valid version1) entries = (valid_1 1 0 (omega arith) (omega arith), (valid_1 2 1 (omega arith) (omega arith), tt)) in
    let t = read_into (file_of version1 entries) (replicate 20 0) (replicate 20 0) (replicate (20 * width) 0) in
    let held = lists_read version1 refl entries (omega arith) valid refl (replicate 20 0) (replicate 20 0) (replicate (20 * width) 0) (omega arith) refl refl in
    let same : rows_read 2 t ≡ rows_of_file = λ k. record { ids = held.ids_held k; locations = held.locations_held k; carried = held.carried_held k } in
    (entries, refl, valid, refl, subst (λ rs. refusal (fresh_store 9 4) (rebuild rs) ≡ ok) (sym same) granted_1)
