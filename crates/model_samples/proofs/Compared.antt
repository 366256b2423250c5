-- The sample of the oracle's histories agrees: every answer computes to the one that stands there. The two are compared by their numbers (Coded, in
-- crate model). Assumes nothing.
use mathlib.Core.Path.{◌≡◌, refl}
use mathlib.Core.Bool.{Bool, true, ◌&&◌}
use mathlib.Core.List.{List, [], ◌∷◌}
use lib.Ieee.{div, le, lt, eq, of_int, to_unsigned, round, units, odd, size, span, climb}
use Rattle.refusal.proofs.Tests.{and_true}
use Rattle.sizes.specs.Sizes.{slab_sizes, field_width, first_fit, slab_for, size_of}
use Rattle.address.specs.Address.{bad_slots}
use Rattle.little_endian.specs.LittleEndian.{word, bytes_of, get_at}
use Rattle.carried.specs.Carried.{put_row, put_rows, up_from, kept_row, committed}
use Rattle.keys.specs.Keys.{key_is_long, normal, long_in, normal_rows}
use Rattle.snapshot_blocks.specs.Formats.{per_block}
use Rattle.snapshot_blocks.specs.Files.{file_length}
use Rattle.fragmentation.specs.Cutoff.{is_ratio, cutoff}
use Rattle.model.specs.Store.{Store}
use Rattle.model.specs.Verdict.{◌⨾◌, test, tests_from, earlier}
use Rattle.model.specs.Tables.{bad_ids}
use Rattle.model.specs.Ids.{bump_pending}
use Rattle.model.specs.Batches.{room}
use Rattle.model.specs.Defrag.{moves_from}
use Rattle.model.specs.Lending.{lent_fit}
use Rattle.model.specs.Truncation.{cut_at}
use Rattle.model.specs.Columns.{offered_column, committed_column, rebuilt_column}
use Rattle.model.specs.Snapshots.{those_from, snapshot_rows}
use Rattle.model.specs.Questions.{ask_refusal, reply}
use Rattle.model.specs.Step.{refusal_of, refusal, grant, effect, answer, next}
use Rattle.model.proofs.Coded.{same_code, answer_code, same_answer}
use Rattle.model_samples.specs.Sample.{Asked, Agrees, AllAgree, samples}
use Rattle.model_samples.specs.Sample.{sample1, sample2, sample3, sample4, sample5, sample6, sample7, sample8, sample9, sample10}

abbrev agrees : Store → List Asked → Bool
agrees s [] = true
agrees s (q ∷ qs) = same_code (answer_code (answer s q.call)) (answer_code q.answered) && agrees (next s q.call) qs

abbrev all_agree : List (Store × List Asked) → Bool
all_agree [] = true
all_agree (h ∷ hs) = agrees h.0 h.1 && all_agree hs

it_agrees : (s : Store) (qs : List Asked) → agrees s qs ≡ true → Agrees s qs
it_agrees s [] e = refl
it_agrees s (q ∷ qs) e =
    let both = and_true _ (agrees (next s q.call) qs) e in
    λ k. same_answer (answer s q.call) q.answered both.0 k ∷ it_agrees (next s q.call) qs both.1 k

all_agree_lem : (hs : List (Store × List Asked)) → all_agree hs ≡ true → AllAgree hs
all_agree_lem [] e = tt
all_agree_lem (h ∷ hs) e =
    let both = and_true (agrees h.0 h.1) (all_agree hs) e in
    (it_agrees h.0 h.1 both.0, all_agree_lem hs both.1)

pub sample_agrees : AllAgree samples
unfolding samples sample1 sample2 sample3 sample4 sample5 sample6 sample7 sample8 sample9 sample10 ◌⨾◌ test tests_from earlier answer next refusal refusal_of ask_refusal reply lent_fit grant effect bad_ids bad_slots slab_for first_fit slab_sizes field_width size_of is_ratio cutoff div le lt eq of_int to_unsigned round units odd size span climb room bump_pending moves_from cut_at bytes_of word get_at offered_column committed_column rebuilt_column put_row put_rows up_from kept_row committed key_is_long normal long_in normal_rows those_from snapshot_rows file_length per_block
sample_agrees = all_agree_lem samples refl
