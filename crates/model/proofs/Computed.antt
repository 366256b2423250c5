-- The cases hold: a test of each compares what the rules give with what the documents say by their numbers, the outcome or the code, which tell the
-- answer; antt computes all the tests. Assumes nothing.
use mathlib.Core.Path.{◌≡◌, refl}
use mathlib.Core.Bool.{Bool, true, ◌&&◌}
use mathlib.Core.List.{List, [], ◌∷◌}
use lib.Ieee.{div, le, lt, eq, of_int, to_unsigned, round, units, odd, size, span, climb}
use Rattle.refusal.proofs.Tests.{and_true}
use Rattle.sizes.specs.Sizes.{class_of, slab_sizes, field_width, first_fit, slab_for, size_of}
use Rattle.sizes.specs.Outcomes.{class_outcome}
use Rattle.sizes.proofs.Outcomes.{class_outcome_one}
use Rattle.address.specs.Address.{most_slots, bad_slots, packed, unpacked}
use Rattle.address.specs.Outcomes.{packed_outcome, unpacked_outcome}
use Rattle.address.proofs.Outcomes.{packed_outcome_one, unpacked_outcome_one}
use Rattle.carried.specs.Carried.{put_row, put_rows, up_from, kept_row, committed}
use Rattle.little_endian.specs.LittleEndian.{word, get_at}
use Rattle.keys.specs.Keys.{key_is_long, normal, long_in, normal_rows}
use Rattle.snapshot_blocks.specs.Formats.{per_block}
use Rattle.snapshot_blocks.specs.Files.{file_length}
use Rattle.fragmentation.specs.Cutoff.{is_ratio, cutoff}
use Rattle.fragmentation.specs.Answer.{cutoff_of}
use Rattle.fragmentation.specs.Outcomes.{cutoff_outcome}
use Rattle.fragmentation.proofs.Outcomes.{cutoff_outcome_one}
use Rattle.model.specs.Verdict.{◌⨾◌, test, tests_from, earlier}
use Rattle.model.specs.Tables.{bad_ids}
use Rattle.model.specs.Ids.{bump_pending}
use Rattle.model.specs.Batches.{room}
use Rattle.model.specs.Defrag.{moves_from}
use Rattle.model.specs.Truncation.{cut_at}
use Rattle.model.specs.Lending.{lent_fit}
use Rattle.model.specs.Columns.{offered_column, committed_column, rebuilt_column}
use Rattle.model.specs.Snapshots.{those_from}
use Rattle.model.specs.Questions.{ask_refusal, reply}
use Rattle.model.specs.Step.{refusal_of, refusal, grant, effect, answer, next}
use Rattle.model.specs.Cases.{Case, class, packs, unpacks, defrags, truncates, call, Holds, AllHold, cases}
use Rattle.model.proofs.Coded.{same_values, same_values_eq, same_code, cut_code, answer_code, same_cut, same_answer}
use Rattle.std.specs.Prelude.{Ok, Some}

-- whether a case holds, by the numbers
abbrev holds : Case → Bool
holds (class n c) = same_values (class_outcome (class_of n)) (class_outcome c)
holds (packs slab slot l) = same_values (packed_outcome (packed most_slots (record { slab = slab; slot = slot }))) (packed_outcome (Ok l))
holds (unpacks l slab slot) = same_values (unpacked_outcome (unpacked most_slots l)) (unpacked_outcome (Ok (Some (record { slab = slab; slot = slot }))))
holds (defrags live tip r c) = same_values (cutoff_outcome (cutoff_of live tip r)) (cutoff_outcome c)
holds (truncates slab high t tip c) = same_code (cut_code (cut_at slab high t tip)) (cut_code c)
holds (call s c a) = same_code (answer_code (answer s c)) (answer_code a)

abbrev all_hold : List Case → Bool
all_hold [] = true
all_hold (c ∷ cs) = holds c && all_hold cs

it_holds : (c : Case) → holds c ≡ true → Holds c
it_holds (class n c) e = class_outcome_one _ _ (same_values_eq _ _ e)
it_holds (packs slab slot l) e = packed_outcome_one _ _ (same_values_eq _ _ e)
it_holds (unpacks l slab slot) e = unpacked_outcome_one _ _ (same_values_eq _ _ e)
it_holds (defrags live tip r c) e = cutoff_outcome_one _ _ (same_values_eq _ _ e)
it_holds (truncates slab high t tip c) e = same_cut _ _ e
it_holds (call s c a) e = same_answer _ _ e

all_hold_lem : (cs : List Case) → all_hold cs ≡ true → AllHold cs
all_hold_lem [] e = tt
all_hold_lem (c ∷ cs) e = let both = and_true (holds c) (all_hold cs) e in (it_holds c both.0, all_hold_lem cs both.1)

pub cases_hold : AllHold cases
unfolding cases class_of packed unpacked cutoff_of cut_at ◌⨾◌ test answer next refusal refusal_of ask_refusal reply lent_fit grant effect bad_ids bad_slots slab_for first_fit slab_sizes field_width size_of is_ratio cutoff div le lt eq of_int to_unsigned round units odd size span climb room bump_pending moves_from offered_column committed_column rebuilt_column put_row put_rows up_from kept_row committed tests_from earlier key_is_long long_in normal normal_rows get_at word those_from file_length per_block
cases_hold = all_hold_lem cases refl
