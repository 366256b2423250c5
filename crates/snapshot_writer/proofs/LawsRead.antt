-- The two calls' answers in what the code reads: lengths, one word of the batch, the picked ids. Assumes nothing.
use mathlib.Core.Bool.{Bool, true, false, not}
use mathlib.Core.Path.{◌≡◌, refl, sym, ap, ◌∙◌}
use mathlib.Core.List.{List, ◌++◌, map, append-nil}
use Prim.Native.Nat.{ℕ, ◌*◌, ◌≤◌}
use native.Mathlib.Omega.{arith}
use lib.Dec.{eqb, ltb}
use lib.ListN.{length, get_or, drop}
use lib.Seq.{drop-length}
use borrow.Author.Tests.{eq-eqb, ne_eqb, lt-ltb, le-ltb}
use Rattle.refusal.specs.declared.Kind.{Kind}
use Rattle.refusal.specs.Outcomes.{granted, refused}
use Rattle.refusal.specs.Refusals.{wrong_shape, batch_open}
use Rattle.refusal.specs.declared.Refusal.{Refusal}
use Rattle.snapshot_blocks.specs.Formats.{version2}
use Rattle.snapshot_blocks.specs.Blocks.{entry_for}
use Rattle.snapshot_blocks.specs.Files.{file_of, file_length}
use Rattle.model.specs.Store.{ask, snapshot_length, snapshot, gave, wrote}
use Rattle.model.specs.Verdict.{Verdict, refuse, test, ◌⨾◌, judged_verdict}
use Rattle.model.specs.Tables.{bad_location}
use Rattle.model.specs.Lending.{Lending, every_table, stored_tables}
use Rattle.model.specs.Lent.{fits}
use Rattle.model.specs.Memory.{Memory, read}
use Rattle.model.specs.Outcomes.{over}
use Rattle.model.specs.Questions.{ask_refusal, reply}
use Rattle.model.specs.Snapshots.{is_stored, those_from, snapshot_rows}
use Rattle.model.specs.Step.{answer, answer_by, refusal_of, refusal, grant}
use Rattle.model.proofs.Sizes.{shape_read, fits_range, fits_slot_marks, fits_carried}
use Rattle.tables.specs.Entries.{held_in}
use Rattle.tables.proofs.LawsEntries.{bad_in_read}
use Rattle.snapshot_writer.specs.Outcome.{Left, snapshot_leaves}
use Rattle.snapshot_writer.specs.Writer.{stored_in, not_own}
use Rattle.snapshot_writer.proofs.LawsRows.{few_rows}
use Rattle.std.specs.Prelude.{Result, Ok, Err, ⊤}

-- ---- the first word of the batch
pub opened : (n : ℕ) → (n ≡ 0 → ⊥) → ltb 0 n ≡ true
opened n h = lt-ltb 0 n (omega arith)

pub none_opened : (n : ℕ) → n ≡ 0 → ltb 0 n ≡ false
none_opened n h = le-ltb 0 n (omega arith)

module _ (m : Memory) where
  -- the ids with a row, and their rows' file
  abbrev pub picked : List ℕ
  picked = those_from (stored_in m.ids m.id_marks m.locations m.tallies) m.ids 0

  abbrev pub picked_file : List ℕ
  picked_file = file_of version2 (map (entry_for 80 m.locations m.carried) picked)

  picked_read : those_from (is_stored (read m)) m.ids 0 ≡ picked
  unfolding stored_in held_in read
  picked_read = refl

  -- where the tables fit there are few rows
  pub few_ids : (l : Lending) (rows : ℕ) → fits l m ≡ true → rows ≡ length picked → rows ≤ 65536
  few_ids l rows f e =
      let r = (fits_range l m f).ids_to in
      let n = few_rows (stored_in m.ids m.id_marks m.locations m.tallies) m.ids rows e in
      omega (arith, r, n)

  -- ---- the length
  pub length_answer : answer (read m) (ask snapshot_length)
      ≡ answer_by (test (not (fits stored_tables m)) wrong_shape 0 ⨾ test (ltb 0 (get_or m.batch 0 0)) batch_open 0) (gave (file_length version2 (length picked)))
  unfolding answer refusal refusal_of ask_refusal grant reply read
  length_answer = λ k. answer_by (shape_read (ask snapshot_length) m k ⨾ test (ltb 0 (get_or m.batch 0 0)) batch_open 0) (gave (file_length version2 (length (picked_read k))))

  pub length_shape : (r : Refusal) → r ≡ record { kind = wrong_shape; index = 0 } → fits stored_tables m ≡ false → refused r.kind r.index ≡ answer (read m) (ask snapshot_length)
  unfolding test ◌⨾◌
  length_shape r e f = rw (e, length_answer, f)

  pub length_open : (r : Refusal) → r ≡ record { kind = batch_open; index = 0 } → fits stored_tables m ≡ true → (get_or m.batch 0 0 ≡ 0 → ⊥) → refused r.kind r.index ≡ answer (read m) (ask snapshot_length)
  unfolding test ◌⨾◌
  length_open r e f o = rw (e, length_answer, f, opened (get_or m.batch 0 0) o)

  pub length_done : (long rows : ℕ) → long ≡ file_length version2 rows → rows ≡ length picked → fits stored_tables m ≡ true → get_or m.batch 0 0 ≡ 0 → granted (gave long) ≡ answer (read m) (ask snapshot_length)
  unfolding test ◌⨾◌
  length_done long rows l r f o = rw (length_answer, f, none_opened (get_or m.batch 0 0) o, l, r)

  -- ---- the refusals of writing
  abbrev owned : ℕ → Bool
  owned = not_own m.slots m.locations m.slot_marks m.owners m.tallies

  owned_read : fits every_table m ≡ true → owned ≡ bad_location (read m)
  unfolding not_own read
  owned_read f = λ k. λ i. bad_in_read m i (get_or m.locations i 0) (fits_range every_table m f).slots_good (fits_slot_marks every_table m f) k

  abbrev pub later : (ℕ → Bool) → List ℕ → Verdict
  later bad file = test (not (eqb (length file) (file_length version2 (length picked)))) wrong_shape 0 ⨾ test (ltb 0 (get_or m.batch 0 0)) batch_open 0 ⨾ snapshot_rows bad 0 picked

  write_refusal : (file : List ℕ) → refusal (read m) (ask (snapshot file)) ≡ (test (not (fits every_table m)) wrong_shape 0 ⨾ later (bad_location (read m)) file)
  unfolding refusal refusal_of ask_refusal read
  write_refusal file = λ k.
      shape_read (ask (snapshot file)) m k ⨾ test (not (eqb (length file) (file_length version2 (length (picked_read k))))) wrong_shape 0 ⨾
      test (ltb 0 (get_or m.batch 0 0)) batch_open 0 ⨾ snapshot_rows (bad_location (read m)) 0 (picked_read k)

  write_grant : (file : List ℕ) → grant (read m) (ask (snapshot file)) ≡ wrote picked_file
  unfolding grant reply read
  write_grant file = λ k. wrote (file_of version2 (map (entry_for 80 m.locations m.carried) (picked_read k)))

  -- where the tables fit
  pub later_refusal : (file : List ℕ) → fits every_table m ≡ true → refusal (read m) (ask (snapshot file)) ≡ later owned file
  unfolding test ◌⨾◌
  later_refusal file f = write_refusal file ∙ ap (λ (b : Bool). test (not b) wrong_shape 0 ⨾ later (bad_location (read m)) file) f ∙ ap (λ (bad : ℕ → Bool). later bad file) (sym (owned_read f))

  pub refused_shape : (file : List ℕ) → fits every_table m ≡ false → refusal (read m) (ask (snapshot file)) ≡ refuse wrong_shape 0
  unfolding test ◌⨾◌
  refused_shape file f = write_refusal file ∙ ap (λ (b : Bool). test (not b) wrong_shape 0 ⨾ later (bad_location (read m)) file) f

  pub refused_length : (file : List ℕ) (long : ℕ) → fits every_table m ≡ true → long ≡ file_length version2 (length picked) → (length file ≡ long → ⊥) → refusal (read m) (ask (snapshot file)) ≡ refuse wrong_shape 0
  unfolding test ◌⨾◌
  refused_length file long f l h = later_refusal file f ∙ rw (ne_eqb (length file) (file_length version2 (length picked)) (λ q. h (q ∙ sym l)))

  pub refused_open : (file : List ℕ) (long : ℕ) → fits every_table m ≡ true → long ≡ file_length version2 (length picked) → length file ≡ long → (get_or m.batch 0 0 ≡ 0 → ⊥)
      → refusal (read m) (ask (snapshot file)) ≡ refuse batch_open 0
  unfolding test ◌⨾◌
  refused_open file long f l h o = later_refusal file f ∙ rw (eq-eqb (length file) (file_length version2 (length picked)) (h ∙ l), opened (get_or m.batch 0 0) o)

  pub rows_refusal : (file : List ℕ) (long : ℕ) → fits every_table m ≡ true → long ≡ file_length version2 (length picked) → length file ≡ long → get_or m.batch 0 0 ≡ 0
      → refusal (read m) (ask (snapshot file)) ≡ snapshot_rows owned 0 picked
  unfolding test ◌⨾◌
  rows_refusal file long f l h o = later_refusal file f ∙ rw (eq-eqb (length file) (file_length version2 (length picked)) (h ∙ l), none_opened (get_or m.batch 0 0) o)

  -- ---- what writing leaves
  leaves_refused : (file : List ℕ) (n : Kind) (i : ℕ) → refusal (read m) (ask (snapshot file)) ≡ refuse n i → ◌≡◌ {A = Left} (record { answer = refused n i; file = file }) (snapshot_leaves m file)
  unfolding snapshot_leaves answer
  leaves_refused file n i e = rw e

  pub leaves_as : (file : List ℕ) (r : Refusal) (n : Kind) → r ≡ record { kind = n; index = 0 } → refusal (read m) (ask (snapshot file)) ≡ refuse n 0
      → ◌≡◌ {A = Left} (record { answer = refused r.kind r.index; file = file }) (snapshot_leaves m file)
  leaves_as file r n p e = (λ i. record { answer = refused (p i).kind (p i).index; file = file }) ∙ leaves_refused file n 0 e

  pub leaves_verdict : (file : List ℕ) (j : Result ⊤ Refusal) (r : Refusal) → j ≡ Err r → refusal (read m) (ask (snapshot file)) ≡ judged_verdict j
      → ◌≡◌ {A = Left} (record { answer = refused r.kind r.index; file = file }) (snapshot_leaves m file)
  leaves_verdict file j r p e = leaves_refused file r.kind r.index (e ∙ ap judged_verdict p)

  pub leaves_done : (file after : List ℕ) (j : Result ⊤ Refusal) → j ≡ (Ok tt) → refusal (read m) (ask (snapshot file)) ≡ judged_verdict j → length after ≡ length file → after ≡ picked_file
      → ◌≡◌ {A = Left} (record { answer = granted (wrote after); file = after }) (snapshot_leaves m file)
  unfolding snapshot_leaves answer
  leaves_done file after j p e n w =
      let z : over picked_file file ≡ after =
      ap (λ (x : List ℕ). over x file) (sym w) ∙ ap (λ (x : ℕ). after ++ drop x file) n ∙ ap (λ (x : List ℕ). after ++ x) (drop-length file) ∙ append-nil after in
      rw (e, ap judged_verdict p, write_grant file, z, ← w)

  pub long_enough : fits every_table m ≡ true → m.ids * 80 ≤ length m.carried
  long_enough f = let c = fits_carried every_table m f in omega (arith, c)
