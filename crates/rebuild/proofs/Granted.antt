-- What the tests say of fresh and rebuild: refused with 1, or with a row's number, or granted, and then every table has its length.
-- Assumes nothing.
use mathlib.Core.Path.{◌≡◌, refl, ap, sym, ◌∙◌}
use mathlib.Core.Bool.{Bool, true, false, not, cond, ◌&&◌, ◌||◌}
use mathlib.Core.List.{List, []}
use Prim.Native.Nat.{ℕ, ◌*◌, ◌≤◌, ◌<◌, min}
use native.Mathlib.Omega.{arith}
use lib.Dec.{eqb, ltb}
use lib.ListN.{length, length-map, replicate}
use lib.Seq.{set-get_or}
use borrow.Author.Tests.{eqb-true, eq-eqb, ne_eqb, lt-ltb, le-ltb, ltb-false, not-true, not-false}
use Rattle.refusal.proofs.Tests.{all, and_true, by_test, clash}
use Rattle.refusal.specs.Outcomes.{granted, refused}
use Rattle.refusal.specs.Refusals.{wrong_shape, key_too_long}
use Rattle.carried.specs.Carried.{width, put_rows}
use Rattle.keys.specs.Keys.{long_in, first_met, normal_rows, all_stored}
use Rattle.keys.proofs.Laws.{all_stored_replicate}
use Rattle.address.specs.Address.{bad_slots}
use Rattle.model.specs.Store.{Call, Rows, done, fresh, rebuild}
use Rattle.model.specs.Step.{answer, answer_by, grant, refusal_of, refusal, unless}
use Rattle.model.specs.Tables.{write_all, locations_of}
use Rattle.model.specs.Rebuild.{rows, rows_of, held_by, located_by, owned_by}
use Rattle.model.specs.Verdict.{Verdict, ok, refuse, test, tests_from, earlier, ◌⨾◌}
use Rattle.model.specs.Memory.{Memory, memory_of, carrying, read, put_word, word_at, used_words, tally_words}
use Rattle.model.specs.MemoryAfter.{memory_after, memory_effect, memory_rebuilt, use_slots}
use Rattle.model.specs.Columns.{with_rebuilt_keys, rebuilt_column}
use Rattle.model.specs.Lending.{every_table}
use Rattle.model.specs.Lent.{fits}
use Rattle.model.proofs.Keyed.{first_long_lem}
use Rattle.model.proofs.Verdicts.{earlier_alone}
use Rattle.model.proofs.Sizes.{shape_read, fits_range, fits_id_marks, fits_locations, fits_slot_marks, fits_owners, fits_batch, fits_tallies, fits_carried}
use Rattle.rebuild_rows.specs.Checks.{refused_row, wrong_verdict}
use Rattle.refusal.specs.declared.Refusal.{Refusal}
use Rattle.std.specs.Prelude.{Result, Ok, Err, ⊤}
use Rattle.rebuild_rows.proofs.Checked.{verdict_is, rows_length}

-- ---- fresh

fresh_refusal : (m : Memory) → refusal (read m) fresh ≡ (test (not (fits every_table m)) wrong_shape 0 ⨾ ok)
unfolding refusal refusal_of
fresh_refusal m = ap (λ v. v ⨾ ok) (shape_read fresh m)

pub fresh_refused : (m : Memory) {f : Bool} → f ≡ fits every_table m → not f ≡ true
    → (refused wrong_shape 0 ≡ answer (read m) fresh) × (m ≡ memory_after m fresh)
unfolding answer memory_after test ◌⨾◌
fresh_refused m q n =
    let r : refusal (read m) fresh ≡ refuse wrong_shape 0 = fresh_refusal m ∙ ap (λ b. test (not b) wrong_shape 0 ⨾ ok) (sym q ∙ not-true _ n) in
    (ap (λ w. answer_by w (grant (read m) fresh)) (sym r), ap (λ w. unless w m (memory_effect m fresh)) (sym r))

module _ (m : Memory) (a b c d e g h : List ℕ) where
  -- seven tables of zeros, as long as m's
  abbrev pub Cleared : Type 0
  Cleared =
      (a ≡ replicate (length m.id_marks) 0)
      × (b ≡ replicate (length m.locations) 0)
      × (c ≡ replicate (length m.slot_marks) 0)
      × (d ≡ replicate (length m.owners) 0)
      × (e ≡ replicate (length m.batch) 0)
      × (g ≡ replicate (length m.tallies) 0)
      × (h ≡ replicate (length m.carried) 0)

  cleared : fits every_table m ≡ true → Cleared → carrying (memory_of m.ids m.slots a b c d e g) h ≡ memory_rebuilt m.ids m.slots []
  cleared f w =
      let used = ap (λ n. replicate n 0) (fits_tallies every_table m f) ∙ sym (set-get_or {A = ℕ} (replicate tally_words 0) (word_at used_words 0) 0) in
      (λ i. carrying (memory_of m.ids m.slots (w.0 i) (w.1 i) (w.2 i) (w.3 i) (w.4 i) (w.5 i)) (w.6 i))
      ∙ (λ i. carrying (memory_of m.ids m.slots
      (replicate (fits_id_marks every_table m f i) 0)
      (replicate (fits_locations every_table m f i) 0)
      (replicate (fits_slot_marks every_table m f i) 0)
      (replicate (fits_owners every_table m f i) 0)
      (replicate (fits_batch every_table m f i) 0)
      (used i))
      (replicate (fits_carried every_table m f i) 0))

pub fresh_granted : (m : Memory) {f : Bool} {a b c d e g h : List ℕ} → f ≡ fits every_table m → not f ≡ false → Cleared m a b c d e g h
    → (granted done ≡ answer (read m) fresh) × (carrying (memory_of m.ids m.slots a b c d e g) h ≡ memory_after m fresh)
unfolding answer memory_after test ◌⨾◌ grant memory_effect
fresh_granted m {f} {a} {b} {c} {d} {e} {g} {h} q n w =
    let fit : fits every_table m ≡ true = sym q ∙ not-false _ n in
    let r : refusal (read m) fresh ≡ ok = fresh_refusal m ∙ ap (λ b. test (not b) wrong_shape 0 ⨾ ok) fit in (
      ap (λ v. answer_by v done) (sym r),
      cleared m a b c d e g h fit w ∙ ap (λ v. unless v m (memory_rebuilt m.ids m.slots [])) (sym r),
    )

-- ---- rebuild

-- the other tests of a row, and that of its key
module _ (i k : ℕ) where
  abbrev decides : Bool
  decides = ltb i k || (eqb i k && true)

  decides_to : i ≤ k → decides ≡ true
  decides_to h = by_test (ltb i k) (λ p. rw p) (λ p. rw (p, eq-eqb i k (omega (arith, ltb-false i k p))))

  decides_not : k < i → decides ≡ false
  decides_not h = rw (le-ltb i k (omega arith), ne_eqb i k (λ e. omega arith))

module _ (k n : ℕ) where
  abbrev Keyed : Result ⊤ Refusal → Verdict
  Keyed w = earlier (λ n. true) (wrong_verdict w) (test (ltb k n) key_too_long k)

  pub keys_short : (w : Result ⊤ Refusal) → n ≤ k → wrong_verdict w ≡ Keyed w
  unfolding test
  keys_short w h = rw (le-ltb k n h) (earlier_alone (λ n. true) (wrong_verdict w))

  module _ (h : k < n) where
    pub keys_alone : {w : Result ⊤ Refusal} {d : ⊤} → w ≡ Ok d → refuse key_too_long k ≡ Keyed w
    unfolding earlier test
    keys_alone e = rw (e, lt-ltb k n h)

    module _ {w : Result ⊤ Refusal} {r : Refusal} (e : w ≡ Err r) where
      both_refuse : {b : Bool} → decides r.index k ≡ b → cond b (refuse r.kind r.index) (refuse key_too_long k) ≡ Keyed w
      unfolding earlier test
      both_refuse q = rw (e, lt-ltb k n h) (ap (λ b. cond b (refuse r.kind r.index) (refuse key_too_long k)) (sym q))

      pub keys_after : r.index ≤ k → refuse r.kind r.index ≡ Keyed w
      keys_after q = both_refuse (decides_to r.index k q)

      pub keys_before : k < r.index → refuse key_too_long k ≡ Keyed w
      keys_before q = both_refuse (decides_not r.index k q)

-- the memory that it leaves
abbrev rebuilt_memory : Memory → List ℕ → List ℕ → List ℕ → Memory
rebuilt_memory m is ls bs =
    carrying (memory_rebuilt m.ids m.slots (rows_of is ls)) (rebuilt_column m.ids (record { ids = is; locations = ls; carried = bs }))

module _ (m : Memory) (is ls bs a b c d e g h : List ℕ) where
  -- seven tables with the rows, as long as m's
  abbrev pub Written : Type 0
  Written =
      (a ≡ held_by (rows_of is ls) (replicate (length m.id_marks) 0))
      × (b ≡ located_by (rows_of is ls) (replicate (length m.locations) 0))
      × (c ≡ write_all m.slots (locations_of (rows_of is ls)) 1 (replicate (length m.slot_marks) 0))
      × (d ≡ owned_by m.slots (rows_of is ls) (replicate (length m.owners) 0))
      × (e ≡ replicate (length m.batch) 0)
      × (g ≡ use_slots m.slots (put_word (replicate (length m.tallies) 0) used_words 0 (min 1 (length is))) (locations_of (rows_of is ls)))
      × (h ≡ put_rows width is (normal_rows (all_stored is) bs) (replicate (length m.carried) 0))

  written : fits every_table m ≡ true → length ls ≡ length is → Written
      → carrying (memory_of m.ids m.slots a b c d e g) h ≡ rebuilt_memory m is ls bs
  unfolding rebuilt_column
  written f q w =
      (λ i. carrying (memory_of m.ids m.slots (w.0 i) (w.1 i) (w.2 i) (w.3 i) (w.4 i) (w.5 i)) (w.6 i))
      ∙ (λ i. carrying (memory_of m.ids m.slots
      (held_by (rows_of is ls) (replicate (fits_id_marks every_table m f i) 0))
      (located_by (rows_of is ls) (replicate (fits_locations every_table m f i) 0))
      (write_all m.slots (locations_of (rows_of is ls)) 1 (replicate (fits_slot_marks every_table m f i) 0))
      (owned_by m.slots (rows_of is ls) (replicate (fits_owners every_table m f i) 0))
      (replicate (fits_batch every_table m f i) 0)
      (use_slots m.slots (put_word (replicate (fits_tallies every_table m f i) 0) used_words 0 (min 1 (rows_length is ls q i))) (locations_of (rows_of is ls))))
      (put_rows width is (normal_rows (all_stored is) bs) (replicate (fits_carried every_table m f i) 0)))

module _ (m : Memory) (is ls bs : List ℕ) where
  abbrev given : Rows
  given = record { ids = is; locations = ls; carried = bs }

  abbrev call : Call
  call = rebuild given

  -- there are as many locations as ids, and as many bytes as they carry
  abbrev long : Bool
  long = eqb (length ls) (length is) && eqb (length bs) (length is * width)

  abbrev fit : Bool
  fit = fits every_table m && long

  pub no_fit : {f : Bool} → f ≡ fits every_table m → f ≡ false → fit ≡ false
  no_fit q n = ap (λ f. f && long) (sym q ∙ n)

  pub not_long : {f l : Bool} → f ≡ fits every_table m → l ≡ long → f ≡ true → l ≡ false → fit ≡ false
  not_long q r x y = λ i. (sym q ∙ x) i && (sym r ∙ y) i

  pub fit_so : {f l : Bool} → f ≡ fits every_table m → l ≡ long → f ≡ true → l ≡ true → fit ≡ true
  fit_so q r x y = all (sym q ∙ x) (sym r ∙ y)

  rebuild_refusal : {a b : Bool} → fits every_table m ≡ a → long ≡ b
      → refusal (read m) call ≡ (test (not a) wrong_shape 0 ⨾ test (not b) wrong_shape 0 ⨾ with_rebuilt_keys given (rows (read m) [] [] 0 (rows_of is ls)))
  unfolding refusal refusal_of
  rebuild_refusal p q =
      (λ i. shape_read call m i ⨾ test (not long) wrong_shape 0 ⨾ with_rebuilt_keys given (rows (read m) [] [] 0 (rows_of is ls)))
      ∙ (λ i. test (not (p i)) wrong_shape 0 ⨾ test (not (q i)) wrong_shape 0 ⨾ with_rebuilt_keys given (rows (read m) [] [] 0 (rows_of is ls)))

  rebuild_shape : (a b : Bool) → fits every_table m ≡ a → long ≡ b → (a && b) ≡ false → refusal (read m) call ≡ refuse wrong_shape 0
  unfolding test ◌⨾◌
  rebuild_shape false b p q n = rebuild_refusal p q
  rebuild_shape true false p q n = rebuild_refusal p q
  rebuild_shape true true p q n = clash n

  pub rebuild_wrong : fit ≡ false → (refused wrong_shape 0 ≡ answer (read m) call) × (m ≡ memory_after m call)
  unfolding answer memory_after
  rebuild_wrong e =
      let r = rebuild_shape (fits every_table m) long refl refl e in
      (ap (λ w. answer_by w (grant (read m) call)) (sym r), ap (λ w. unless w m (memory_effect m call)) (sym r))

  pub record RowsFit : Type 0 where
    pub shape : fits every_table m ≡ true
    pub good : bad_slots m.slots ≡ false
    pub long_is : length ls ≡ length is
    pub carries : length bs ≡ length is * width

  pub fit_rows : fit ≡ true → RowsFit
  fit_rows e =
      let b = and_true (fits every_table m) long e in
      let l = and_true (eqb (length ls) (length is)) _ b.1 in
      record { shape = b.0; good = (fits_range every_table m b.0).slots_good; long_is = eqb-true _ _ l.0; carries = eqb-true _ _ l.1 }

  -- the first of the rows whose key is too long, as the code finds it
  abbrev pub first_long : ℕ
  first_long = cond (eqb (length bs) (length is * width)) (first_met (long_in (replicate (length is) true) bs)) (length is)

  keys_told : length bs ≡ length is * width → (k : ℕ) → k ≡ first_long
      → tests_from key_too_long 0 (long_in (all_stored is) bs) ≡ test (ltb k (length is)) key_too_long k
  keys_told l k p =
      let s = sym (all_stored_replicate is) in
      let n : length (all_stored is) ≡ length is = length-map is (λ (i : ℕ). true) in
      first_long_lem (all_stored is) bs k
      (p ∙ (λ i. cond (eqb (length bs) (sym n i * width)) (first_met (long_in (s i) bs)) (sym n i)))
      (l ∙ ap (λ x. x * width) (sym n))
      ∙ ap (λ x. test (ltb k x) key_too_long k) n

  module _ (e : fit ≡ true) (v : Result ⊤ Refusal) (c : v ≡ refused_row m.ids m.slots is ls) (k : ℕ) (l : k ≡ first_long)
      (w : Result ⊤ Refusal) (d : wrong_verdict w ≡ earlier (λ n. true) (wrong_verdict v) (test (ltb k (length is)) key_too_long k)) where
    verdict : refusal (read m) call ≡ wrong_verdict w
    unfolding test ◌⨾◌ read
    verdict =
        let b = and_true (fits every_table m) long e in
        let r = fit_rows e in
        let o = sym (verdict_is (read m) is ls (fits_range every_table m b.0).ids_to r.good r.long_is) ∙ ap wrong_verdict (sym c) in
        let t = keys_told r.carries k l in
        rebuild_refusal b.0 b.1 ∙ (λ i. earlier (λ n. true) (o i) (t i)) ∙ sym d

    pub rebuild_refused : {r : Refusal} → w ≡ Err r → (refused r.kind r.index ≡ answer (read m) call) × (m ≡ memory_after m call)
    unfolding answer memory_after
    rebuild_refused q =
        let r = verdict ∙ ap wrong_verdict q in
        (ap (λ v. answer_by v (grant (read m) call)) (sym r), ap (λ v. unless v m (memory_effect m call)) (sym r))

    pub rebuild_granted : {t₁ t₂ t₃ t₄ t₅ t₆ t₇ : List ℕ} {o : ⊤} → w ≡ Ok o → Written m is ls bs t₁ t₂ t₃ t₄ t₅ t₆ t₇
        → (granted done ≡ answer (read m) call) × (carrying (memory_of m.ids m.slots t₁ t₂ t₃ t₄ t₅ t₆) t₇ ≡ memory_after m call)
    unfolding answer memory_after grant memory_effect
    rebuild_granted {t₁} {t₂} {t₃} {t₄} {t₅} {t₆} {t₇} q t =
        let r : refusal (read m) call ≡ ok = verdict ∙ ap wrong_verdict q in
        let s = fit_rows e in (
          ap (λ v. answer_by v done) (sym r),
          written m is ls bs t₁ t₂ t₃ t₄ t₅ t₆ t₇ s.shape s.long_is t ∙ ap (λ v. unless v m (rebuilt_memory m is ls bs)) (sym r),
        )
