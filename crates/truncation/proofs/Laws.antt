-- Laws of truncation and cut report: their tests in terms of lengths and words, the tip of a slab by its own marks, and what both calls
-- answer and write by that tip. Assumes nothing.
use mathlib.Core.Path.{◌≡◌, refl, sym, ap, ◌∙◌}
use mathlib.Core.Bool.{Bool, true, false, not, cond, ◌&&◌, ◌||◌}
use mathlib.Core.List.{List}
use Prim.Native.Nat.{ℕ, zero, suc, ◌+◌, ◌-◌, ◌*◌, ◌/◌, ◌<◌, ◌≤◌, max, pred}
use native.Mathlib.Nat.{mul-le-mul, div-mul-le_self}
use native.Mathlib.Omega.{arith}
use lib.Dec.{leb, ltb}
use lib.ListN.{get_or}
use lib.Seq.{get_or-drop}
use borrow.Author.Tests.{leb-true, leb-false, not-true, not-false, lt-ltb, le-ltb, le-leb, lt-leb}
use Rattle.refusal.specs.Outcomes.{granted, refused}
use Rattle.refusal.specs.Refusals.{wrong_shape, out_of_range, batch_open, ratio_out_of_range, nothing_to_cut}
use Rattle.refusal.specs.declared.Kind.{Kind}
use Rattle.refusal.specs.declared.Refusal.{Refusal}
use Rattle.refusal.proofs.Tests.{clash, and_true, or_false}
use Rattle.address.specs.Address.{slabs, most_slots}
use Rattle.sizes.specs.Sizes.{size_of, slab_sizes}
use Rattle.sizes.proofs.Laws.{all_below_at}
use Rattle.model.specs.Store.{Store, Cut, keep, cut, done, gave, truncated, truncation, report}
use Rattle.model.specs.Tables.{capacities, is_open, slab_tip, allocators}
use Rattle.model.specs.Lending.{slab_tables, lent_fit}
use Rattle.model.specs.Lent.{fits}
use Rattle.model.specs.Tests.{shape}
use Rattle.model.specs.Truncation.{is_target, high_mark, bytes_to, fill, new_length, bytes_given_back, cut_of, cut_at, keeps}
use Rattle.model.specs.Step.{refusal_of, refusal, grant, answer, answer_by, unless, slab_refusal}
use Rattle.model.specs.Memory.{Memory, read, get_word, put_word, high_words}
use Rattle.model.specs.MemoryAfter.{with_words, raise_word, memory_effect, memory_after}
use Rattle.model.specs.Verdict.{Verdict, ok, refuse, ◌⨾◌, test}
use Rattle.model.proofs.Sizes.{shape_read, slab_tip_le}
use Rattle.model.proofs.Granted.{granted_sizes}
use Rattle.model.proofs.Verdicts.{test_ok, first_ok, then_ok, assoc}
use Rattle.truncation.specs.declared.Cut as T
use Rattle.truncation.specs.Truncations.{cut_as}
use Rattle.std.specs.Prelude.{Option, Some, None, is_some}

-- ---- sizes
size_range : ℕ → Bool
size_range k = leb 1 (size_of k) && leb (size_of k) 17179869184

pub size_of_range : (k : ℕ) → k < slabs → (1 ≤ size_of k) × (size_of k ≤ 17179869184)
unfolding size_of slab_sizes size_range
size_of_range k h =
    let b = and_true (leb 1 (size_of k)) (leb (size_of k) 17179869184) (all_below_at size_range slabs k refl h) in
    (leb-true _ _ b.0, leb-true _ _ b.1)

-- the bytes up to a slot fit, and so do 115 times as many
pub bytes_le : (top size : ℕ) → top < most_slots → size ≤ 17179869184 → (top + 1) * size ≤ 1125899906842624
bytes_le top size a b = mul-le-mul {n₂ = most_slots} {m₂ = 17179869184} (omega arith) b

-- and whole slots of what fits
pub whole_lt : (n size most : ℕ) → n < most → n / size * size < most
whole_lt n size most h = omega (arith, div-mul-le_self n size)

-- ---- what becomes of a file
pub cut_at_zero : (k high t tip : ℕ) → tip ≡ 0 → keep ≡ cut_at k high t tip
unfolding cut_at
cut_at_zero k high t tip e = ap (cut_at k high t) (sym e)

module _ (k high t tip size top most : ℕ) (h : tip ≡ 0 → ⊥) (s : size ≡ size_of k) (p : top ≡ tip - 1) (q : most ≡ max high top) where
  cut_at_top : cut_of size top most t ≡ cut_at k high t tip
  unfolding cut_at
  cut_at_top = (λ i. cut_of (s i) (p i) ((q ∙ ap (max high) p) i) t) ∙ by tip h
    where
      by : (n : ℕ) → (n ≡ 0 → ⊥) → cut_of (size_of k) (n - 1) (max high (n - 1)) t ≡ cut_at k high t n
      by zero h = absurd (h refl)
      by (suc n) h = let e : suc n - 1 ≡ n = omega arith in ap (λ x. cut_of (size_of k) x (max high x) t) e

  -- enough in use; nothing left to cut; a cut
  pub cut_at_full : ltb (fill size top most) t ≡ false → keep ≡ cut_at k high t tip
  cut_at_full e = ap (λ b. cond (b && ltb (new_length size top) (bytes_to size most)) (cut (new_length size top) (bytes_given_back size top most)) keep) (sym e) ∙ cut_at_top

  module _ (e : ltb (fill size top most) t ≡ true) (before length : ℕ) (u : before ≡ bytes_to size most) (v : length ≡ new_length size top) where
    pub cut_at_nothing : before ≤ length → keep ≡ cut_at k high t tip
    cut_at_nothing l =
        let f : ltb (new_length size top) (bytes_to size most) ≡ false = le-ltb (new_length size top) (bytes_to size most) (omega (arith, u, v, l)) in
        (λ i. cond (sym e i && sym f i) (cut (new_length size top) (bytes_given_back size top most)) keep) ∙ cut_at_top

    pub cut_at_less : length < before → cut length (before - length) ≡ cut_at k high t tip
    cut_at_less l =
        let f : ltb (new_length size top) (bytes_to size most) ≡ true = lt-ltb (new_length size top) (bytes_to size most) (omega (arith, u, v, l)) in
        (λ i. cut (v i) (u i - v i)) ∙ (λ i. cond (sym e i && sym f i) (cut (new_length size top) (bytes_given_back size top most)) keep) ∙ cut_at_top

-- a file that is cut has a slot in use
pub cut_at_tip : (k high t tip : ℕ) → keeps (cut_at k high t tip) ≡ false → 0 < tip
unfolding cut_at
cut_at_tip k high t zero e = let z : ◌≡◌ {A = ℕ} 0 1 = cc in omega arith
cut_at_tip k high t (suc top) e = omega arith

-- whether there is no cut tells whether it is kept
pub is_kept : (c : Cut) (r : Option T.Cut) (none : Bool) → is_some r ≡ not none → cut_as r ≡ c → keeps c ≡ none
is_kept c None true p e = ap keeps (sym e)
is_kept c None false p e = clash (sym p)
is_kept c (Some x) true p e = clash p
is_kept c (Some x) false p e = ap keeps (sym e)

-- ---- the high mark
raise_word_top : (g : List ℕ) (k tip : ℕ) → (tip ≡ 0 → ⊥) → raise_word g k tip ≡ put_word g high_words k (max (get_word g high_words k) (tip - 1))
raise_word_top g k zero h = absurd (h refl)
raise_word_top g k (suc top) h = let e : top ≡ suc top - 1 = omega arith in ap (λ x. put_word g high_words k (max (get_word g high_words k) x)) e

-- the word that is read, the larger of it and the top, and the words with that
pub raised : (g after : List ℕ) (k tip high top : ℕ) → (tip ≡ 0 → ⊥) → high ≡ get_word g high_words k → top ≡ max high (tip - 1) → after ≡ put_word g high_words k top
    → after ≡ raise_word g k tip
raised g after k tip high top h p q r = r ∙ ap (put_word g high_words k) (q ∙ ap (λ x. max x (tip - 1)) p) ∙ sym (raise_word_top g k tip h)

pub raise_word_zero : (g : List ℕ) (k tip : ℕ) → tip ≡ 0 → raise_word g k tip ≡ g
raise_word_zero g k tip e = ap (raise_word g k) e

-- ---- what is read
module _ (m : Memory) (k : ℕ) where
  pub high_read : high_mark (read m) k ≡ get_word m.tallies high_words k
  unfolding read
  high_read = get_or-drop (high_words * allocators) m.tallies k 0

  -- the tests, on lengths and words
  pub asking_read : (t : ℕ) → refusal (read m) (truncation k t)
      ≡ (test (not (fits slab_tables m)) wrong_shape 0 ⨾ test (ltb 0 (get_or m.batch 0 0)) batch_open 0 ⨾
      test (leb slabs k || leb m.slots (get_word m.tallies high_words k)) out_of_range 0 ⨾ test (not (is_target t)) ratio_out_of_range 0)
  unfolding refusal refusal_of read
  asking_read t = λ i.
      shape_read (truncation k t) m i ⨾ test (ltb 0 (get_or m.batch 0 0)) batch_open 0 ⨾
      test (leb slabs k || leb m.slots (high_read i)) out_of_range 0 ⨾ test (not (is_target t)) ratio_out_of_range 0

  -- ---- one test after another: what each answers, once those before it are passed
  module _ (t : ℕ) where
    pub ask_refused : (r : Refusal) (n : Kind) → r ≡ record { kind = n; index = 0 } → refusal (read m) (truncation k t) ≡ refuse n 0
        → refused r.kind r.index ≡ answer_by (refusal (read m) (truncation k t)) (gave (slab_tip (read m) k))
    ask_refused r n p e = (λ i. refused (p i).kind (p i).index) ∙ sym (ap (λ v. answer_by v (gave (slab_tip (read m) k))) e)

    pub ask_tip : (tip : ℕ) → tip ≡ slab_tip (read m) k → refusal (read m) (truncation k t) ≡ ok → granted (gave tip) ≡ answer_by (refusal (read m) (truncation k t)) (gave (slab_tip (read m) k))
    ask_tip tip p e = ap (λ x. granted (gave x)) p ∙ sym (ap (λ v. answer_by v (gave (slab_tip (read m) k))) e)

    pub ask_shape : (f : Bool) → f ≡ fits slab_tables m → not f ≡ true → refusal (read m) (truncation k t) ≡ refuse wrong_shape 0
    unfolding test ◌⨾◌
    ask_shape f p h = asking_read t ∙ simp (sym p ∙ not-true f h)

    module _ (fit : fits slab_tables m ≡ true) where
      pub ask_open : (w : ℕ) → w ≡ get_or m.batch 0 0 → (w ≡ 0 → ⊥) → refusal (read m) (truncation k t) ≡ refuse batch_open 0
      unfolding test ◌⨾◌
      ask_open w p h = let kept : 0 < get_or m.batch 0 0 = omega (arith, p, h) in asking_read t ∙ simp (fit, lt-ltb _ _ kept)

      module _ (w : ℕ) (p : w ≡ get_or m.batch 0 0) (z : w ≡ 0) where
        shut : ltb 0 (get_or m.batch 0 0) ≡ false
        shut = le-ltb 0 (get_or m.batch 0 0) (omega (arith, p, z))

        pub ask_slab : slabs ≤ k → refusal (read m) (truncation k t) ≡ refuse out_of_range 0
        unfolding test ◌⨾◌
        ask_slab h = asking_read t ∙ simp (fit, shut, le-leb slabs k h)

        module _ (below : k < slabs) (high : ℕ) (q : high ≡ get_word m.tallies high_words k) where
          pub ask_high : m.slots ≤ high → refusal (read m) (truncation k t) ≡ refuse out_of_range 0
          unfolding test ◌⨾◌
          ask_high h = let past : m.slots ≤ get_word m.tallies high_words k = omega (arith, q, h) in asking_read t ∙ simp (fit, shut, lt-leb slabs k below, le-leb _ _ past)

          module _ (h : high < m.slots) (g : Bool) (r : g ≡ is_target t) where
            low : leb m.slots (get_word m.tallies high_words k) ≡ false
            low = lt-leb m.slots (get_word m.tallies high_words k) (omega (arith, q, h))

            pub ask_target : not g ≡ true → refusal (read m) (truncation k t) ≡ refuse ratio_out_of_range 0
            unfolding test ◌⨾◌
            ask_target e = asking_read t ∙ simp (fit, shut, lt-leb slabs k below, low, sym r ∙ not-true g e)

            pub ask_fine : not g ≡ false → refusal (read m) (truncation k t) ≡ ok
            unfolding test ◌⨾◌
            ask_fine e = asking_read t ∙ simp (fit, shut, lt-leb slabs k below, low, sym r ∙ not-false g e)

-- a report asks the same first
report_is : (m : Memory) (k t : ℕ) → refusal (read m) (report k t)
    ≡ (refusal (read m) (truncation k t) ⨾ test (keeps (cut_at k (high_mark (read m) k) t (slab_tip (read m) k))) nothing_to_cut 0)
unfolding refusal refusal_of
report_is m k t = assoc (shape (read m) (truncation k t)) (slab_refusal (read m) k t) _

-- ---- a slab that may be asked for

-- what a granted question knows
pub record Passed (s : Store) (k t : ℕ) : Type 0 where
  pub fit : (capacities s.ids s.slots && lent_fit slab_tables s) ≡ true
  pub shut : is_open s ≡ false
  pub slab : leb slabs k ≡ false
  pub mark : leb s.slots (high_mark s k) ≡ false
  pub target : is_target t ≡ true

pub passed : (s : Store) (k t : ℕ) → refusal s (truncation k t) ≡ ok → Passed s k t
unfolding refusal refusal_of
passed s k t e =
    let r = then_ok _ _ e in
    let q = then_ok _ _ r in
    let o = or_false (leb slabs k) (leb s.slots (high_mark s k)) (test_ok _ _ _ (first_ok _ _ q)) in
    record {
      fit = not-false _ (test_ok _ _ _ (first_ok _ _ e));
      shut = test_ok _ _ _ (first_ok _ _ r);
      slab = o.0;
      mark = o.1;
      target = not-false _ (test_ok _ _ _ (then_ok _ _ q));
    }

pub record AskedTip (m : Memory) (k t tip : ℕ) : Type 0 where
  pub fine : refusal (read m) (truncation k t) ≡ ok
  pub is : tip ≡ slab_tip (read m) k
  pub slab : k < slabs
  pub high : get_word m.tallies high_words k < most_slots
  pub small : tip ≤ most_slots

pub asked_tip : (m : Memory) (k t tip : ℕ) → granted (gave tip) ≡ answer_by (refusal (read m) (truncation k t)) (gave (slab_tip (read m) k)) → AskedTip m k t tip
unfolding read
asked_tip m k t tip e = go (refusal (read m) (truncation k t)) refl e
  where
    go : (v : Verdict) → refusal (read m) (truncation k t) ≡ v → granted (gave tip) ≡ answer_by v (gave (slab_tip (read m) k)) → AskedTip m k t tip
    go ok p e =
        let q = passed (read m) k t p in
        let r = (granted_sizes (read m) (truncation k t) p).range in
        let is : tip ≡ slab_tip (read m) k = cc in
        record {
          fine = p;
          is = is;
          slab = leb-false slabs k q.slab;
          high = omega (arith, leb-false m.slots (high_mark (read m) k) q.mark, high_read m k, r.slots_to);
          small = omega (arith, slab_tip_le (read m) r.slots_from k, r.slots_to);
        }
    go (refuse n i) p e = let z : ◌≡◌ {A = ℕ} 0 1 = cc in absurd (omega arith)

module _ (m : Memory) (k t tip : ℕ) (a : AskedTip m k t tip) where
  abbrev g : List ℕ
  g = m.tallies

  -- by the words: what becomes of the slab's file
  abbrev pub becomes : Cut
  becomes = cut_at k (get_word g high_words k) t tip

  cut_read : cut_at k (high_mark (read m) k) t (slab_tip (read m) k) ≡ becomes
  cut_read = λ i. cut_at k (high_read m k i) t (sym a.is i)

  pub truncation_answer : answer (read m) (truncation k t) ≡ granted (truncated becomes)
  unfolding answer grant
  truncation_answer = λ i. answer_by (a.fine i) (truncated (cut_read i))

  pub truncation_after : memory_after m (truncation k t) ≡ with_words m (raise_word g k tip)
  unfolding memory_after memory_effect
  truncation_after = λ i. unless (a.fine i) m (with_words m (raise_word g k (sym a.is i)))

  report_refusal : refusal (read m) (report k t) ≡ test (keeps becomes) nothing_to_cut 0
  unfolding ◌⨾◌
  report_refusal = report_is m k t ∙ λ i. a.fine i ⨾ test (keeps (cut_read i)) nothing_to_cut 0

  pub report_keep : keeps becomes ≡ true → (answer (read m) (report k t) ≡ refused nothing_to_cut 0) × (memory_after m (report k t) ≡ m)
  unfolding answer memory_after test
  report_keep e =
      let r : refusal (read m) (report k t) ≡ refuse nothing_to_cut 0 = report_refusal ∙ ap (λ b. test b nothing_to_cut 0) e in
      ((λ i. answer_by (r i) (grant (read m) (report k t))), λ i. unless (r i) m (memory_effect m (report k t)))

  pub report_cut : keeps becomes ≡ false → (answer (read m) (report k t) ≡ granted done) × (memory_after m (report k t) ≡ with_words m (put_word g high_words k (tip - 1)))
  unfolding answer memory_after memory_effect grant test
  report_cut e =
      let r : refusal (read m) (report k t) ≡ ok = report_refusal ∙ ap (λ b. test b nothing_to_cut 0) e in
      let p : pred (slab_tip (read m) k) ≡ tip - 1 = ap pred (sym a.is) ∙ omega arith in
      ((λ i. answer_by (r i) done), λ i. unless (r i) m (with_words m (put_word g high_words k (p i))))

-- ---- one that may not
pub asked_refused : (m : Memory) (k t : ℕ) (n : Kind) (i : ℕ) → refused n i ≡ answer_by (refusal (read m) (truncation k t)) (gave (slab_tip (read m) k)) → refusal (read m) (truncation k t) ≡ refuse n i
asked_refused m k t n i e = go (refusal (read m) (truncation k t)) e
  where
    go : (v : Verdict) → refused n i ≡ answer_by v (gave (slab_tip (read m) k)) → v ≡ refuse n i
    go ok e = let z : ◌≡◌ {A = ℕ} 0 1 = cc in absurd (omega arith)
    go (refuse a b) e = let p : a ≡ n = cc in let q : b ≡ i = cc in λ j. refuse (p j) (q j)

module _ (m : Memory) (k t : ℕ) (n : Kind) (i : ℕ) (r : refusal (read m) (truncation k t) ≡ refuse n i) where
  pub truncation_refused : (answer (read m) (truncation k t) ≡ refused n i) × (memory_after m (truncation k t) ≡ m)
  unfolding answer memory_after
  truncation_refused = ((λ j. answer_by (r j) (grant (read m) (truncation k t))), λ j. unless (r j) m (memory_effect m (truncation k t)))

  pub report_refused : (answer (read m) (report k t) ≡ refused n i) × (memory_after m (report k t) ≡ m)
  unfolding answer memory_after ◌⨾◌
  report_refused =
      let q : refusal (read m) (report k t) ≡ refuse n i = report_is m k t ∙ λ j. r j ⨾ test (keeps (cut_at k (high_mark (read m) k) t (slab_tip (read m) k))) nothing_to_cut 0 in
      ((λ j. answer_by (q j) (grant (read m) (report k t))), λ j. unless (q j) m (memory_effect m (report k t)))
