-- A lookup in what the code reads: its lengths, then one id, one location and one row. Assumes nothing.
use mathlib.Core.Bool.{Bool, true, false, not, cond, ◌&&◌, ◌||◌}
use mathlib.Core.List.{List, [], ◌++◌, append-nil}
use mathlib.Core.Path.{◌≡◌, refl, sym, ap, ◌∙◌}
use Prim.Native.Nat.{ℕ, ◌+◌, ◌-◌, ◌*◌, ◌≤◌, ◌<◌}
use native.Mathlib.Nat.{zero-mul}
use native.Mathlib.Omega.{arith}
use lib.Dec.{eqb, ltb}
use lib.ListN.{length, get_or, take, drop}
use lib.Seq.{drop-length}
use borrow.Author.Tests.{not-false, eqb-true, ltb-true, ne_eqb}
use Rattle.refusal.specs.declared.Kind.{Kind}
use Rattle.refusal.specs.Outcomes.{granted, refused}
use Rattle.refusal.specs.Refusals.{refusal, wrong_shape, no_such_id, tables_disagree}
use Rattle.refusal.specs.declared.Refusal.{Refusal}
use Rattle.refusal.proofs.Tests.{and_true, or_false, by_test}
use Rattle.list_parts.specs.Parts.{part}
use Rattle.list_parts.proofs.Parts.{part_end, part_range, length_part_full}
use Rattle.address.specs.Address.{bad_slots, slabs, unpacked}
use Rattle.address.specs.declared.SlabAddress.{SlabAddress}
use Rattle.address.proofs.Laws.{slots_range, unpacked_at}
use Rattle.marks.specs.Marks.{is_held}
use Rattle.id_allocator.specs.Counted.{counted}
use Rattle.carried.specs.Carried.{width, row_in, put_row}
use Rattle.carried.proofs.Laws.{row_in_part, put_row_done}
use Rattle.model.specs.Lending.{row_tables}
use Rattle.model.specs.Lent.{fits}
use Rattle.model.specs.Memory.{Memory, get_word, hint_words, waiting_words, counted_by, read}
use Rattle.model.specs.Outcomes.{over, list_in}
use Rattle.model.specs.Questions.{unfound, ask_refusal, reply}
use Rattle.model.specs.Step as S
use Rattle.model.specs.Step.{answer, answer_by, refusal_of, grant}
use Rattle.model.specs.Store.{Call, ask, lookup, found, Answer}
use Rattle.model.specs.Tables.{most_updates}
use Rattle.model.specs.Tests.{lists}
use Rattle.model.specs.Verdict.{Verdict, ok, refuse, test, ◌⨾◌}
use Rattle.model.proofs.Sizes.{shape_read, fits_range, fits_slot_marks, fits_carried}
use Rattle.model.proofs.Verdicts.{test_ok, first_ok, tests_join}
use Rattle.tables.specs.Entries.{held_in, slab_part, owns_in}
use Rattle.tables.proofs.LawsEntries.{slab_part_is, held_in_read, bad_in_none, bad_in_at, bad_in_read}
use Rattle.lookup.specs.Lookup.{looked_answer, located_as, looked_in}
use Rattle.std.specs.Prelude.{Result, Ok, Err, Option, Some}

-- ---- what the tests tell
pub held_in_lt : (ids : ℕ) (marks words : _) (i : ℕ) → held_in ids marks words i ≡ true → i < ids
unfolding held_in
held_in_lt ids marks words i e =
    let a = and_true (ltb 0 i && ltb i ids) _ e in
    ltb-true i ids (and_true (ltb 0 i) _ a.0).1

located_as_location : (v : Verdict) (p l : ℕ) → located_as v p ≡ Ok l → (v ≡ ok) × (l ≡ p)
located_as_location ok p l e = let q : p ≡ l = cc in (refl, sym q)
located_as_location (refuse k i) p l e = (cc, cc)

located_as_refused : (v : Verdict) (p : ℕ) (r : Refusal) → located_as v p ≡ Err r → v ≡ refuse r.kind r.index
located_as_refused ok p r e = cc
located_as_refused (refuse k i) p r e =
    let q : refusal k i ≡ r = cc in
    ap (λ (x : Refusal). refuse x.kind x.index) q

-- ---- the slot of an address

pub slab_within : (slab slots : ℕ) → slab < slabs → bad_slots slots ≡ false → (slab * slots + slots ≤ slabs * slots) × (slabs * slots ≤ slabs * 65536)
slab_within slab slots h e = (part_end slots slabs slab h, omega (arith, (slots_range slots e).1))

module _ (slots : ℕ) (marks owners words : List ℕ) (i : ℕ) (a : SlabAddress) (h : a.slab < slabs) (c : bad_slots slots ≡ false) where
  abbrev Held : Bool
  Held = is_held (get_or (counted_by words (a.slab + 1) (slab_part slots marks a.slab)) a.slot 0)

  -- the marks of its slab, by their hint and waiting word
  module _ (held : Bool) (hint waiting : ℕ) (eh : hint ≡ get_word words hint_words (a.slab + 1)) (ew : waiting ≡ get_word words waiting_words (a.slab + 1))
      (e : held ≡ is_held (get_or (counted hint waiting (take (a.slab * slots + slots - a.slab * slots) (drop (a.slab * slots) marks))) a.slot 0)) where
    held_is : held ≡ Held
    held_is =
        e ∙ (λ k. is_held (get_or (counted (eh k) (ew k) (part_range slots marks a.slab k)) a.slot 0))
        ∙ ap (λ (t : List ℕ). is_held (get_or (counted_by words (a.slab + 1) t) a.slot 0)) (sym (slab_part_is slots a.slab marks h c))

    pub owns_free : held ≡ false → false ≡ owns_in slots marks owners words i a
    owns_free f = ap (λ b. b && eqb (get_or owners (a.slab * slots + a.slot) 0) i) (sym (sym held_is ∙ f))

    pub owns_held : held ≡ true → eqb (get_or owners (a.slab * slots + a.slot) 0) i ≡ owns_in slots marks owners words i a
    owns_held f = ap (λ b. b && eqb (get_or owners (a.slab * slots + a.slot) 0) i) (sym (sym held_is ∙ f))

-- ---- one id, by what its location unpacks to
module _ (ids slots : ℕ) (id_marks locations slot_marks owners words : List ℕ) (i : ℕ) where
  abbrev l : ℕ
  l = get_or locations i 0

  abbrev pub Located : Result ℕ Refusal → Type 0
  Located r = r ≡ located_as (looked_in ids slots id_marks locations slot_marks owners words i) l

  pub located_free : held_in ids id_marks words i ≡ false → Located (Err (refusal no_such_id 0))
  unfolding looked_in test ◌⨾◌
  located_free h = simp h

  module _ (h : held_in ids id_marks words i ≡ true) where
    -- no address: zero is no object, any other number contradicts the tables
    pub located_none : (u : Result (Option SlabAddress) Refusal) → u ≡ unpacked slots l → ((a : SlabAddress) → u ≡ Ok (Some a) → ⊥)
        → Located (Err (refusal (cond (eqb l 0) no_such_id tables_disagree) 0))
    unfolding looked_in test ◌⨾◌
    located_none u e k =
        let bad = bad_in_none slots slot_marks owners words i l u e k in
        by_test (eqb l 0) (λ z. simp (h, z)) (λ z. simp (h, z, bad))

    -- an address: its slot is held and the id its owner, or the tables contradict each other
    module _ (a : SlabAddress) (e : unpacked slots l ≡ Ok (Some a)) where
      stored : eqb l 0 ≡ false
      stored = ne_eqb l 0 (λ (q : l ≡ 0). omega (arith, (unpacked_at slots l a e).whole))

      pub located_own : owns_in slots slot_marks owners words i a ≡ true → Located (Ok l)
      unfolding looked_in test ◌⨾◌
      located_own o = simp (h, stored, bad_in_at slots slot_marks owners words i l a e, o)

      pub located_other : owns_in slots slot_marks owners words i a ≡ false → Located (Err (refusal tables_disagree 0))
      unfolding looked_in test ◌⨾◌
      located_other o = simp (h, stored, bad_in_at slots slot_marks owners words i l a e, o)

-- ---- one id of tables that fit
abbrev pub looked_at : Memory → ℕ → Verdict
looked_at m i = looked_in m.ids m.slots m.id_marks m.locations m.slot_marks m.owners m.tallies i

module _ (m : Memory) (f : fits row_tables m ≡ true) (i : ℕ) where
  pub unfound_read : unfound (read m) i ≡ looked_at m i
  unfolding looked_in read
  unfound_read =
      let l = get_or m.locations i 0 in
      λ k. test (not (held_in_read m i k) || eqb l 0) no_such_id 0
      ⨾ test (sym (bad_in_read m i l (fits_range row_tables m f).slots_good (fits_slot_marks row_tables m f)) k) tables_disagree 0

  found_below : looked_at m i ≡ ok → i < m.ids
  unfolding looked_in
  found_below o = held_in_lt m.ids m.id_marks m.tallies i (not-false _ (or_false _ _ (test_ok _ _ _ (first_ok _ _ o))).0)

  -- the row of an id that is found is in the column
  pub found_within : looked_at m i ≡ ok → i * width + width ≤ length m.carried
  found_within o = let low = found_below o in rw (fits_carried row_tables m f) (part_end width (m.ids + most_updates) i (omega arith))

-- ---- a row written over one of its length
pub over_whole : (xs t : List ℕ) → length xs ≡ length t → over xs t ≡ xs
over_whole xs t e = ap (λ n. xs ++ drop n t) e ∙ ap (λ (x : List ℕ). xs ++ x) (drop-length t) ∙ append-nil xs

put_row_whole : (w : ℕ) (t r : List ℕ) → length t ≡ w → length r ≡ w → put_row w t 0 r ≡ r
put_row_whole w t r lt lr =
    let z : 0 * w ≡ 0 = zero-mul w in
    let h : 0 * w + w ≤ length t = omega (arith, z, lt) in
    let d : drop w t ≡ [] = ap (λ n. drop n t) (sym lt) ∙ drop-length t in
    put_row_done w t 0 r h lr ∙ rw (z, d) (append-nil r)

-- ---- the refusal
module _ (m : Memory) (i : ℕ) (row : List ℕ) where
  abbrev asked : Call
  asked = ask (lookup i row)

  abbrev pub Fits : Type 0
  Fits = (fits row_tables m && eqb (length row) width) ≡ true

  abbrev Said : Verdict
  Said = looked_at m i

  lookup_refusal : S.refusal (read m) asked ≡ (test (not (fits row_tables m && eqb (length row) width)) wrong_shape 0 ⨾ unfound (read m) i)
  unfolding S.refusal refusal_of ask_refusal
  lookup_refusal =
      (λ k. shape_read asked m k ⨾ lists (eqb (length row) width) ⨾ unfound (read m) i)
      ∙ tests_join (fits row_tables m) (eqb (length row) width) wrong_shape 0 (unfound (read m) i)

  -- refusal 1
  lookup_shape : (fits row_tables m && eqb (length row) width) ≡ false → S.refusal (read m) asked ≡ refuse wrong_shape 0
  unfolding test ◌⨾◌
  lookup_shape e = lookup_refusal ∙ ap (λ b. test (not b) wrong_shape 0 ⨾ unfound (read m) i) e

  -- the others
  lookup_rest : Fits → S.refusal (read m) asked ≡ Said
  unfolding test ◌⨾◌
  lookup_rest e = lookup_refusal ∙ ap (λ b. test (not b) wrong_shape 0 ⨾ unfound (read m) i) e ∙ unfound_read m (and_true (fits row_tables m) _ e).0 i

  -- ---- the answer, and the lent row
  abbrev pub Answers : Result ℕ Refusal → List ℕ → Type 0
  Answers r shown = (looked_answer r shown ≡ answer (read m) asked) × (shown ≡ list_in 0 (answer (read m) asked) row)

  refused_answer : (n : Kind) (k : ℕ) → S.refusal (read m) asked ≡ refuse n k → answer (read m) asked ≡ refused n k
  unfolding answer
  refused_answer n k e = ap (λ v. answer_by v (grant (read m) asked)) e

  refused_leaves : (n : Kind) (k : ℕ) → S.refusal (read m) asked ≡ refuse n k → Answers (Err (refusal n k)) row
  refused_leaves n k e =
      let a = refused_answer n k e in
      (sym a, sym (ap (λ (x : Answer). list_in 0 x row) a))

  pub answers_shape : (fits row_tables m && eqb (length row) width) ≡ false → Answers (Err (refusal wrong_shape 0)) row
  answers_shape e = refused_leaves wrong_shape 0 (lookup_shape e)

  module _ (f : Fits) (looked : Result ℕ Refusal) (e : looked ≡ located_as Said (get_or m.locations i 0)) where
    pub answers_refused : (r : Refusal) → looked ≡ Err r → Answers (Err r) row
    answers_refused r q = refused_leaves r.kind r.index (lookup_rest f ∙ located_as_refused Said _ r (sym e ∙ q))

    granted_answer : Said ≡ ok → answer (read m) asked ≡ granted (found (get_or m.locations i 0) (part width m.carried i))
    unfolding answer grant reply read
    granted_answer o = ap (λ v. answer_by v (grant (read m) asked)) (lookup_rest f ∙ o)

    -- the id's row is in the column, and the lent one takes it whole
    found_row : Said ≡ ok → (length (part width m.carried i) ≡ length row) × (put_row width row 0 (row_in width m.carried i) ≡ part width m.carried i)
    found_row o =
        let a = and_true (fits row_tables m) _ f in
        let lr : length row ≡ width = eqb-true _ _ a.1 in
        let b = found_within m a.0 i o in
        let lp = length_part_full width m.carried i b in
        (lp ∙ sym lr, ap (put_row width row 0) (row_in_part width m.carried i b) ∙ put_row_whole width row _ lr lp)

    pub answers_found : (location : ℕ) (shown : List ℕ) → looked ≡ Ok location → shown ≡ put_row width row 0 (row_in width m.carried i) → Answers (Ok location) shown
    answers_found location shown q p =
        let z = located_as_location Said _ location (sym e ∙ q) in
        let g = granted_answer z.0 in
        let w = found_row z.0 in
        let s = p ∙ w.1 in
        ((λ k. granted (found (z.1 k) (s k))) ∙ sym g, s ∙ sym (ap (λ (x : Answer). list_in 0 x row) g ∙ over_whole _ row w.0))
