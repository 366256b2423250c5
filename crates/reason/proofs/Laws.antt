-- A reason in what the code reads: the object of an id, then its slab, then the slot beside the line. Assumes nothing.
use mathlib.Core.Bool.{Bool, true, false, not, cond, ◌&&◌}
use mathlib.Core.List.{List}
use mathlib.Core.Path.{◌≡◌, refl, sym, ap, ◌∙◌}
use Prim.Native.Nat.{ℕ, suc, ◌+◌, ◌/◌, ◌%◌, ◌≤◌, ◌<◌, pred}
use native.Mathlib.Numerals.{add-one}
use native.Mathlib.Omega.{arith}
use lib.Dec.{eqb, ltb}
use lib.ListN.{get_or, take}
use lib.Ieee.{Float}
use borrow.Author.Tests.{ne_eqb, lt-ltb, le-ltb}
use Rattle.refusal.specs.Outcomes.{granted, refused_as}
use Rattle.refusal.specs.Refusals.{refusal, wrong_shape, batch_open, tables_disagree, ratio_out_of_range}
use Rattle.refusal.specs.declared.Kind.{Kind}
use Rattle.refusal.specs.declared.Refusal.{Refusal}
use Rattle.refusal.proofs.Tests.{by_test}
use Rattle.list_parts.specs.Parts.{part}
use Rattle.address.specs.Address.{unit, packing, unpacked, slabs, most_slots}
use Rattle.address.specs.declared.SlabAddress.{SlabAddress}
use Rattle.address.proofs.Laws.{unpacked_at}
use Rattle.marks.specs.Marks.{count_if, is_taken, tip}
use Rattle.marks.proofs.LawsCount.{live_le_tip}
use Rattle.id_allocator.specs.Counted.{hinted}
use Rattle.fragmentation.specs.Cutoff.{is_ratio, cutoff}
use Rattle.fragmentation.specs.Answer.{cutoff_of}
use Rattle.model.specs.Lending.{reason_tables}
use Rattle.model.specs.Lent.{fits}
use Rattle.model.specs.Memory.{Memory, read, get_word, hint_words, used_words}
use Rattle.model.specs.Questions.{ask_refusal, reply}
use Rattle.model.specs.Reasons.{smaller_slots, standing, standing_at, reason_for, reason_of}
use Rattle.model.specs.Snapshots.{is_stored}
use Rattle.model.specs.Step as S
use Rattle.model.specs.Step.{answer, answer_by, refusal_of, grant}
use Rattle.model.specs.Store as M
use Rattle.model.specs.Store.{Call, ask, why, not_stored, because, Answer}
use Rattle.model.specs.Tables.{slab_tip, live, bad_location}
use Rattle.model.specs.Verdict.{refuse, test, ◌⨾◌}
use Rattle.model.proofs.Granted.{refused_shape, fits_rest}
use Rattle.model.proofs.Sizes.{fits_range, fits_slot_marks, slab_tip_le}
use Rattle.tables.specs.Entries.{held_in, slab_part, owns_in, bad_by}
use Rattle.tables.proofs.LawsEntries.{bad_in_read, slab_part_is, else_is}
use Rattle.tables.proofs.LawsSlabs.{live_read, smaller_read, tip_read}
use Rattle.reason.specs.Reasons.{standing_as, reason_answer}
use Rattle.reason.specs.Read.{without_address, owned_by, object_in, standing_in, by_cutoff, reason_in}
use Rattle.reason.specs.declared.Standing.{Standing}
use Rattle.reason.specs.declared.Reason.{Reason}
use Rattle.reason.specs.declared.Reason.TheVariants as R
use Rattle.std.specs.Prelude.{Result, Ok, Err, Option, Some, None}

-- ---- the object of an id, by what its location unpacks to
module _ (ids slots : ℕ) (id_marks locations slot_marks owners words : List ℕ) (i : ℕ) where
  abbrev l : ℕ
  l = get_or locations i 0

  abbrev pub Object : Result (Option SlabAddress) Refusal → Type 0
  Object u = u ≡ object_in ids slots id_marks locations slot_marks owners words i

  pub object_free : held_in ids id_marks words i ≡ false → Object (Ok None)
  unfolding object_in
  object_free h = simp h

  module _ (h : held_in ids id_marks words i ≡ true) where
    held : object_in ids slots id_marks locations slot_marks owners words i ≡ owned_by slots slot_marks owners words i l (unpacked slots l)
    unfolding object_in
    held = ap (λ b. cond b (owned_by slots slot_marks owners words i l (unpacked slots l)) (Ok None)) h

    pub object_none : (u : Result (Option SlabAddress) Refusal) → u ≡ unpacked slots l → ((a : SlabAddress) → u ≡ Ok (Some a) → ⊥) → Object (without_address l)
    object_none u e k =
        sym (held ∙ ap (owned_by slots slot_marks owners words i l) (sym e)
        ∙ else_is (owned_by slots slot_marks owners words i l) (without_address l) refl (λ r. refl) u k)

    module _ (a : SlabAddress) (e : unpacked slots l ≡ Ok (Some a)) where
      at : object_in ids slots id_marks locations slot_marks owners words i ≡ cond (owns_in slots slot_marks owners words i a) (Ok (Some a)) (Err (refusal tables_disagree 0))
      at = held ∙ ap (owned_by slots slot_marks owners words i l) e

      pub object_own : owns_in slots slot_marks owners words i a ≡ true → Object (Ok (Some a))
      object_own o = sym (at ∙ ap (λ b. cond b (Ok (Some a)) (Err (refusal tables_disagree 0))) o)

      pub object_other : owns_in slots slot_marks owners words i a ≡ false → Object (Err (refusal tables_disagree 0))
      object_other o = sym (at ∙ ap (λ b. cond b (Ok (Some a)) (Err (refusal tables_disagree 0))) o)

-- an object's address is in range
pub object_at : (ids slots : ℕ) (id_marks locations slot_marks owners words : List ℕ) (i : ℕ) (a : SlabAddress)
    → object_in ids slots id_marks locations slot_marks owners words i ≡ Ok (Some a) → unpacked slots (get_or locations i 0) ≡ Ok (Some a)
unfolding object_in
object_at ids slots id_marks locations slot_marks owners words i a = go (held_in ids id_marks words i) (unpacked slots (get_or locations i 0))
  where
    none : {A : Type 0} → ◌≡◌ {A = Result (Option SlabAddress) Refusal} (Ok None) (Ok (Some a)) → A
    none e = let z : ◌≡◌ {A = ℕ} 0 1 = cc in absurd (omega arith)

    wrong : {A : Type 0} → Err (refusal tables_disagree 0) ≡ Ok (Some a) → A
    wrong e = let z : ◌≡◌ {A = ℕ} 0 1 = cc in absurd (omega arith)

    without : (b : Bool) {A : Type 0} → cond b (Ok None) (Err (refusal tables_disagree 0)) ≡ Ok (Some a) → A
    without true e = none e
    without false e = wrong e

    own : (b : Bool) (x : SlabAddress) → cond b (Ok (Some x)) (Err (refusal tables_disagree 0)) ≡ Ok (Some a) → ◌≡◌ {A = Result (Option SlabAddress) Refusal} (Ok (Some x)) (Ok (Some a))
    own true x e = e
    own false x e = wrong e

    go : (h : Bool) (u : Result (Option SlabAddress) Refusal) → cond h (owned_by slots slot_marks owners words i (get_or locations i 0) u) (Ok None) ≡ Ok (Some a) → u ≡ Ok (Some a)
    go false u e = none e
    go true (Ok (Some x)) e = own (owns_in slots slot_marks owners words i x) x e
    go true (Ok None) e = without (eqb (get_or locations i 0) 0) e
    go true (Err r) e = without (eqb (get_or locations i 0) 0) e

-- ---- tables that fit
module _ (m : Memory) (f : fits reason_tables m ≡ true) where
  -- a slab of theirs
  module _ (a : SlabAddress) (h : a.slab < slabs) where
    abbrev w : Standing
    w = standing_in m.slots m.slot_marks m.tallies a

    marks_are : hinted (get_word m.tallies hint_words (a.slab + 1)) (slab_part m.slots m.slot_marks a.slab)
        ≡ hinted (get_word m.tallies hint_words (suc a.slab)) (part m.slots m.slot_marks a.slab)
    marks_are = λ i. hinted (get_word m.tallies hint_words (add-one a.slab i)) (slab_part_is m.slots a.slab m.slot_marks h (fits_range reason_tables m f).slots_good i)

    standing_read : standing_as w ≡ standing (read m) a.slab a.slot
    unfolding standing_in
    standing_read =
        let l = fits_slot_marks reason_tables m f in
        let small : w.smaller ≡ smaller_slots (read m) a.slab a.slot =
        (λ i. count_if is_taken (hinted (get_word m.tallies hint_words (add-one a.slab i)) (take a.slot (slab_part_is m.slots a.slab m.slot_marks h (fits_range reason_tables m f).slots_good i))))
        ∙ sym (smaller_read m a.slab h l a.slot) in
        let lives : w.live ≡ live (read m) a.slab = ap (count_if is_taken) marks_are ∙ sym (live_read m a.slab h l) in
        let tips : w.tip ≡ slab_tip (read m) a.slab =
        (λ i. tip (marks_are i) (get_word m.tallies used_words (add-one a.slab i))) ∙ sym (tip_read m a.slab h l) in
        λ i. record { slab = a.slab; slot = a.slot; smaller = small i; live = lives i; tip = tips i }

    -- its counts are those of a slab, so that its cutoff is not refused
    counts : (w.live ≤ w.tip) × (w.tip ≤ most_slots)
    unfolding standing_in read
    counts =
        let t : w.tip ≡ slab_tip (read m) a.slab = ap (λ (x : M.Standing). x.tip) standing_read in
        let b = slab_tip_le (read m) (fits_range reason_tables m f).slots_from a.slab in
        (live_le_tip (hinted (get_word m.tallies hint_words (a.slab + 1)) (slab_part m.slots m.slot_marks a.slab)) (get_word m.tallies used_words (a.slab + 1)), omega (arith, (fits_range reason_tables m f).slots_to))

    by_cut : (r : Float) (v : Standing) → v.live ≤ v.tip → v.tip ≤ most_slots → is_ratio r ≡ true
        → reason_answer (by_cutoff v (cutoff_of v.live v.tip r)) ≡ granted (because (reason_for (standing_as v) r))
    unfolding cutoff_of
    by_cut r v p q ratio =
        let c = cutoff v.live v.tip r in
        simp (le-ltb most_slots v.tip q, le-ltb v.tip v.live p, ratio)
        (by_test (ltb c v.tip) (λ e. by_test (ltb v.slot c) (λ b. simp (e, b)) (λ b. simp (e, b))) (λ e. simp e))

    pub reason_read : (r : Float) → is_ratio r ≡ true
        → reason_answer (reason_in m.slots m.slot_marks m.tallies a r) ≡ granted (because (reason_for (standing (read m) a.slab a.slot) r))
    unfolding reason_in
    reason_read r ratio = by_cut r w counts.0 counts.1 ratio ∙ ap (λ x. granted (because (reason_for x r))) standing_read

-- ---- in what the functions read
pub standing_is : (slots : ℕ) (slot_marks words : List ℕ) (a : SlabAddress) (hint used n live top : ℕ) (marks : List ℕ)
    → hint ≡ get_word words hint_words (a.slab + 1) → used ≡ get_word words used_words (a.slab + 1) → marks ≡ slab_part slots slot_marks a.slab
    → n ≡ count_if is_taken (hinted hint (take a.slot marks)) → live ≡ count_if is_taken (hinted hint marks) → top ≡ tip (hinted hint marks) used
    → record { slab = a.slab; slot = a.slot; smaller = n; live = live; tip = top } ≡ standing_in slots slot_marks words a
unfolding standing_in
standing_is slots slot_marks words a hint used n live top marks eh eu em en el et =
    (λ k. record { slab = a.slab; slot = a.slot; smaller = en k; live = el k; tip = et k })
    ∙ (λ k. record {
      slab = a.slab;
      slot = a.slot;
      smaller = count_if is_taken (hinted (eh k) (take a.slot (em k)));
      live = count_if is_taken (hinted (eh k) (em k));
      tip = tip (hinted (eh k) (em k)) (eu k);
    })

pub reason_is : (slots : ℕ) (slot_marks words : List ℕ) (a : SlabAddress) (r : Float) (v : Standing) (c : Result (Option ℕ) Refusal)
    → v ≡ standing_in slots slot_marks words a → c ≡ cutoff_of v.live v.tip r → by_cutoff v c ≡ reason_in slots slot_marks words a r
unfolding reason_in
reason_is slots slot_marks words a r v c e q = ap (by_cutoff v) q ∙ (λ k. by_cutoff (e k) (cutoff_of (e k).live (e k).tip r))

-- the slab and the slot of a location
located_slab : (l k j : ℕ) → packing k j ≡ l → j < unit → pred (l / unit) ≡ k
located_slab l k j e h = omega arith

located_slot : (l k j : ℕ) → packing k j ≡ l → j < unit → l % unit ≡ j
located_slot l k j e h = omega arith

-- ---- the call
module _ (m : Memory) (i : ℕ) (r : Float) where
  abbrev asked : Call
  asked = ask (why i r)

  abbrev object : Result (Option SlabAddress) Refusal
  object = object_in m.ids m.slots m.id_marks m.locations m.slot_marks m.owners m.tallies i

  abbrev pub Says : Result Reason Refusal → Type 0
  Says a = reason_answer a ≡ answer (read m) asked

  refused_says : (n : Kind) → S.refusal (read m) asked ≡ refuse n 0 → Says (Err (refusal n 0))
  unfolding answer
  refused_says n e = sym (ap (λ v. answer_by v (grant (read m) asked)) e)

  pub says_shape : fits reason_tables m ≡ false → Says (Err (refusal wrong_shape 0))
  says_shape e = refused_says wrong_shape (refused_shape m asked e)

  module _ (f : fits reason_tables m ≡ true) where
    rest : S.refusal (read m) asked
        ≡ (test (ltb 0 (get_or m.batch 0 0)) batch_open 0 ⨾ test (not (is_ratio r)) ratio_out_of_range 0 ⨾ test (is_stored (read m) i && bad_location (read m) i) tables_disagree 0)
    unfolding refusal_of ask_refusal read
    rest = fits_rest m asked f

    pub says_open : (get_or m.batch 0 0 ≡ 0 → ⊥) → Says (Err (refusal batch_open 0))
    unfolding test ◌⨾◌
    says_open o =
        refused_says batch_open (rest ∙ ap (λ b. test b batch_open 0 ⨾ test (not (is_ratio r)) ratio_out_of_range 0 ⨾ test (is_stored (read m) i && bad_location (read m) i) tables_disagree 0)
        (lt-ltb 0 (get_or m.batch 0 0) (omega arith)))

    module _ (o : get_or m.batch 0 0 ≡ 0) where
      by_ratio : (b : Bool) → is_ratio r ≡ b
          → S.refusal (read m) asked ≡ (test (not b) ratio_out_of_range 0 ⨾ test (is_stored (read m) i && bad_location (read m) i) tables_disagree 0)
      unfolding test ◌⨾◌
      by_ratio b e =
          rest ∙ (λ k. test (le-ltb 0 (get_or m.batch 0 0) (omega arith) k) batch_open 0 ⨾ test (not (e k)) ratio_out_of_range 0 ⨾ test (is_stored (read m) i && bad_location (read m) i) tables_disagree 0)

      pub says_ratio : is_ratio r ≡ false → Says (Err (refusal ratio_out_of_range 0))
      unfolding test ◌⨾◌
      says_ratio e = refused_says ratio_out_of_range (by_ratio false e)

      module _ (q : is_ratio r ≡ true) where
        abbrev by_object : Result (Option SlabAddress) Refusal → Answer
        by_object (Ok (Some a)) = granted (because (reason_for (standing (read m) a.slab a.slot) r))
        by_object (Ok None) = granted (because not_stored)
        by_object (Err x) = refused_as x

        abbrev here : ℕ
        here = get_or m.locations i 0

        -- by whether the id is held, and what its location unpacks to
        by_object_lem : (h : Bool) (u : Result (Option SlabAddress) Refusal) → unpacked m.slots here ≡ u
            → answer_by (test ((h && not (eqb here 0)) && bad_by m.slots m.slot_marks m.owners m.tallies i here u) tables_disagree 0)
            (because (cond (h && not (eqb here 0)) (reason_for (standing_at (read m) here) r) not_stored))
            ≡ by_object (cond h (owned_by m.slots m.slot_marks m.owners m.tallies i here u) (Ok None))
        unfolding test bad_by
        by_object_lem false u e = refl
        by_object_lem true (Ok (Some a)) e =
            let v = unpacked_at m.slots here a e in
            let top = (fits_range reason_tables m f).slots_to in
            let stored : eqb here 0 ≡ false = ne_eqb here 0 (λ (z : here ≡ 0). omega (arith, v.whole)) in
            let slab : pred (here / unit) ≡ a.slab = located_slab here a.slab a.slot v.whole (omega (arith, v.slot_lt)) in
            let slot : here % unit ≡ a.slot = located_slot here a.slab a.slot v.whole (omega (arith, v.slot_lt)) in
            by_test (owns_in m.slots m.slot_marks m.owners m.tallies i a)
            (λ y. simp (stored, y) (λ k. granted (because (reason_for (standing (read m) (slab k) (slot k)) r))))
            (λ y. simp (stored, y))
        by_object_lem true (Ok None) e = by_test (eqb here 0) (λ z. simp z) (λ z. simp z)
        by_object_lem true (Err x) e = by_test (eqb here 0) (λ z. simp z) (λ z. simp z)

        answer_is : answer (read m) asked ≡ by_object object
        unfolding answer grant reply read object_in held_in test ◌⨾◌
        answer_is =
            (λ k. answer_by (by_ratio true q k) (because (reason_of (read m) r i)))
            ∙ (λ k. answer_by (test (is_stored (read m) i && sym (bad_in_read m i here (fits_range reason_tables m f).slots_good (fits_slot_marks reason_tables m f)) k) tables_disagree 0)
            (because (reason_of (read m) r i)))
            ∙ by_object_lem (held_in m.ids m.id_marks m.tallies i) (unpacked m.slots here) refl

        pub says_none : Ok None ≡ object → Says (Ok R.NotStored)
        says_none e = sym (answer_is ∙ ap by_object (sym e))

        pub says_refused : (x : Refusal) → Err x ≡ object → Says (Err x)
        says_refused x e = sym (answer_is ∙ ap by_object (sym e))

        pub object_slab : (a : SlabAddress) → Ok (Some a) ≡ object → a.slab < slabs
        object_slab a e =
            (unpacked_at m.slots here a (object_at m.ids m.slots m.id_marks m.locations m.slot_marks m.owners m.tallies i a (sym e))).slab_lt

        pub says_at : (a : SlabAddress) → Ok (Some a) ≡ object → Says (reason_in m.slots m.slot_marks m.tallies a r)
        says_at a e = reason_read m f a (object_slab a e) r q ∙ sym (answer_is ∙ ap by_object (sym e))
