-- The updates as the model has them: the slab of each, and the tests in their order. By recursion over the lists. Assumes nothing.
use mathlib.Core.Bool.{Bool, true, false, not}
use mathlib.Core.List.{List, [], ◌∷◌}
use mathlib.Core.Path.{◌≡◌, refl, sym, ap, ◌∙◌}
use Prim.Native.Nat.{ℕ, suc, ◌+◌, ◌*◌, ◌≤◌}
use native.Mathlib.Nat.{suc-ne-zero}
use native.Mathlib.Omega.{arith}
use lib.Dec.{leb, eqb}
use lib.ListN.{length, get_or, take, drop, replicate}
use lib.Seq.{sets, sets-eq, take_at}
use borrow.Author.Tests.{eq-eqb, leb-true, eqb-true, le-leb}
use Rattle.refusal.specs.Refusals.{no_such_id, repeated_id, too_large, tables_disagree}
use Rattle.refusal.proofs.Tests.{both_ways}
use Rattle.list_parts.specs.Lists.{elem}
use Rattle.sizes.specs.Sizes.{slabs, slab_for}
use Rattle.address.specs.Address.{bad_slots}
use Rattle.model.specs.Batches.{update_of, updates_of, updates, no_class, id_of}
use Rattle.model.specs.Lending.{place_tables}
use Rattle.model.specs.Lent.{lent_by}
use Rattle.model.specs.Memory.{Memory, read}
use Rattle.model.specs.Tables.{most_updates, held_id, bad_location}
use Rattle.model.specs.Verdict.{Verdict, test, ◌⨾◌}
use Rattle.tables.specs.Entries.{held_in, bad_in}
use Rattle.tables.proofs.LawsEntries.{held_in_read, bad_in_read}
use Rattle.offer_updates.specs.Kinds.{no_class_kind, free_kind, no_kinds, kind_of, kinds_of, wrong_by, row_wrong, say_at, check_in}
use Rattle.offer_updates.proofs.Laws.{slab_for_le}

-- ---- the slab of each update
pub length_kinds_of : (ss : List Bool) (ns : List ℕ) → length ns ≡ length ss → length (kinds_of ss ns) ≡ length ss
length_kinds_of [] ns p = refl
length_kinds_of (b ∷ ss) [] p = absurd (suc-ne-zero (length ss) (sym p))
length_kinds_of (b ∷ ss) (n ∷ ns) p = ap suc (length_kinds_of ss ns (omega arith))

pub kinds_front : (ks : List ℕ) (n : ℕ) → length ks ≡ n → n ≤ most_updates → take n (sets no_kinds 0 ks) ≡ ks
unfolding no_kinds
kinds_front ks n l h =
    let w : 0 + length ks ≤ length {A = ℕ} (replicate most_updates free_kind) = omega arith in
    ap (take n) (sets-eq ks (replicate most_updates free_kind) 0 w) ∙ take_at ks (drop (0 + length ks) (replicate most_updates free_kind)) n l

-- ---- the tests
-- a memory without the batch and the column, which the check does not see
abbrev pub unkept : Memory → Memory
unkept m = lent_by place_tables m.ids m.slots m.id_marks m.locations m.slot_marks m.owners m.tallies

pub check_lent : (m : Memory) (seen : List ℕ) (i : ℕ) (is ks : List ℕ) → check_in (unkept m) seen i is ks ≡ check_in m seen i is ks
unfolding check_in row_wrong
check_lent m seen i [] ks = refl
check_lent m seen i (x ∷ is) [] = refl
check_lent m seen i (x ∷ is) (k ∷ ks) = ap (say_at (row_wrong m seen x k) i) (check_lent m (x ∷ seen) (suc i) is ks)

say_tests : (h r n b : Bool) (i : ℕ) (v : Verdict)
    → say_at (wrong_by h r n b) i v ≡ (test (not h) no_such_id i ⨾ test r repeated_id i ⨾ test n too_large i ⨾ test b tables_disagree i ⨾ v)
unfolding wrong_by test ◌⨾◌
say_tests false r n b i v = refl
say_tests true true n b i v = refl
say_tests true false true b i v = refl
say_tests true false false true i v = refl
say_tests true false false false i v = refl

no_class_kind_lem : (b : Bool) (x n : ℕ) → no_class (update_of b x n) ≡ eqb (kind_of b n) no_class_kind
no_class_kind_lem true x n = both_ways (leb slabs (slab_for n)) (eqb (slab_for n) no_class_kind)
    (λ h. eq-eqb (slab_for n) no_class_kind (omega (arith, leb-true slabs (slab_for n) h, slab_for_le n)))
    (λ h. le-leb slabs (slab_for n) (omega (arith, eqb-true (slab_for n) no_class_kind h)))
no_class_kind_lem false x n = refl

id_of_update : (b : Bool) (x n : ℕ) → id_of (update_of b x n) ≡ x
id_of_update true x n = refl
id_of_update false x n = refl

pub check_read : (m : Memory) → bad_slots m.slots ≡ false → length m.slot_marks ≡ slabs * m.slots → (seen : List ℕ) (i : ℕ) (is : List ℕ) (ss : List Bool) (ns : List ℕ)
    → check_in m seen i is (kinds_of ss ns) ≡ updates (read m) seen i (updates_of is ss ns)
unfolding check_in row_wrong read
check_read m good long seen i [] ss ns = refl
check_read m good long seen i (x ∷ is) [] ns = refl
check_read m good long seen i (x ∷ is) (b ∷ ss) [] = refl
check_read m good long seen i (x ∷ is) (b ∷ ss) (n ∷ ns) =
    let e : x ≡ id_of (update_of b x n) = sym (id_of_update b x n) in
    let h : held_in m.ids m.id_marks m.tallies x ≡ held_id (read m) (id_of (update_of b x n)) = sym (held_in_read m x) ∙ ap (held_id (read m)) e in
    let c : eqb (kind_of b n) no_class_kind ≡ no_class (update_of b x n) = sym (no_class_kind_lem b x n) in
    let d : bad_in m.slots m.slot_marks m.owners m.tallies x (get_or m.locations x 0) ≡ bad_location (read m) (id_of (update_of b x n)) =
    bad_in_read m x (get_or m.locations x 0) good long ∙ ap (bad_location (read m)) e in
    let r : check_in m (x ∷ seen) (suc i) is (kinds_of ss ns) ≡ updates (read m) (id_of (update_of b x n) ∷ seen) (suc i) (updates_of is ss ns) =
    check_read m good long (x ∷ seen) (suc i) is ss ns ∙ ap (λ y. updates (read m) (y ∷ seen) (suc i) (updates_of is ss ns)) e in
    say_tests (held_in m.ids m.id_marks m.tallies x) (elem x seen) (eqb (kind_of b n) no_class_kind) (bad_in m.slots m.slot_marks m.owners m.tallies x (get_or m.locations x 0)) i
    (check_in m (x ∷ seen) (suc i) is (kinds_of ss ns))
    ∙ λ j. test (not (h j)) no_such_id i ⨾ test (elem (e j) seen) repeated_id i ⨾ test (c j) too_large i ⨾ test (d j) tables_disagree i ⨾ r j
