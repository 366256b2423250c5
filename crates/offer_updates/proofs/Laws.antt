-- Laws of the updates, a turn at a time: the slab of each, the ids before one, and the tests in their order. Assumes nothing.
use mathlib.Core.Bool.{Bool, true, false, not, cond, ◌||◌}
use mathlib.Core.List.{List, [], ◌∷◌}
use mathlib.Core.Logic.{◌⊎◌, inl, inr}
use mathlib.Core.Path.{◌≡◌, refl, sym, ap, ◌∙◌}
use Prim.Native.Nat.{ℕ, zero, suc, ◌+◌, ◌-◌, ◌%◌, ◌≤◌, ◌<◌, min}
use native.Mathlib.Decide.{ℕ_discrete}
use native.Mathlib.Numerals.{add-one}
use native.Mathlib.Omega.{arith}
use lib.Dec.{leb, ltb, eqb}
use lib.ListN.{length, get_or, take, drop, set, drop_of_length-le}
use lib.Seq.{sets, drop-cons, set_out, get_or-set_same, get_or-set_other}
use borrow.Author.Tests.{eq-eqb, eqb-true, ne_eqb, ltb-false, leb-true, leb-false}
use Rattle.std.specs.List.{list_any}
use Rattle.std.proofs.lemmas.List.Folds.{list_any_more}
use Rattle.refusal.specs.declared.Kind.{Kind}
use Rattle.refusal.specs.declared.Refusal.{Refusal}
use Rattle.refusal.specs.Refusals.{refusal, no_such_id, repeated_id, too_large, tables_disagree}
use Rattle.refusal.proofs.Tests.{clash, by_test, both_ways}
use Rattle.list_parts.specs.Lists.{elem}
use Rattle.keys.specs.Keys.{stores_of, is_store}
use Rattle.list_parts.proofs.Lists.{elem_cases}
use Rattle.sizes.specs.Sizes.{slab_sizes, first_fit, slab_for, class_of, field_width, check_width, slabs}
use Rattle.sizes.proofs.Laws.{length_slab_sizes}
use Rattle.model.specs.Tables.{most_updates}
use Rattle.model.specs.Memory.{Memory}
use Rattle.model.specs.Verdict.{Verdict, ok, refuse}
use Rattle.tables.specs.Entries.{held_in, bad_in}
use Rattle.offer_updates.specs.Kinds.{no_class_kind, free_kind, kind_of, kinds_of, before, wrong_by, row_wrong, say_at, check_in}
use Rattle.std.specs.Prelude.{Ok, Err, Option, Some, None}

-- ---- the slab of an update
first_fit_le : (n : ℕ) (ss : List ℕ) → first_fit n ss ≤ length ss
unfolding first_fit
first_fit_le n [] = omega arith
first_fit_le n (s ∷ ss) = by (leb (n + field_width s + check_width) s) (first_fit_le n ss)
  where
    by : (b : Bool) → first_fit n ss ≤ length ss → cond b 0 (suc (first_fit n ss)) ≤ suc (length ss)
    by true h = omega arith
    by false h = omega arith

pub slab_for_le : (n : ℕ) → slab_for n ≤ slabs
unfolding slab_for
slab_for_le n = omega (arith, first_fit_le n slab_sizes, length_slab_sizes)

pub kind_of_free : (b : Bool) (n : ℕ) → not b ≡ true → free_kind ≡ kind_of b n
kind_of_free true n e = clash (sym e)
kind_of_free false n e = refl

pub kind_of_slab : (b : Bool) (n k : ℕ) → not b ≡ false → class_of n ≡ Ok k → k ≡ kind_of b n
unfolding class_of
kind_of_slab false n k h e = clash h
kind_of_slab true n k h e =
    by_test (ltb (slab_for n) slabs)
    (λ t. let s : Ok (slab_for n) ≡ Ok k = rw t at e in cc)
    (λ t. let s : Err (refusal too_large 0) ≡ Ok k = rw t at e in let z : ◌≡◌ {A = ℕ} 0 1 = cc in absurd (omega arith))

pub kind_of_none : (b : Bool) (n : ℕ) (r : Refusal) → not b ≡ false → class_of n ≡ Err r → no_class_kind ≡ kind_of b n
unfolding class_of
kind_of_none false n r h e = clash h
kind_of_none true n r h e =
    by_test (ltb (slab_for n) slabs)
    (λ t. let s : Ok (slab_for n) ≡ Err r = rw t at e in let z : ◌≡◌ {A = ℕ} 0 1 = cc in absurd (omega arith))
    (λ t. omega (arith, ltb-false (slab_for n) slabs t, slab_for_le n))

-- a turn, and the ends
pub kinds_turn : (bs bs' ns ns' out : List ℕ) (i j b n v : ℕ) → bs ≡ b ∷ bs' → ns ≡ n ∷ ns' → j ≡ i + 1 → v ≡ kind_of (is_store b) n
    → sets (set out i v) j (kinds_of (stores_of bs') ns') ≡ sets out i (kinds_of (stores_of bs) ns)
kinds_turn bs bs' ns ns' out i j b n v e f g h = rw (e, f, g, add-one i, h) refl

kinds_of_nil : (ss : List Bool) → kinds_of ss [] ≡ []
kinds_of_nil [] = refl
kinds_of_nil (s ∷ ss) = refl

pub kinds_end : (bs ns out : List ℕ) (i : ℕ) → (length bs ≡ 0) ⊎ (length ns ≡ 0) → out ≡ sets out i (kinds_of (stores_of bs) ns)
kinds_end [] ns out i e = refl
kinds_end (b ∷ bs) [] out i e = refl
kinds_end (b ∷ bs) (n ∷ ns) out i (inl e) = absurd (omega arith)
kinds_end (b ∷ bs) (n ∷ ns) out i (inr e) = absurd (omega arith)

pub sets_out : (vs l : List ℕ) (i : ℕ) → length l ≤ i → l ≡ sets l i vs
sets_out [] l i h = refl
sets_out (v ∷ vs) l i h = rw (set_out l i v h) (sets_out vs l (suc i) (omega arith))

-- ---- the ids before an update
or_swap : (a b : Bool) → (a || b) ≡ (b || a)
or_swap true true = refl
or_swap true false = refl
or_swap false true = refl
or_swap false false = refl

eqb_swap : (a b : ℕ) → eqb a b ≡ eqb b a
eqb_swap a b = both_ways (eqb a b) (eqb b a) (λ e. eq-eqb b a (sym (eqb-true a b e))) (λ e. eq-eqb a b (sym (eqb-true b a e)))

pub repeated_any : (x : ℕ) (is : List ℕ) (i : ℕ) → i ≤ length is → list_any (λ (y : ℕ). eqb y x) (take i is) ≡ elem x (before i is)
repeated_any x is zero h = refl
repeated_any x is (suc i) h =
    ap (λ n. list_any (λ (y : ℕ). eqb y x) (take n is)) (sym (add-one i))
    ∙ list_any_more (λ (y : ℕ). eqb y x) is i 0 (omega arith)
    ∙ (λ k. repeated_any x is i (omega arith) k || eqb_swap (get_or is i 0) x k)
    ∙ or_swap (elem x (before i is)) (eqb x (get_or is i 0))

-- ---- the tests
pub check_in_turn : (m : Memory) (is ks : List ℕ) (i : ℕ) → i < length is → i < length ks
    → check_in m (before i is) i (drop i is) (drop i ks) ≡ say_at (row_wrong m (before i is) (get_or is i 0) (get_or ks i 0)) i (check_in m (before (i + 1) is) (i + 1) (drop (i + 1) is) (drop (i + 1) ks))
unfolding check_in
check_in_turn m is ks i h g = rw (drop-cons is i 0 h, drop-cons ks i 0 g, add-one i)

-- the number of an update, test by test
pub row_not_held : (h r n b : Bool) → h ≡ false → Some no_such_id ≡ wrong_by h r n b
unfolding wrong_by
row_not_held h r n b e = rw e

pub row_repeated : (h r n b : Bool) → h ≡ true → r ≡ true → Some repeated_id ≡ wrong_by h r n b
unfolding wrong_by
row_repeated h r n b e f = rw (e, f)

module _ (h r : Bool) (k : ℕ) (b : Bool) where
  pub row_large : h ≡ true → r ≡ false → k ≡ no_class_kind → Some too_large ≡ wrong_by h r (eqb k no_class_kind) b
  unfolding wrong_by
  row_large e f n = rw (e, f, eq-eqb k no_class_kind n)

  pub row_bad : h ≡ true → r ≡ false → (k ≡ no_class_kind → ⊥) → b ≡ true → Some tables_disagree ≡ wrong_by h r (eqb k no_class_kind) b
  unfolding wrong_by
  row_bad e f n t = rw (e, f, ne_eqb k no_class_kind n, t)

  pub row_fine : h ≡ true → r ≡ false → (k ≡ no_class_kind → ⊥) → b ≡ false → None ≡ wrong_by h r (eqb k no_class_kind) b
  unfolding wrong_by
  row_fine e f n t = rw (e, f, ne_eqb k no_class_kind n, t)

-- told by the location that the table has
pub row_told : (m : Memory) (seen : List ℕ) (x k l : ℕ) (n : Option Kind)
    → n ≡ wrong_by (held_in m.ids m.id_marks m.tallies x) (elem x seen) (eqb k no_class_kind) (bad_in m.slots m.slot_marks m.owners m.tallies x l)
    → l ≡ get_or m.locations (0 + x) 0 → n ≡ row_wrong m seen x k
unfolding row_wrong
row_told m seen x k l n e p =
    let z : 0 + x ≡ x = omega arith in
    e ∙ ap (λ y. wrong_by (held_in m.ids m.id_marks m.tallies x) (elem x seen) (eqb k no_class_kind) (bad_in m.slots m.slot_marks m.owners m.tallies x y)) (p ∙ ap (λ y. get_or m.locations y 0) z)

-- the locations found so far
pub found_on : (ls is found : List ℕ) (i v : ℕ) → length found ≡ most_updates → i < most_updates → v ≡ get_or ls (0 + get_or is i 0) 0
    → ((k : ℕ) → k < i → k < most_updates → get_or found k 0 ≡ get_or ls (0 + get_or is k 0) 0) → (k : ℕ) → k < i + 1 → k < most_updates → get_or (set found i v) k 0 ≡ get_or ls (0 + get_or is k 0) 0
found_on ls is found i v l h e f k a b = by (ℕ_discrete k i)
  where
    by : Dec (k ≡ i) → get_or (set found i v) k 0 ≡ get_or ls (0 + get_or is k 0) 0
    by (yes p) = rw p (get_or-set_same found i v 0 (omega arith) ∙ e)
    by (no n) = get_or-set_other found i k v 0 n ∙ f k (omega (arith, n)) b

-- a turn of the check, and its end
module _ (m : Memory) (is ks : List ℕ) (i : ℕ) (n : Option Kind) (h : i < length is) (l : i < length ks) (e : n ≡ row_wrong m (before i is) (get_or is i 0) (get_or ks i 0)) where
  abbrev Next : Verdict
  Next = check_in m (before (i + 1) is) (i + 1) (drop (i + 1) is) (drop (i + 1) ks)

  pub check_stop : (kind : Kind) → n ≡ Some kind → refuse kind i ≡ check_in m (before i is) i (drop i is) (drop i ks)
  check_stop kind z = ap (λ x. say_at x i Next) (sym z ∙ e) ∙ sym (check_in_turn m is ks i h l)

  pub check_on : n ≡ None → Next ≡ check_in m (before i is) i (drop i is) (drop i ks)
  check_on z = ap (λ x. say_at x i Next) (sym z ∙ e) ∙ sym (check_in_turn m is ks i h l)

pub check_end : (m : Memory) (seen is ks : List ℕ) (j i : ℕ) → length is ≤ i → ok ≡ check_in m seen j (drop i is) ks
unfolding check_in
check_end m seen is ks j i h = rw (drop_of_length-le is h)

pub check_short : (m : Memory) (seen is ks : List ℕ) (j i : ℕ) → length ks ≤ i → ok ≡ check_in m seen j is (drop i ks)
unfolding check_in
check_short m seen is ks j i h = rw (drop_of_length-le ks h) (none is)
  where
    none : (is : List ℕ) → ok ≡ check_in m seen j is []
    none [] = refl
    none (x ∷ is) = refl

-- where either list is over
pub check_over : (m : Memory) (seen is ks : List ℕ) (j i : ℕ) → min (length is) (length ks) ≤ i → ok ≡ check_in m seen j (drop i is) (drop i ks)
check_over m seen is ks j i h =
    by_test (leb (length is) i) (λ t. check_end m seen is (drop i ks) j i (leb-true _ _ t))
    (λ t. check_short m seen (drop i is) ks j i (omega (arith, leb-false (length is) i t)))

-- each id that was seen has its byte set
pub seen_on : (is : List ℕ) (i : ℕ) (seen : List Bool) → length seen ≡ 4096 → ((x : ℕ) → elem x (before i is) ≡ true → get_or seen (x % 4096) false ≡ true)
    → (x : ℕ) → elem x (before (i + 1) is) ≡ true → get_or (set seen (get_or is i 0 % 4096) true) (x % 4096) false ≡ true
seen_on is i seen l f x e = by (ℕ_discrete (x % 4096) (get_or is i 0 % 4096)) (elem_cases x (get_or is i 0) (before i is) (rw add-one at e))
  where
    by : Dec (x % 4096 ≡ get_or is i 0 % 4096) → (x ≡ get_or is i 0) ⊎ (elem x (before i is) ≡ true) → get_or (set seen (get_or is i 0 % 4096) true) (x % 4096) false ≡ true
    by (yes s) c = rw s (get_or-set_same seen (get_or is i 0 % 4096) true false (omega arith))
    by (no n) (inl p) = absurd (n (ap (λ y. y % 4096) p))
    by (no n) (inr p) = get_or-set_other seen (get_or is i 0 % 4096) (x % 4096) true false n ∙ f x p

-- a byte that is not set says that no earlier id is the same
pub far : (x : ℕ) (is : List ℕ) (i : ℕ) (b : Bool) → (elem x (before i is) ≡ true → b ≡ true) → b ≡ false → elem x (before i is) ≡ false
far x is i b f e = by_test (elem x (before i is)) (λ t. clash (sym (f t) ∙ e)) (λ t. t)
