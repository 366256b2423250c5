-- Refusal 21 among the other tests of a row: two orders of tests, each row by row, made one (`earlier`), are the tests of each row in their order. A
-- refusal that comes later has a later row, so that within a row the first test that is met decides. Assumes nothing.
use mathlib.Core.Path.{◌≡◌, refl, sym, ap, ◌∙◌}
use mathlib.Core.Bool.{Bool, true, false, not, cond, ◌&&◌, ◌||◌}
use mathlib.Core.List.{List, [], ◌∷◌}
use Prim.Native.Nat.{ℕ, suc, ◌+◌, ◌*◌, ◌≤◌}
use native.Mathlib.Omega.{arith}
use lib.Dec.{eqb, ltb}
use lib.ListN.{length, drop, length-map}
use borrow.Author.Tests.{eq-eqb, ne_eqb, eqb-false, lt-ltb, le-ltb, ltb-true, ltb-false}
use Rattle.refusal.specs.Refusals.{too_large, out_of_range, no_such_id, repeated_id, tables_disagree, repeated_location, key_too_long}
use Rattle.refusal.proofs.Tests.{both_ways}
use Rattle.list_parts.specs.Lists.{elem}
use Rattle.carried.specs.Carried.{width}
use Rattle.keys.specs.Keys.{long_in, all_stored, first_met}
use Rattle.address.specs.Address.{is_location}
use Rattle.model.specs.Batches.{updates_in, id_of, no_class, updates}
use Rattle.model.specs.Columns.{before_keys}
use Rattle.model.specs.Rebuild.{rows_in, rows_of, rows}
use Rattle.model.specs.Store.{Store, Update, Row}
use Rattle.model.specs.Tables.{in_ids, held_id, bad_location}
use Rattle.refusal.specs.declared.Kind.{Kind}
use Rattle.model.specs.Verdict.{Verdict, ok, refuse, test, tests_from, earlier, ◌⨾◌}
use Rattle.model.proofs.Batches.{length_updates_of}
use Rattle.model.specs.Keyed.{updates_keyed, rows_keyed, OfferedInOrder, RebuiltInOrder}

-- a verdict of rows from i on
abbrev From : ℕ → Verdict → Type 0
From i ok = Unit {0}
From i (refuse n j) = i ≤ j

from_test : (b : Bool) (n : Kind) (i : ℕ) (v : Verdict) → From i v → From i (test b n i ⨾ v)
unfolding test ◌⨾◌
from_test true n i v h = omega arith
from_test false n i v h = h

from_later : (i : ℕ) (v : Verdict) → From (suc i) v → From i v
from_later i ok h = tt
from_later i (refuse n j) h = omega arith

-- ---- one row: a test of the former order that is met decides where its number comes first or the row's other test is not met
module _ (first : Kind → Bool) (i : ℕ) where
  here : (n : Kind) (w : Verdict) → first n ≡ true → From i w → earlier first (refuse n i) w ≡ refuse n i
  unfolding earlier
  here n ok f h = refl
  here n (refuse m j) f h = by (ltb i j) (eqb i j) refl refl
    where
      by : (a b : Bool) → ltb i j ≡ a → eqb i j ≡ b → cond (a || (b && first n)) (refuse n i) (refuse m j) ≡ refuse n i
      by true b p q = refl
      by false true p q = rw f
      by false false p q = absurd (eqb-false i j q (let z = ltb-false i j p in omega arith))

  before : (n : Kind) (w : Verdict) → From (suc i) w → earlier first (refuse n i) w ≡ refuse n i
  unfolding earlier
  before n ok h = refl
  before n (refuse m j) h = rw (lt-ltb i j (omega arith))

  other : (m : Kind) (v : Verdict) → From (suc i) v → earlier first v (refuse m i) ≡ refuse m i
  unfolding earlier
  other m ok h = refl
  other m (refuse n j) h = rw (le-ltb j i (omega arith), ne_eqb j i (λ e. omega arith))

  after : (n m : Kind) → first n ≡ false → earlier first (refuse n i) (refuse m i) ≡ refuse m i
  unfolding earlier
  after n m f = rw (le-ltb i i (omega arith), eq-eqb i i refl, f)

-- ---- an offer's update, and all of them

one_offered : (a b long c d : Bool) (i : ℕ) (v w : Verdict) → From (suc i) v → From (suc i) w
    → earlier before_keys (test a no_such_id i ⨾ test b repeated_id i ⨾ test c too_large i ⨾ test d tables_disagree i ⨾ v) (test long key_too_long i ⨾ w)
    ≡ (test a no_such_id i ⨾ test b repeated_id i ⨾ test long key_too_long i ⨾ test c too_large i ⨾ test d tables_disagree i ⨾ earlier before_keys v w)
unfolding test ◌⨾◌
one_offered true b long c d i v w p q = here before_keys i no_such_id (test long key_too_long i ⨾ w) refl (from_test long key_too_long i w (from_later i w q))
one_offered false true long c d i v w p q = here before_keys i repeated_id (test long key_too_long i ⨾ w) refl (from_test long key_too_long i w (from_later i w q))
one_offered false false true true d i v w p q = after before_keys i too_large key_too_long refl
one_offered false false true false true i v w p q = after before_keys i tables_disagree key_too_long refl
one_offered false false true false false i v w p q = other before_keys i key_too_long v p
one_offered false false false true d i v w p q = before before_keys i too_large w q
one_offered false false false false true i v w p q = before before_keys i tables_disagree w q
one_offered false false false false false i v w p q = refl

from_tests_from : (n : Kind) (i : ℕ) (bs : List Bool) → From i (tests_from n i bs)
unfolding tests_from
from_tests_from n i [] = tt
from_tests_from n i (b ∷ bs) = from_test b n i (tests_from n (suc i) bs) (from_later i (tests_from n (suc i) bs) (from_tests_from n (suc i) bs))

from_updates : (s : Store) (seen : List ℕ) (i : ℕ) (us : List Update) → From i (updates s seen i us)
from_updates s seen i [] = tt
from_updates s seen i (u ∷ us) =
    from_test _ no_such_id i _ (from_test _ repeated_id i _ (from_test _ too_large i _ (from_test _ tables_disagree i _
    (from_later i (updates s (id_of u ∷ seen) (suc i) us) (from_updates s (id_of u ∷ seen) (suc i) us)))))

all_offered : (s : Store) (seen : List ℕ) (i : ℕ) (us : List Update) (ls : List Bool) → length us ≡ length ls
    → earlier before_keys (updates s seen i us) (tests_from key_too_long i ls) ≡ updates_keyed s seen i us ls
unfolding tests_from earlier
all_offered s seen i [] [] e = refl
all_offered s seen i [] (l ∷ ls) e = absurd (omega arith)
all_offered s seen i (u ∷ us) [] e = absurd (omega arith)
all_offered s seen i (u ∷ us) (long ∷ ls) e =
    one_offered (not (held_id s (id_of u))) (elem (id_of u) seen) long (no_class u) (bad_location s (id_of u)) i _ _
    (from_updates s (id_of u ∷ seen) (suc i) us) (from_tests_from key_too_long (suc i) ls)
    ∙ (λ k. test (not (held_id s (id_of u))) no_such_id i ⨾ test (elem (id_of u) seen) repeated_id i ⨾ test long key_too_long i ⨾
    test (no_class u) too_large i ⨾ test (bad_location s (id_of u)) tables_disagree i ⨾ all_offered s (id_of u ∷ seen) (suc i) us ls (omega arith) k)

length_long_in : (ss : List Bool) (bytes : List ℕ) → length (long_in ss bytes) ≡ length ss
unfolding long_in
length_long_in [] bytes = refl
length_long_in (s ∷ ss) bytes = ap suc (length_long_in ss (drop width bytes))

pub offered_in_order : OfferedInOrder
offered_in_order s o a b =
    all_offered s [] 0 (updates_in o) (long_in o.stores o.carried)
    (length_updates_of o.ids o.stores o.lengths a b ∙ sym a ∙ sym (length_long_in o.stores o.carried))

-- ---- a row of a rebuild, and all of them

one_rebuilt : (a b c d long : Bool) (i : ℕ) (v w : Verdict) → From (suc i) v → From (suc i) w
    → earlier (λ n. true) (test a no_such_id i ⨾ test b repeated_id i ⨾ test c out_of_range i ⨾ test d repeated_location i ⨾ v) (test long key_too_long i ⨾ w)
    ≡ (test a no_such_id i ⨾ test b repeated_id i ⨾ test c out_of_range i ⨾ test d repeated_location i ⨾ test long key_too_long i ⨾ earlier (λ n. true) v w)
unfolding test ◌⨾◌
one_rebuilt true b c d long i v w p q = here (λ n. true) i no_such_id _ refl (from_test long key_too_long i w (from_later i w q))
one_rebuilt false true c d long i v w p q = here (λ n. true) i repeated_id _ refl (from_test long key_too_long i w (from_later i w q))
one_rebuilt false false true d long i v w p q = here (λ n. true) i out_of_range _ refl (from_test long key_too_long i w (from_later i w q))
one_rebuilt false false false true long i v w p q = here (λ n. true) i repeated_location _ refl (from_test long key_too_long i w (from_later i w q))
one_rebuilt false false false false true i v w p q = other (λ n. true) i key_too_long v p
one_rebuilt false false false false false i v w p q = refl

from_rows : (s : Store) (is ls : List ℕ) (i : ℕ) (rs : List Row) → From i (rows s is ls i rs)
from_rows s is ls i [] = tt
from_rows s is ls i (r ∷ rs) =
    from_test _ no_such_id i _ (from_test _ repeated_id i _ (from_test _ out_of_range i _ (from_test _ repeated_location i _
    (from_later i (rows s (r.0 ∷ is) (r.1 ∷ ls) (suc i) rs) (from_rows s (r.0 ∷ is) (r.1 ∷ ls) (suc i) rs)))))

all_rebuilt : (s : Store) (is ls : List ℕ) (i : ℕ) (rs : List Row) (ks : List Bool) → length rs ≡ length ks
    → earlier (λ n. true) (rows s is ls i rs) (tests_from key_too_long i ks) ≡ rows_keyed s is ls i rs ks
unfolding tests_from earlier
all_rebuilt s is ls i [] [] e = refl
all_rebuilt s is ls i [] (k ∷ ks) e = absurd (omega arith)
all_rebuilt s is ls i (r ∷ rs) [] e = absurd (omega arith)
all_rebuilt s is ls i (r ∷ rs) (long ∷ ks) e =
    one_rebuilt (not (in_ids s r.0)) (elem r.0 is) (not (is_location s.slots r.1)) (elem r.1 ls) long i _ _
    (from_rows s (r.0 ∷ is) (r.1 ∷ ls) (suc i) rs) (from_tests_from key_too_long (suc i) ks)
    ∙ (λ j. test (not (in_ids s r.0)) no_such_id i ⨾ test (elem r.0 is) repeated_id i ⨾
    test (not (is_location s.slots r.1)) out_of_range i ⨾ test (elem r.1 ls) repeated_location i ⨾ test long key_too_long i ⨾
    all_rebuilt s (r.0 ∷ is) (r.1 ∷ ls) (suc i) rs ks (omega arith) j)

length_pairs : (is ls : List ℕ) → length ls ≡ length is → length (rows_of is ls) ≡ length is
length_pairs [] ls e = refl
length_pairs (i ∷ is) [] e = absurd (omega arith)
length_pairs (i ∷ is) (l ∷ ls) e = ap suc (length_pairs is ls (omega arith))

pub rebuilt_in_order : RebuiltInOrder
rebuilt_in_order s rs a =
    all_rebuilt s [] [] 0 (rows_in rs) (long_in (all_stored rs.ids) rs.carried)
    (length_pairs rs.ids rs.locations a ∙ sym (length-map rs.ids (λ (i : ℕ). true)) ∙ sym (length_long_in (all_stored rs.ids) rs.carried))

-- ---- as the code tells it: by the first key that is too long

ltb_suc : (a b : ℕ) → ltb a b ≡ ltb (suc a) (suc b)
ltb_suc a b = both_ways (ltb a b) (ltb (suc a) (suc b))
    (λ p. lt-ltb (suc a) (suc b) (omega (arith, ltb-true a b p))) (λ p. lt-ltb a b (omega (arith, ltb-true (suc a) (suc b) p)))

first_met_lem : (n : Kind) (i : ℕ) (bs : List Bool) → tests_from n i bs ≡ test (ltb (first_met bs) (length bs)) n (i + first_met bs)
unfolding tests_from first_met test ◌⨾◌
first_met_lem n i [] = refl
first_met_lem n i (true ∷ bs) = rw (lt-ltb 0 (suc (length bs)) (omega arith)) (let e : i ≡ i + 0 = omega arith in ap (refuse n) e)
first_met_lem n i (false ∷ bs) =
    let e : suc i + first_met bs ≡ i + suc (first_met bs) = omega arith in
    first_met_lem n (suc i) bs ∙ (λ k. test (ltb_suc (first_met bs) (length bs) k) n (e k))

pub first_long_lem : (ss : List Bool) (bytes : List ℕ) (k : ℕ)
    → k ≡ cond (eqb (length bytes) (length ss * width)) (first_met (long_in ss bytes)) (length ss) → length bytes ≡ length ss * width
    → tests_from key_too_long 0 (long_in ss bytes) ≡ test (ltb k (length ss)) key_too_long k
first_long_lem ss bytes k e l =
    let f : first_met (long_in ss bytes) ≡ k =
    sym (e ∙ ap (λ b. cond b (first_met (long_in ss bytes)) (length ss)) (eq-eqb (length bytes) (length ss * width) l)) in
    let z : 0 + first_met (long_in ss bytes) ≡ k = omega arith in
    first_met_lem key_too_long 0 (long_in ss bytes) ∙ (λ j. test (ltb (f j) (length_long_in ss bytes j)) key_too_long (z j))
