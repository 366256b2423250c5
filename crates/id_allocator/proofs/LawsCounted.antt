-- Laws of `quiet` and `counted`: what does not see the waiting word, and how marks written with it count. Assumes nothing.
use mathlib.Core.Bool.{Bool, true, false, not, cond, ◌||◌}
use mathlib.Core.List.{List, [], ◌∷◌, map, map-map}
use mathlib.Core.Path.{◌≡◌, refl, sym, ap, ◌∙◌}
use Prim.Native.Nat.{ℕ, zero, suc, ◌+◌, ◌≤◌, ◌<◌}
use native.Mathlib.Omega.{arith}
use lib.Dec.{eqb, ltb, eqb-suc-zero}
use lib.ListN.{length, get_or, set, take, length-map, get_or-map, get_or-eq_default}
use borrow.Author.Tests.{ne_eqb, ltb-true, ltb-false}
use Rattle.refusal.proofs.Tests.{by_test}
use Rattle.list_parts.proofs.Lists.{take_map}
use Rattle.marks.specs.Marks.{is_free, is_pending, is_held, is_taken, first_free, smallest_free, count_if, above, last_taken, tip_of, tip, hold, let_go}
use Rattle.id_allocator.specs.Counted.{settle, hinted, quiet, counted}
use Rattle.id_allocator.specs.Written.{given_back, hint_back}
use Rattle.marks.proofs.LawsFree.{smallest_free_suc}
use Rattle.marks.proofs.LawsCount.{count_if_map, count_if_none, above_taken}
use Rattle.marks.proofs.LawsMapped.{map_same, map_set}
use Rattle.id_allocator.proofs.LawsHinted.{hinted_length, hinted_front, hinted_below, hinted_from, hinted_busy, hinted_mark, hinted_take, hinted_take_id, hinted_give_back}

-- ---- settle
pub settle_hold : (m : ℕ) → settle (hold m) ≡ hold (settle m)
settle_hold zero = refl
settle_hold (suc m) = by (is_pending (suc m))
  where
    by : (b : Bool) → cond b 1 (suc m) ≡ hold (cond b 1 (suc m))
    by true = refl
    by false = refl

pub settle_busy : (m : ℕ) → (m ≡ 2 → ⊥) → settle m ≡ m
settle_busy m h = rw (ne_eqb m 2 h)

pub settle_free : (m : ℕ) → is_free (settle m) ≡ is_free m
settle_free zero = refl
settle_free (suc m) = by (is_pending (suc m))
  where
    by : (b : Bool) → is_free (cond b 1 (suc m)) ≡ is_free (suc m)
    by true = sym (eqb-suc-zero m)
    by false = refl

pub settle_pending : (m : ℕ) → is_pending (settle m) ≡ false
settle_pending m = by_test (is_pending m) (λ e. rw e) (λ e. rw e e)

pub settle_let_go : (m : ℕ) → settle (let_go m) ≡ let_go m
settle_let_go m = by_test (is_pending m) (λ e. rw e) (λ e. rw e (rw e))

pub let_go_settle : (m : ℕ) → let_go (settle m) ≡ settle m
let_go_settle m = rw (settle_pending m)

-- where nothing is pending, nothing changes
settle_none : (ms : List ℕ) → count_if is_pending ms ≡ 0 → map settle ms ≡ ms
settle_none [] e = refl
settle_none (m ∷ ms) e =
    by_test (is_pending m)
    (λ p. let z : suc (count_if is_pending ms) ≡ 0 = rw p at e in absurd (omega arith))
    (λ p. rw p (ap (λ l. m ∷ l) (settle_none ms (rw p at e))))

first_free_settle : (ms : List ℕ) → first_free (map settle ms) ≡ first_free ms
first_free_settle [] = refl
first_free_settle (zero ∷ ms) = refl
first_free_settle (suc m ∷ ms) = by (is_pending (suc m)) (map settle ms) ∙ ap suc (first_free_settle ms)
  where
    by : (b : Bool) (l : List ℕ) → first_free (cond b 1 (suc m) ∷ l) ≡ suc (first_free l)
    by true l = refl
    by false l = refl

last_taken_settle : (ms : List ℕ) → last_taken (map settle ms) ≡ last_taken ms
last_taken_settle [] = refl
last_taken_settle (zero ∷ ms) = rw (last_taken_settle ms)
last_taken_settle (suc m ∷ ms) = rw (last_taken_settle ms) (by (is_pending (suc m)) (last_taken ms))
  where
    by : (b : Bool) (l : ℕ) → above l (cond b 1 (suc m)) ≡ above l (suc m)
    by true l = above_taken l 0 ∙ sym (above_taken l m)
    by false l = refl

smallest_free_settle : (from : ℕ) (ms : List ℕ) → smallest_free from (map settle ms) ≡ smallest_free from ms
smallest_free_settle zero ms = rw (first_free_settle ms)
smallest_free_settle (suc from) [] = refl
smallest_free_settle (suc from) (m ∷ ms) =
    rw (smallest_free_suc from (settle m) (map settle ms), smallest_free_suc from m ms) (ap suc (smallest_free_settle from ms))

-- the hint does not see whether a mark waits
pub hinted_settle : (hint : ℕ) (ms : List ℕ) → hinted hint (map settle ms) ≡ map settle (hinted hint ms)
unfolding hinted
hinted_settle zero ms = refl
hinted_settle (suc hint) [] = refl
hinted_settle (suc hint) (m ∷ ms) = rw (← settle_hold m) (ap (λ l. settle (hold m) ∷ l) (hinted_settle hint ms))

-- ---- quiet
pub quiet_length : (w : ℕ) (ms : List ℕ) → length (quiet w ms) ≡ length ms
unfolding quiet
quiet_length zero ms = length-map ms settle
quiet_length (suc w) ms = refl

-- a mark that is not pending counts under both words
pub quiet_set : (w n v : ℕ) (ms : List ℕ) → (v ≡ 2 → ⊥) → quiet w (set ms n v) ≡ set (quiet w ms) n v
unfolding quiet
quiet_set zero n v ms h = map_set settle ms n v ∙ ap (set (map settle ms) n) (settle_busy v h)
quiet_set (suc w) n v ms h = refl

-- the mark of one number
pub quiet_settled : (ms : List ℕ) (n : ℕ) → get_or (quiet 0 ms) n 0 ≡ settle (get_or ms n 0)
unfolding quiet
quiet_settled ms n = get_or-map settle ms n 0

pub quiet_waiting : (w : ℕ) (ms : List ℕ) → 0 < w → quiet w ms ≡ ms
unfolding quiet
quiet_waiting zero ms h = absurd (omega arith)
quiet_waiting (suc w) ms h = refl

-- mark 0 of one list, held, in another
quiet_hold : (w : ℕ) (xs ys : List ℕ) → quiet w (set ys 0 (hold (get_or xs 0 0))) ≡ set (quiet w ys) 0 (hold (get_or (quiet w xs) 0 0))
unfolding quiet
quiet_hold zero xs ys = map_set settle ys 0 (hold (get_or xs 0 0)) ∙ ap (set (map settle ys) 0) (settle_hold (get_or xs 0 0) ∙ ap hold (sym (get_or-map settle xs 0 0)))
quiet_hold (suc w) xs ys = refl

pub quiet_first_free : (w : ℕ) (ms : List ℕ) → first_free (quiet w ms) ≡ first_free ms
unfolding quiet
quiet_first_free zero ms = first_free_settle ms
quiet_first_free (suc w) ms = refl

pub quiet_smallest_free : (w from : ℕ) (ms : List ℕ) → smallest_free from (quiet w ms) ≡ smallest_free from ms
unfolding quiet
quiet_smallest_free zero from ms = smallest_free_settle from ms
quiet_smallest_free (suc w) from ms = refl

pub quiet_free : (w : ℕ) (ms : List ℕ) → count_if is_free (quiet w ms) ≡ count_if is_free ms
unfolding quiet
quiet_free zero ms = count_if_map is_free is_free settle settle_free ms
quiet_free (suc w) ms = refl

pub quiet_live : (w : ℕ) (ms : List ℕ) → count_if is_taken (quiet w ms) ≡ count_if is_taken ms
unfolding quiet
quiet_live zero ms = count_if_map is_taken is_taken settle (λ m. ap not (settle_free m)) ms
quiet_live (suc w) ms = refl

pub quiet_last_taken : (w : ℕ) (ms : List ℕ) → last_taken (quiet w ms) ≡ last_taken ms
unfolding quiet
quiet_last_taken zero ms = last_taken_settle ms
quiet_last_taken (suc w) ms = refl

pub quiet_tip : (w : ℕ) (ms : List ℕ) (used : ℕ) → tip (quiet w ms) used ≡ tip ms used
quiet_tip w ms used = ap (λ l. tip_of l used) (quiet_last_taken w ms)

pub quiet_front : (w n : ℕ) (ms : List ℕ) → take n (quiet w ms) ≡ quiet w (take n ms)
unfolding quiet
quiet_front zero n ms = take_map settle n ms
quiet_front (suc w) n ms = refl

-- ---- counted
module _ (hint w : ℕ) (ms : List ℕ) where
  pub counted_length : length (counted hint w ms) ≡ length ms
  unfolding counted
  counted_length = quiet_length w (hinted hint ms) ∙ hinted_length hint ms

  pub counted_smallest_free : (from : ℕ) → smallest_free from (counted hint w ms) ≡ smallest_free from (hinted hint ms)
  unfolding counted
  counted_smallest_free from = quiet_smallest_free w from (hinted hint ms)

  pub counted_live : count_if is_taken (counted hint w ms) ≡ count_if is_taken (hinted hint ms)
  unfolding counted
  counted_live = quiet_live w (hinted hint ms)

  pub counted_free : count_if is_free (counted hint w ms) ≡ count_if is_free (hinted hint ms)
  unfolding counted
  counted_free = quiet_free w (hinted hint ms)

  pub counted_last_taken : last_taken (counted hint w ms) ≡ last_taken (hinted hint ms)
  unfolding counted
  counted_last_taken = quiet_last_taken w (hinted hint ms)

  pub counted_tip : (used : ℕ) → tip (counted hint w ms) used ≡ tip (hinted hint ms) used
  unfolding counted
  counted_tip used = quiet_tip w (hinted hint ms) used

  pub counted_front : (n : ℕ) → take n (counted hint w ms) ≡ counted hint w (take n ms)
  unfolding counted
  counted_front n = quiet_front w n (hinted hint ms) ∙ ap (quiet w) (hinted_front hint n ms)

  -- taking the smallest free number, under both words
  pub counted_take : (from n : ℕ) → from ≤ hint → n ≡ smallest_free from (hinted hint ms) → counted (n + 1) w (set ms n 1) ≡ set (counted hint w ms) n 1
  unfolding counted
  counted_take from n h e = ap (quiet w) (hinted_take hint from n ms h e) ∙ quiet_set w n 1 (hinted hint ms) (λ (z : 1 ≡ 2). omega arith)

  pub counted_take_id : (n : ℕ) → n ≡ smallest_free 1 (hinted hint ms)
      → counted (n + 1) w (set (set ms n 1) 0 (hold (get_or ms 0 0))) ≡ set (set (counted hint w ms) n 1) 0 (hold (get_or (counted hint w ms) 0 0))
  unfolding counted
  counted_take_id n e =
      ap (quiet w) (hinted_take_id hint n ms e) ∙ quiet_hold w (hinted hint ms) (set (hinted hint ms) n 1)
      ∙ ap (λ l. set l 0 (hold (get_or (quiet w (hinted hint ms)) 0 0))) (quiet_set w n 1 (hinted hint ms) (λ (z : 1 ≡ 2). omega arith))

  -- giving back, under both words
  pub counted_give_back : (n : ℕ) → counted (hint_back hint n ms) w (given_back hint n ms) ≡ set (counted hint w ms) n 0
  unfolding counted
  counted_give_back n = ap (quiet w) (hinted_give_back hint n ms) ∙ quiet_set w n 0 (hinted hint ms) (λ (z : 0 ≡ 2). omega arith)

  -- a mark that is neither free nor pending counts as it stands, under both words
  pub counted_mark : (n v : ℕ) → (v ≡ 0 → ⊥) → (v ≡ 2 → ⊥) → counted hint w (set ms n v) ≡ set (counted hint w ms) n v
  unfolding counted
  counted_mark n v z p = ap (quiet w) (hinted_mark hint n v ms z) ∙ quiet_set w n v (hinted hint ms) p

  -- a mark becomes pending where something waits already
  pub counted_pending : (n : ℕ) → counted hint (suc w) (set ms n 2) ≡ set (counted hint (suc w) ms) n 2
  unfolding counted quiet
  counted_pending n = hinted_mark hint n 2 ms (λ (z : 2 ≡ 0). omega arith)

  -- release: what was pending is free, and nothing waits
  pub counted_release : counted 0 0 (map let_go (counted hint (suc w) ms)) ≡ map let_go (counted hint (suc w) ms)
  unfolding counted quiet hinted
  counted_release = map-map settle let_go (hinted hint ms) ∙ map_same (λ m. settle (let_go m)) let_go settle_let_go (hinted hint ms)

module _ (hint : ℕ) (ms : List ℕ) where
  -- where nothing waits, marks may be settled
  pub counted_settle : counted hint 1 (map settle ms) ≡ counted hint 0 ms
  unfolding counted quiet
  counted_settle = hinted_settle hint ms

  -- a mark becomes pending where nothing waited
  pub counted_first_pending : (n : ℕ) → counted hint 1 (set (map settle ms) n 2) ≡ set (counted hint 0 ms) n 2
  counted_first_pending n = counted_pending hint 0 (map settle ms) n ∙ ap (λ l. set l n 2) counted_settle

  -- where nothing waits a release changes nothing
  pub counted_none_pending : count_if is_pending (counted hint 0 ms) ≡ 0
  unfolding counted quiet
  counted_none_pending = count_if_map is_pending (λ m. false) settle settle_pending (hinted hint ms) ∙ count_if_none (hinted hint ms)

  pub counted_quiet_release : map let_go (counted hint 0 ms) ≡ counted hint 0 ms
  unfolding counted quiet
  counted_quiet_release = map-map let_go settle (hinted hint ms) ∙ map_same (λ m. let_go (settle m)) settle let_go_settle (hinted hint ms)

-- with the hint at 0, marks of which none is 2 count as they stand
pub counted_plain : (w : ℕ) (ms : List ℕ) → count_if is_pending ms ≡ 0 → counted 0 w ms ≡ ms
unfolding counted hinted quiet
counted_plain zero ms e = settle_none ms e
counted_plain (suc w) ms e = refl

-- ---- whether a number is held
is_held_settle : (m : ℕ) → is_held (settle m) ≡ is_taken m
is_held_settle m = rw (settle_free m, settle_pending m) (by (is_free m))
  where
    by : (b : Bool) → not (b || false) ≡ not b
    by true = refl
    by false = refl

quiet_is_held : (w : ℕ) (ms : List ℕ) (n m : ℕ) → get_or ms n 0 ≡ m → is_held (get_or (quiet w ms) n 0) ≡ cond (eqb w 0) (is_taken m) (is_held m)
quiet_is_held zero ms n m e = ap is_held (quiet_settled ms n ∙ ap settle e) ∙ is_held_settle m
quiet_is_held (suc w) ms n m e = rw (quiet_waiting (suc w) ms (omega arith), e, eqb-suc-zero w)

module _ (hint w : ℕ) (ms : List ℕ) (n : ℕ) where
  pub is_held_past : length ms ≤ n → is_held (get_or (counted hint w ms) n 0) ≡ false
  is_held_past h = ap is_held (get_or-eq_default (counted hint w ms) 0 (omega (arith, counted_length hint w ms)))

  -- a 0 is held below the hint
  pub is_held_free : n < length ms → get_or ms n 0 ≡ 0 → is_held (get_or (counted hint w ms) n 0) ≡ ltb n hint
  unfolding counted
  is_held_free l e =
      by_test (ltb n hint)
      (λ b. quiet_is_held w (hinted hint ms) n 1 (hinted_below hint ms n l (ltb-true n hint b) ∙ ap hold e) ∙ by (eqb w 0) true ∙ sym b)
      (λ b. quiet_is_held w (hinted hint ms) n 0 (hinted_from hint ms n (ltb-false n hint b) ∙ e) ∙ by (eqb w 0) false ∙ sym b)
    where
      by : (t b : Bool) → cond t b b ≡ b
      by true b = refl
      by false b = refl

  -- a 2 is held where nothing waits
  pub is_held_pending : get_or ms n 0 ≡ 2 → is_held (get_or (counted hint w ms) n 0) ≡ eqb w 0
  unfolding counted
  is_held_pending e = quiet_is_held w (hinted hint ms) n 2 (hinted_busy hint ms n (λ z. omega arith) ∙ e) ∙ by (eqb w 0)
    where
      by : (t : Bool) → cond t true false ≡ t
      by true = refl
      by false = refl

  -- any other mark is held
  pub is_held_held : (get_or ms n 0 ≡ 0 → ⊥) → (get_or ms n 0 ≡ 2 → ⊥) → is_held (get_or (counted hint w ms) n 0) ≡ true
  unfolding counted
  is_held_held z p =
      quiet_is_held w (hinted hint ms) n (get_or ms n 0) (hinted_busy hint ms n z) ∙ rw (ne_eqb (get_or ms n 0) 0 z, ne_eqb (get_or ms n 0) 2 p) (by (eqb w 0))
    where
      by : (t : Bool) → cond t true true ≡ true
      by true = refl
      by false = refl
