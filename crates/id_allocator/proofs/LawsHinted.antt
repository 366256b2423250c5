-- Laws of `hinted`: the search starts at the hint, and each way of writing a mark and moving the hint changes exactly one mark as it counts.
-- By recursion over the hint and the marks together. Assumes nothing.
use mathlib.Core.List.{List, [], ◌∷◌, ◌++◌, map}
use mathlib.Core.Path.{◌≡◌, refl, sym, ap, ◌∙◌}
use Prim.Native.Nat.{ℕ, zero, suc, ◌+◌, ◌-◌, ◌≤◌, ◌<◌, min, max}
use native.Mathlib.Numerals.{add-one}
use native.Mathlib.Omega.{arith}
use lib.Dec.{ltb, eqb-suc-zero}
use lib.ListN.{length, get_or, take, drop, set, length-map, length-drop, take-append-drop}
use lib.Seq.{length_front, set_out}
use borrow.Author.Tests.{ltb-true, ltb-false}
use borrow.Rule.Slice.PartMut.{put_mid}
use Rattle.refusal.proofs.Tests.{by_test}
use Rattle.marks.specs.Marks.{is_free, is_pending, is_taken, first_free, smallest_free, count_if, last_taken, hold}
use Rattle.id_allocator.specs.Counted.{hinted}
use Rattle.marks.specs.Turned.{turned}
use Rattle.id_allocator.specs.Written.{opened, given_back, hint_back}
use Rattle.marks.proofs.LawsFree.{smallest_free_suc}
use Rattle.marks.proofs.LawsCount.{above_taken}
use Rattle.marks.proofs.LawsMapped.{map_same}

-- ---- hold
pub hold_busy : (m : ℕ) → (m ≡ 0 → ⊥) → hold m ≡ m
hold_busy zero n = absurd (n refl)
hold_busy (suc m) n = refl

pub hold_hold : (m : ℕ) → hold (hold m) ≡ hold m
hold_hold zero = refl
hold_hold (suc m) = refl

pub hold_pending : (m : ℕ) → is_pending (hold m) ≡ is_pending m
hold_pending zero = refl
hold_pending (suc m) = refl

first_free_hold : (m : ℕ) (ms : List ℕ) → first_free (hold m ∷ ms) ≡ suc (first_free ms)
first_free_hold zero ms = refl
first_free_hold (suc m) ms = refl

last_taken_hold : (m : ℕ) (ms : List ℕ) → last_taken (hold m ∷ ms) ≡ suc (last_taken ms)
last_taken_hold zero ms = above_taken (last_taken ms) 0
last_taken_hold (suc m) ms = above_taken (last_taken ms) m

-- ---- hinted
pub hinted_zero : (ms : List ℕ) → hinted 0 ms ≡ ms
unfolding hinted
hinted_zero ms = refl

pub hinted_nil : (hint : ℕ) → hinted hint [] ≡ []
unfolding hinted
hinted_nil zero = refl
hinted_nil (suc hint) = refl

pub hinted_cons : (hint m : ℕ) (ms : List ℕ) → hinted (suc hint) (m ∷ ms) ≡ hold m ∷ hinted hint ms
unfolding hinted
hinted_cons hint m ms = refl

pub hinted_length : (hint : ℕ) (ms : List ℕ) → length (hinted hint ms) ≡ length ms
unfolding hinted
hinted_length hint ms = length_front ms (map hold (take hint ms)) hint (length-map (take hint ms) hold)

-- of the first marks alone
pub hinted_front : (hint n : ℕ) (ms : List ℕ) → take n (hinted hint ms) ≡ hinted hint (take n ms)
unfolding hinted
hinted_front zero n ms = refl
hinted_front (suc hint) zero ms = refl
hinted_front (suc hint) (suc n) [] = refl
hinted_front (suc hint) (suc n) (m ∷ ms) = ap (λ l. hold m ∷ l) (hinted_front hint n ms)

-- no hint is beyond the marks
pub hinted_within : (hint : ℕ) (ms : List ℕ) → hinted hint ms ≡ hinted (min hint (length ms)) ms
unfolding hinted
hinted_within zero ms = let e : min 0 (length ms) ≡ 0 = omega arith in rw e
hinted_within (suc hint) [] = hinted_nil (suc hint) ∙ sym (hinted_nil (min (suc hint) 0))
hinted_within (suc hint) (m ∷ ms) =
    let e : min (suc hint) (suc (length ms)) ≡ suc (min hint (length ms)) = omega arith in
    rw e (ap (λ l. hold m ∷ l) (hinted_within hint ms))

pub hinted_at : (hint h : ℕ) (ms : List ℕ) → h ≡ min hint (length ms) → hinted hint ms ≡ hinted h ms
hinted_at hint h ms e = hinted_within hint ms ∙ ap (λ k. hinted k ms) (sym e)

-- the mark of one number
pub hinted_below : (hint : ℕ) (ms : List ℕ) (j : ℕ) → j < length ms → j < hint → get_or (hinted hint ms) j 0 ≡ hold (get_or ms j 0)
unfolding hinted
hinted_below hint [] j l h = absurd (omega arith)
hinted_below zero (m ∷ ms) j l h = absurd (omega arith)
hinted_below (suc hint) (m ∷ ms) zero l h = refl
hinted_below (suc hint) (m ∷ ms) (suc j) l h = hinted_below hint ms j (omega arith) (omega arith)

pub hinted_from : (hint : ℕ) (ms : List ℕ) (j : ℕ) → hint ≤ j → get_or (hinted hint ms) j 0 ≡ get_or ms j 0
unfolding hinted
hinted_from zero ms j h = refl
hinted_from (suc hint) [] j h = refl
hinted_from (suc hint) (m ∷ ms) zero h = absurd (omega arith)
hinted_from (suc hint) (m ∷ ms) (suc j) h = hinted_from hint ms j (omega arith)

pub hinted_busy : (hint : ℕ) (ms : List ℕ) (j : ℕ) → (get_or ms j 0 ≡ 0 → ⊥) → get_or (hinted hint ms) j 0 ≡ get_or ms j 0
unfolding hinted
hinted_busy zero ms j n = refl
hinted_busy (suc hint) [] j n = refl
hinted_busy (suc hint) (m ∷ ms) zero n = hold_busy m n
hinted_busy (suc hint) (m ∷ ms) (suc j) n = hinted_busy hint ms j n

-- the search starts at the hint
pub hinted_search : (hint from : ℕ) (ms : List ℕ) → smallest_free from (hinted hint ms) ≡ smallest_free (max from (min hint (length ms))) ms
unfolding hinted
hinted_search zero from ms = let e : max from (min 0 (length ms)) ≡ from = omega arith in rw e
hinted_search (suc hint) from [] = let e : max from (min (suc hint) 0) ≡ from = omega arith in rw e
hinted_search (suc hint) zero (m ∷ ms) =
    let e : max 0 (min (suc hint) (suc (length ms))) ≡ suc (max 0 (min hint (length ms))) = omega arith in
    rw (e, smallest_free_suc (max 0 (min hint (length ms))) m ms, first_free_hold m (hinted hint ms)) (omega (arith, hinted_search hint 0 ms))
hinted_search (suc hint) (suc from) (m ∷ ms) =
    let e : max (suc from) (min (suc hint) (suc (length ms))) ≡ suc (max from (min hint (length ms))) = omega arith in
    rw (e, smallest_free_suc from (hold m) (hinted hint ms), smallest_free_suc (max from (min hint (length ms))) m ms) (ap suc (hinted_search hint from ms))

-- a mark that is not 0 counts as it stands
pub hinted_mark : (hint n v : ℕ) (ms : List ℕ) → (v ≡ 0 → ⊥) → hinted hint (set ms n v) ≡ set (hinted hint ms) n v
unfolding hinted
hinted_mark zero n v ms h = refl
hinted_mark (suc hint) n v [] h = refl
hinted_mark (suc hint) zero v (m ∷ ms) h = ap (λ k. k ∷ hinted hint ms) (hold_busy v h)
hinted_mark (suc hint) (suc n) v (m ∷ ms) h = ap (λ l. hold m ∷ l) (hinted_mark hint n v ms h)

-- taking the smallest free number moves the hint past it
hinted_taken : (ms : List ℕ) → hinted (suc (first_free ms)) (set ms (first_free ms) 1) ≡ set ms (first_free ms) 1
unfolding hinted
hinted_taken [] = refl
hinted_taken (zero ∷ ms) = refl
hinted_taken (suc m ∷ ms) = ap (λ l. suc m ∷ l) (hinted_taken ms)

hinted_first : (hint : ℕ) (ms : List ℕ) → hinted (suc (first_free (hinted hint ms))) (set ms (first_free (hinted hint ms)) 1) ≡ set (hinted hint ms) (first_free (hinted hint ms)) 1
unfolding hinted
hinted_first zero ms = hinted_taken ms
hinted_first (suc hint) [] = refl
hinted_first (suc hint) (m ∷ ms) = rw (first_free_hold m (hinted hint ms)) (ap (λ l. hold m ∷ l) (hinted_first hint ms))

hinted_next : (hint from : ℕ) (ms : List ℕ) → from ≤ hint
    → hinted (suc (smallest_free from (hinted hint ms))) (set ms (smallest_free from (hinted hint ms)) 1) ≡ set (hinted hint ms) (smallest_free from (hinted hint ms)) 1
unfolding hinted
hinted_next hint zero ms h = let e : smallest_free 0 (hinted hint ms) ≡ first_free (hinted hint ms) = omega arith in rw e (hinted_first hint ms)
hinted_next zero (suc from) ms h = absurd (omega arith)
hinted_next (suc hint) (suc from) [] h = refl
hinted_next (suc hint) (suc from) (m ∷ ms) h = rw (smallest_free_suc from (hold m) (hinted hint ms)) (ap (λ l. hold m ∷ l) (hinted_next hint from ms (omega arith)))

pub hinted_take : (hint from n : ℕ) (ms : List ℕ) → from ≤ hint → n ≡ smallest_free from (hinted hint ms) → hinted (n + 1) (set ms n 1) ≡ set (hinted hint ms) n 1
hinted_take hint from n ms h e = rw (add-one n, e) (hinted_next hint from ms h)

hinted_id : (hint : ℕ) (ms : List ℕ)
    → hinted (suc (smallest_free 1 (hinted hint ms))) (set (set ms (smallest_free 1 (hinted hint ms)) 1) 0 (hold (get_or ms 0 0)))
    ≡ set (set (hinted hint ms) (smallest_free 1 (hinted hint ms)) 1) 0 (hold (get_or (hinted hint ms) 0 0))
unfolding hinted
hinted_id zero [] = refl
hinted_id (suc hint) [] = refl
hinted_id zero (m ∷ ms) =
    let e : 1 + first_free ms ≡ suc (first_free ms) = omega arith in
    rw (e, hold_hold m) (ap (λ l. hold m ∷ l) (hinted_taken ms))
hinted_id (suc hint) (m ∷ ms) =
    let e : 1 + first_free (hinted hint ms) ≡ suc (first_free (hinted hint ms)) = omega arith in
    rw e (ap (λ l. hold (hold m) ∷ l) (hinted_first hint ms))

-- the same for a search from 1, by which 0 becomes held as well
pub hinted_take_id : (hint n : ℕ) (ms : List ℕ) → n ≡ smallest_free 1 (hinted hint ms)
    → hinted (n + 1) (set (set ms n 1) 0 (hold (get_or ms 0 0))) ≡ set (set (hinted hint ms) n 1) 0 (hold (get_or (hinted hint ms) 0 0))
hinted_take_id hint n ms e = rw (add-one n, e) (hinted_id hint ms)

-- ---- giving back
hinted_opened : (hint n : ℕ) (ms : List ℕ) → n < length ms → hinted (min hint n) (set (opened hint n ms) n 0) ≡ set (hinted hint ms) n 0
unfolding hinted
hinted_opened hint n [] h = absurd (omega arith)
hinted_opened hint zero (m ∷ ms) h = let e : min hint 0 ≡ 0 = omega arith in let d : hint - 0 ≡ hint = omega arith in rw (e, d)
hinted_opened zero (suc n) (m ∷ ms) h =
    let e : min 0 (suc n) ≡ 0 = omega arith in
    let d : 0 - suc n ≡ 0 = omega arith in
    rw (e, d, take-append-drop n ms)
hinted_opened (suc hint) (suc n) (m ∷ ms) h =
    let e : min (suc hint) (suc n) ≡ suc (min hint n) = omega arith in
    let d : suc hint - suc n ≡ hint - n = omega arith in
    rw (e, d) (ap (λ l. hold m ∷ l) (hinted_opened hint n ms (omega arith)))

-- the code's part, from n to the hint or the end
pub turned_hold : (m : ℕ) → turned 0 1 m ≡ hold m
turned_hold zero = refl
turned_hold (suc m) = rw (eqb-suc-zero m)

pub opened_part : (hint n end : ℕ) (ms ys : List ℕ) → n ≤ length ms → end ≡ max n (min hint (length ms))
    → ys ≡ map (turned 0 1) (take (end - n) (drop n ms)) → put_mid n (end - n) ms ys ≡ opened hint n ms
unfolding hinted
opened_part hint n end ms ys h e y =
    let k : min (hint - n) (length (drop n ms)) ≡ end - n = omega (arith, length-drop n ms) in
    let held : ys ≡ map hold (take (end - n) (drop n ms)) = y ∙ map_same (turned 0 1) hold turned_hold (take (end - n) (drop n ms)) in
    ap (λ l. take n ms ++ l) (rw held (sym (hinted_within (hint - n) (drop n ms) ∙ ap (λ j. hinted j (drop n ms)) k)))

-- giving n back: exactly its mark changes, to free, and nothing where n is no number
pub hinted_give_back : (hint n : ℕ) (ms : List ℕ) → hinted (hint_back hint n ms) (given_back hint n ms) ≡ set (hinted hint ms) n 0
unfolding hint_back given_back
hinted_give_back hint n ms =
    by_test (ltb n (length ms))
    (λ e. rw e (hinted_opened hint n ms (ltb-true n (length ms) e)))
    (λ e. rw e (sym (set_out (hinted hint ms) n 0 (omega (arith, ltb-false n (length ms) e, hinted_length hint ms)))))

-- ---- what counts
pub hinted_live : (hint : ℕ) (ms : List ℕ) → count_if is_taken (hinted hint ms) ≡ min hint (length ms) + count_if is_taken (drop hint ms)
unfolding hinted
hinted_live zero ms = omega arith
hinted_live (suc hint) [] = omega arith
hinted_live (suc hint) (zero ∷ ms) = let r = hinted_live hint ms in omega arith
hinted_live (suc hint) (suc m ∷ ms) = let r = hinted_live hint ms in rw (eqb-suc-zero m) (omega arith)

pub hinted_free : (hint : ℕ) (ms : List ℕ) → count_if is_free (hinted hint ms) ≡ count_if is_free (drop hint ms)
unfolding hinted
hinted_free zero ms = refl
hinted_free (suc hint) [] = refl
hinted_free (suc hint) (zero ∷ ms) = hinted_free hint ms
hinted_free (suc hint) (suc m ∷ ms) = rw (eqb-suc-zero m) (hinted_free hint ms)

pub hinted_pending : (hint : ℕ) (ms : List ℕ) → count_if is_pending (hinted hint ms) ≡ count_if is_pending ms
unfolding hinted
hinted_pending zero ms = refl
hinted_pending (suc hint) [] = refl
hinted_pending (suc hint) (m ∷ ms) = rw (hold_pending m, hinted_pending hint ms)

pub hinted_last_taken : (hint : ℕ) (ms : List ℕ) → last_taken (hinted hint ms) ≡ min hint (length ms) + last_taken (drop hint ms)
unfolding hinted
hinted_last_taken zero ms = omega arith
hinted_last_taken (suc hint) [] = omega arith
hinted_last_taken (suc hint) (m ∷ ms) = let r = hinted_last_taken hint ms in rw (last_taken_hold m (hinted hint ms)) (omega arith)
