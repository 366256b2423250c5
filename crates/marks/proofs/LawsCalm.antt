-- What a search and a release pass over: marks of which none is one that they look for. Assumes nothing.
use mathlib.Core.Path.{◌≡◌, refl, sym, ap, ◌∙◌}
use mathlib.Core.Bool.{Bool, true, false, not, cond}
use mathlib.Core.List.{List, [], ◌∷◌, ◌++◌, map}
use Prim.Native.Nat.{ℕ, zero, suc, ◌+◌, ◌<◌, ◌≤◌}
use Prim.Native.Nat.compare
use native.Mathlib.Numerals.{add-one}
use native.Mathlib.Omega.{arith}
use lib.Dec.{eqb}
use lib.ListN.{length}
use borrow.Author.Tests.{eqb-true, eq-eqb, ne_eqb}
use Rattle.std.specs.Prelude.{◌||◌}
use Rattle.std.proofs.lemmas.List.{length_push}
use Rattle.refusal.proofs.Tests.{clash}
use Rattle.marks.specs.Marks.{is_pending, is_taken, first_free, count_if, last_taken, let_go}
use Rattle.marks.specs.Turned.{is_mark, has_mark, has_other, released}
use Rattle.marks.proofs.LawsCount.{count_if_le, count_if_append, count_if_taken_free, live_le_last_taken}

-- ---- whether any is this one, or another: one more mark
some_more : (n : ℕ) (b : Bool) → not (eqb (n + cond b 1 0) 0) ≡ (not (eqb n 0) || b)
some_more zero true = refl
some_more zero false = refl
some_more (suc n) b = rw (ne_eqb (suc n + cond b 1 0) 0 (λ h. omega arith), ne_eqb (suc n) 0 (λ h. omega arith)) refl

pub has_more : (mark : ℕ) (ms : List ℕ) (m : ℕ) → has_mark mark (ms ++ m ∷ []) ≡ (has_mark mark ms || eqb m mark)
unfolding has_mark
has_more mark ms m = rw (count_if_append (is_mark mark) ms (m ∷ [])) (some_more (count_if (is_mark mark) ms) (is_mark mark m))

or_not : (b : Bool) → (b || not true) ≡ b
or_not true = refl
or_not false = refl

or_true : (b : Bool) → (b || not false) ≡ true
or_true true = refl
or_true false = refl

other_more : (n l : ℕ) (b : Bool) → n ≤ l → not (eqb (n + cond b 1 0) (l + 1)) ≡ (not (eqb n l) || not b)
other_more n l true h = rw (add-one n, add-one l, compare.suc-suc n l) (sym (or_not (not (eqb n l))))
other_more n l false h = rw (ne_eqb (n + 0) (l + 1) (λ e. omega arith)) (sym (or_true (not (eqb n l))))

pub has_other_more : (mark : ℕ) (ms : List ℕ) (m : ℕ) → has_other mark (ms ++ m ∷ []) ≡ (has_other mark ms || not (eqb m mark))
unfolding has_other
has_other_more mark ms m =
    rw (count_if_append (is_mark mark) ms (m ∷ []), length_push ms m) (other_more (count_if (is_mark mark) ms) (length ms) (is_mark mark m) (count_if_le (is_mark mark) ms))

has_by : (found : Bool) (n : ℕ) → (found ≡ false → n ≡ 0) → (found ≡ true → 0 < n) → found ≡ not (eqb n 0)
has_by false n none some = rw (none refl) refl
has_by true n none some = rw (ne_eqb n 0 (λ h. let s = some refl in omega arith)) refl

pub has_is : (mark : ℕ) (ms : List ℕ) (found : Bool) → (found ≡ false → count_if (is_mark mark) ms ≡ 0) → (found ≡ true → 0 < count_if (is_mark mark) ms) → found ≡ has_mark mark ms
unfolding has_mark
has_is mark ms found = has_by found (count_if (is_mark mark) ms)

none_by : (n : ℕ) → not (eqb n 0) ≡ false → n ≡ 0
none_by zero e = refl
none_by (suc n) e = clash (rw (ne_eqb (suc n) 0 (λ h. omega arith)) at e)

pub has_none : (mark : ℕ) (ms : List ℕ) → has_mark mark ms ≡ false → count_if (is_mark mark) ms ≡ 0
unfolding has_mark
has_none mark ms = none_by (count_if (is_mark mark) ms)

some_of : (n : ℕ) → not (eqb n 0) ≡ true → 0 < n
some_of zero e = clash (sym e)
some_of (suc n) e = omega arith

pub has_some : (mark : ℕ) (ms : List ℕ) → has_mark mark ms ≡ true → 0 < count_if (is_mark mark) ms
unfolding has_mark
has_some mark ms = some_of (count_if (is_mark mark) ms)

-- ---- none is free, or one is
pub none_free_lem : (ms : List ℕ) → count_if (is_mark 0) ms ≡ 0 → first_free ms ≡ length ms
none_free_lem [] e = refl
none_free_lem (zero ∷ ms) e = absurd (omega arith)
none_free_lem (suc m ∷ ms) e = ap suc (none_free_lem ms (rw (ne_eqb (suc m) 0 (λ h. omega arith)) at e))

pub some_free : (ms : List ℕ) → 0 < count_if (is_mark 0) ms → first_free ms < length ms
some_free [] h = omega arith
some_free (zero ∷ ms) h = omega arith
some_free (suc m ∷ ms) h = let r = some_free ms (rw (ne_eqb (suc m) 0 (λ e. omega arith)) at h) in omega arith

-- ---- none is pending, where a 0 stays
stays : (m : ℕ) (b : Bool) → eqb m 0 ≡ b → cond b 0 m ≡ m
stays m true e = sym (eqb-true m 0 e)
stays m false e = refl

let_go_lem : (m : ℕ) → is_pending m ≡ false → let_go m ≡ m
let_go_lem m e = rw e refl

kept : (m : ℕ) → is_pending m ≡ false → m ≡ released 0 m
kept m e = sym (ap (λ (x : ℕ). let_go x) (stays m (eqb m 0) refl) ∙ let_go_lem m e)

calm_next : (m n : ℕ) (ms : List ℕ) (b : Bool) → is_pending m ≡ b → cond b (suc n) n ≡ 0 → (n ≡ 0 → ms ≡ map (released 0) ms) → m ∷ ms ≡ map (released 0) (m ∷ ms)
calm_next m n ms true p e f = absurd (omega arith)
calm_next m n ms false p e f = λ k. kept m p k ∷ f e k

pub calm : (ms : List ℕ) → count_if (is_mark 2) ms ≡ 0 → ms ≡ map (released 0) ms
calm [] e = refl
calm (m ∷ ms) e = calm_next m (count_if (is_mark 2) ms) ms (is_pending m) refl e (calm ms)

-- ---- all are held
abbrev pub Held : ℕ → List ℕ → Type 0
Held z ms = (count_if is_pending ms ≡ 0) × (ms ≡ map (released z) ms)

held_next : (z m n : ℕ) (ms : List ℕ) (b : Bool) → is_mark 1 m ≡ b → cond b (suc n) n ≡ suc (length ms) → n ≤ length ms → (n ≡ length ms → Held z ms) → Held z (m ∷ ms)
held_next z m n ms true p e l f = let r = f (omega arith) in rw (eqb-true m 1 p) (r.0, ap (λ (t : List ℕ). 1 ∷ t) r.1)
held_next z m n ms false p e l f = absurd (omega arith)

same_by : (n l : ℕ) (b : Bool) → eqb n l ≡ b → not b ≡ false → n ≡ l
same_by n l true e h = eqb-true n l e
same_by n l false e h = clash h

pub has_other_none : (mark : ℕ) (ms : List ℕ) → has_other mark ms ≡ false → count_if (is_mark mark) ms ≡ length ms
unfolding has_other
has_other_none mark ms = same_by (count_if (is_mark mark) ms) (length ms) (eqb (count_if (is_mark mark) ms) (length ms)) refl

pub all_held : (z : ℕ) (ms : List ℕ) → count_if (is_mark 1) ms ≡ length ms → Held z ms
all_held z [] e = (refl, refl)
all_held z (m ∷ ms) e = held_next z m (count_if (is_mark 1) ms) ms (is_mark 1 m) refl e (count_if_le (is_mark 1) ms) (all_held z ms)

-- ---- all are free, or one is taken
all_free : (ms : List ℕ) → count_if (is_mark 0) ms ≡ length ms → last_taken ms ≡ 0
all_free [] e = refl
all_free (zero ∷ ms) e = rw (all_free ms (omega arith)) refl
all_free (suc m ∷ ms) e = absurd (omega (arith, rw (ne_eqb (suc m) 0 (λ h. omega arith)) at e, count_if_le (is_mark 0) ms))

pub has_other_free : (ms : List ℕ) → has_other 0 ms ≡ false → last_taken ms ≡ 0
has_other_free ms e = all_free ms (has_other_none 0 ms e)

taken_by : (n l t : ℕ) → not (eqb n l) ≡ true → t + n ≡ l → 0 < t
taken_by n l zero e h = clash (sym (rw (eq-eqb n l (omega arith)) at e))
taken_by n l (suc t) e h = omega arith

pub has_other_taken : (ms : List ℕ) → has_other 0 ms ≡ true → 0 < last_taken ms
unfolding has_other
has_other_taken ms e =
    omega (arith, taken_by (count_if (is_mark 0) ms) (length ms) (count_if is_taken ms) e (count_if_taken_free ms), live_le_last_taken ms)
