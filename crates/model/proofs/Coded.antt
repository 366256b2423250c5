-- Answers compared by their numbers: two with the same outcome, or with the same code, are one. So the cases and the samples are computed: antt compares
-- two numbers at once, but two answers only part by part, and computes the whole history again for each part. Assumes nothing.
use mathlib.Core.Path.{◌≡◌, refl, sym, ap}
use mathlib.Core.Bool.{Bool, true, false, ◌&&◌}
use mathlib.Core.List.{List, [], ◌∷◌, map}
use Prim.Native.Nat.{ℕ}
use lib.Dec.{eqb}
use lib.ListN.{get_or, drop}
use borrow.Author.Tests.{eqb-true}
use Rattle.refusal.specs.Refusals.{number_of}
use Rattle.refusal.proofs.Outcomes.{kind_of, kind_of_number, number_one}
use Rattle.refusal.specs.Outcomes.{Values, granted, refused}
use Rattle.refusal.proofs.Outcomes.{one_by}
use Rattle.refusal.proofs.Tests.{clash, and_true}
use Rattle.model.specs.Store.{Cut, keep, cut, Told, Standing, Reason, not_stored, full_enough, before_line, listed}
use Rattle.model.specs.Store.{done, gave, found, told, placed, counts, moves, because, wrote, truncated, Answer}
use Rattle.model.specs.Tables.{ids_of, locations_of}
use Rattle.model.specs.Rebuild.{rows_of}
use Rattle.model.specs.Outcomes.{sum_values, reason_values}
use Rattle.model.proofs.Rows.{rows_of_rows}

-- ---- lists of numbers

abbrev pub same_list : List ℕ → List ℕ → Bool
same_list [] [] = true
same_list [] (y ∷ ys) = false
same_list (x ∷ xs) [] = false
same_list (x ∷ xs) (y ∷ ys) = eqb x y && same_list xs ys

same_list_eq : (xs ys : List ℕ) → same_list xs ys ≡ true → xs ≡ ys
same_list_eq [] [] e = refl
same_list_eq [] (y ∷ ys) e = clash (sym e)
same_list_eq (x ∷ xs) [] e = clash (sym e)
same_list_eq (x ∷ xs) (y ∷ ys) e =
    let both = and_true (eqb x y) (same_list xs ys) e in
    λ k. eqb-true x y both.0 k ∷ same_list_eq xs ys both.1 k

-- ---- outcomes, which tell the answer of a leaf

abbrev pub same_values : Values → Values → Bool
same_values (granted xs) (granted ys) = same_list xs ys
same_values (granted xs) (refused n i) = false
same_values (refused n i) (granted ys) = false
same_values (refused n i) (refused k j) = eqb (number_of n) (number_of k) && eqb i j

pub same_values_eq : (a b : Values) → same_values a b ≡ true → a ≡ b
same_values_eq (granted xs) (granted ys) e = ap granted (same_list_eq xs ys e)
same_values_eq (granted xs) (refused n i) e = clash (sym e)
same_values_eq (refused n i) (granted ys) e = clash (sym e)
same_values_eq (refused n i) (refused k j) e =
    let both = and_true (eqb (number_of n) (number_of k)) (eqb i j) e in
    λ t. refused (number_one n k (eqb-true (number_of n) (number_of k) both.0) t) (eqb-true i j both.1 t)

-- ---- codes: a number that says which of its type an answer is, and the answer's numbers; then its lists

abbrev pub Code : Type 0
Code = List (List ℕ)

abbrev pub same_code : Code → Code → Bool
same_code [] [] = true
same_code [] (y ∷ ys) = false
same_code (x ∷ xs) [] = false
same_code (x ∷ xs) (y ∷ ys) = same_list x y && same_code xs ys

same_code_eq : (xs ys : Code) → same_code xs ys ≡ true → xs ≡ ys
same_code_eq [] [] e = refl
same_code_eq [] (y ∷ ys) e = clash (sym e)
same_code_eq (x ∷ xs) [] e = clash (sym e)
same_code_eq (x ∷ xs) (y ∷ ys) e =
    let both = and_true (same_list x y) (same_code xs ys) e in
    λ k. same_list_eq x y both.0 k ∷ same_code_eq xs ys both.1 k

-- what can be read back is told by its code
by_code : {A : Type 0} (code : A → Code) (read : Code → A) → ((a : A) → read (code a) ≡ a) → (a b : A) → same_code (code a) (code b) ≡ true → a ≡ b
by_code code read back a b e = one_by code read back a b (same_code_eq (code a) (code b) e)

-- the number at a place of the first list
abbrev at : Code → ℕ → ℕ
at c k = get_or (get_or c 0 []) k 0

-- ---- the store's answers

abbrev pub cut_code : Cut → Code
cut_code keep = (0 ∷ []) ∷ []
cut_code (cut n b) = (1 ∷ n ∷ b ∷ []) ∷ []

abbrev cut_in : Code → Cut
cut_in c = get_or (keep ∷ []) (at c 0) (cut (at c 1) (at c 2))

cut_back : (a : Cut) → cut_in (cut_code a) ≡ a
cut_back keep = refl
cut_back (cut n b) = refl

abbrev told_code : Told → List ℕ
told_code t = t.number ∷ t.location ∷ t.carried

abbrev told_in : List ℕ → Told
told_in xs = record { number = get_or xs 0 0; location = get_or xs 1 0; carried = drop 2 xs }

told_back : (ts : List Told) → map told_in (map told_code ts) ≡ ts
told_back [] = refl
told_back (t ∷ ts) = ap (λ (xs : List Told). t ∷ xs) (told_back ts)

abbrev standing_in : List ℕ → Standing
standing_in vs = record { slab = get_or vs 1 0; slot = get_or vs 2 0; smaller = get_or vs 3 0; live = get_or vs 4 0; tip = get_or vs 5 0 }

abbrev reason_in : List ℕ → Reason
reason_in vs =
    get_or (not_stored ∷ full_enough (standing_in vs) ∷ before_line (standing_in vs) (get_or vs 6 0) ∷ []) (get_or vs 0 0) (listed (standing_in vs) (get_or vs 6 0))

reason_back : (g : Reason) → reason_in (reason_values g) ≡ g
reason_back not_stored = refl
reason_back (full_enough w) = refl
reason_back (before_line w line) = refl
reason_back (listed w line) = refl

abbrev pub answer_code : Answer → Code
answer_code (refused k i) = (0 ∷ number_of k ∷ i ∷ []) ∷ []
answer_code (granted done) = (1 ∷ []) ∷ []
answer_code (granted (gave n)) = (2 ∷ n ∷ []) ∷ []
answer_code (granted (found l c)) = (3 ∷ l ∷ []) ∷ c ∷ []
answer_code (granted (placed ls)) = (4 ∷ []) ∷ ls ∷ []
answer_code (granted (counts g f z)) = (5 ∷ sum_values z) ∷ g ∷ f ∷ []
answer_code (granted (moves ms)) = (6 ∷ []) ∷ ids_of ms ∷ locations_of ms ∷ []
answer_code (granted (wrote bytes)) = (7 ∷ []) ∷ bytes ∷ []
answer_code (granted (told ts)) = (8 ∷ []) ∷ map told_code ts
answer_code (granted (because g)) = (9 ∷ []) ∷ reason_values g ∷ []
answer_code (granted (truncated c)) = (10 ∷ []) ∷ cut_code c

abbrev answer_in : Code → Answer
answer_in c =
    get_or (refused (kind_of (at c 1)) (at c 2) ∷
    granted done ∷
    granted (gave (at c 1)) ∷
    granted (found (at c 1) (get_or c 1 [])) ∷
    granted (placed (get_or c 1 [])) ∷
    granted (counts (get_or c 1 []) (get_or c 2 [])
    (record { objects_allocated = at c 1; objects_freed = at c 2; heap_slots_allocated = at c 3; heap_slots_freed = at c 4 })) ∷
    granted (moves (rows_of (get_or c 1 []) (get_or c 2 []))) ∷
    granted (wrote (get_or c 1 [])) ∷
    granted (told (map told_in (drop 1 c))) ∷
    granted (because (reason_in (get_or c 1 []))) ∷ []) (at c 0) (granted (truncated (cut_in (drop 1 c))))

answer_back : (a : Answer) → answer_in (answer_code a) ≡ a
answer_back (refused k i) = ap (λ x. refused x i) (kind_of_number k)
answer_back (granted done) = refl
answer_back (granted (gave n)) = refl
answer_back (granted (found l c)) = refl
answer_back (granted (placed ls)) = refl
answer_back (granted (counts g f z)) = refl
answer_back (granted (moves ms)) = ap (λ x. granted (moves x)) (rows_of_rows ms)
answer_back (granted (wrote bytes)) = refl
answer_back (granted (told ts)) = ap (λ x. granted (told x)) (told_back ts)
answer_back (granted (because g)) = ap (λ x. granted (because x)) (reason_back g)
answer_back (granted (truncated keep)) = refl
answer_back (granted (truncated (cut n b))) = refl

-- ---- the same code is the same answer

pub same_cut : (a b : Cut) → same_code (cut_code a) (cut_code b) ≡ true → a ≡ b
same_cut = by_code cut_code cut_in cut_back

pub same_answer : (a b : Answer) → same_code (answer_code a) (answer_code b) ≡ true → a ≡ b
same_answer = by_code answer_code answer_in answer_back
