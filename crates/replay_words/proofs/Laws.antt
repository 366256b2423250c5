-- Laws of `column_of` and `column_is`: one row more, all rows, and each row tested. Assumes nothing.
use Rattle.std.proofs.Common.{◌≡◌, refl, ◌∙◌, ap, ℕ, zero, suc, ◌+◌, ◌-◌, ◌≤◌, ◌<◌, ◌&&◌, List, [], ◌∷◌, ◌++◌, eqb, length, take, arith, add-one}
use mathlib.Core.List.{append-nil}
use lib.ListN.{set}
use lib.Seq.{take-suc-set, append_snoc, take_all}
use Rattle.std.specs.List.{list_all, enumerate_from}
use Rattle.replay_words.specs.Lines.{line_word}
use Rattle.replay_words.specs.Rows.{column_of, column_is}

pub column_of_turn : (line l : List ℕ) (k i : ℕ) → i < length l
    → take (i + 1) (set l i (line_word line (k + i))) ++ column_of line (k + (i + 1)) (length l - (i + 1)) ≡ take i l ++ column_of line (k + i) (length l - i)
unfolding column_of
column_of_turn line l k i h =
    let e : length l - i ≡ suc (length l - (i + 1)) = omega arith in
    let n : k + (i + 1) ≡ suc (k + i) = omega arith in
    rw (e, n, add-one, take-suc-set l i (line_word line (k + i)) h)
    (append_snoc (take i l) (line_word line (k + i)) (column_of line (suc (k + i)) (length l - suc i)))

pub column_of_done : (line l : List ℕ) (k i : ℕ) → length l ≤ i → take i l ++ column_of line (k + i) (length l - i) ≡ l
unfolding column_of
column_of_done line l k i h =
    let e : length l - i ≡ zero = omega arith in
    rw (e, take_all i l h) (append-nil l)

pub list_all-column_is : (line : List ℕ) (k i : ℕ) (rows : List ℕ)
    → list_all (λ (p : ℕ × ℕ). eqb p.1 (line_word line (k + p.0))) (enumerate_from i rows) ≡ column_is line (k + i) rows
unfolding column_is
list_all-column_is line k i [] = refl
list_all-column_is line k i (row ∷ rows) =
    let n : k + (i + 1) ≡ suc (k + i) = omega arith in
    ap (λ b. eqb row (line_word line (k + i)) && b) (list_all-column_is line k (i + 1) rows ∙ ap (λ j. column_is line j rows) n)
