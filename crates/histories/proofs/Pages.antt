-- A page is as many lookups: both ask the same tables for their lengths, and then a page tells of each id what a lookup of it answers. Assumes
-- nothing.
use mathlib.Core.Path.{◌≡◌, refl, sym, ◌∙◌}
use mathlib.Core.List.{List, [], ◌∷◌, map}
use Prim.Native.Nat.{ℕ}
use native.Mathlib.Omega.{arith}
use lib.ListN.{length}
use borrow.Author.Tests.{eq-eqb}
use Rattle.refusal.specs.Outcomes.{granted}
use Rattle.carried.specs.Carried.{width}
use Rattle.model.specs.Store.{Store, found, told, ask, lookup, lookups}
use Rattle.model.specs.Verdict.{Verdict, ok, refuse, test, ◌⨾◌}
use Rattle.model.specs.Tables.{location_of, carried_of}
use Rattle.model.specs.Tests.{shape, lists}
use Rattle.model.specs.Questions.{unfound, told_by, told_of, ask_refusal, reply}
use Rattle.model.specs.Step.{refusal, refusal_of, grant, answer, answer_by}
use Rattle.model.proofs.Verdicts.{first_ok}
use Rattle.histories.specs.Statements.{row_of, PageRows}

-- once the lengths are right, a row is what the lookup answers
row_told : (s : Store) (i : ℕ) (row : List ℕ) → shape s (ask (lookup i row)) ≡ ok → length row ≡ width → told_of s i ≡ row_of (answer s (ask (lookup i row)))
unfolding answer refusal refusal_of ask_refusal grant reply test ◌⨾◌
row_told s i row fits wide =
    by (unfound s i) ∙ (λ k. row_of (answer_by (sym fits k ⨾ lists (sym (eq-eqb _ _ wide) k) ⨾ unfound s i) (found (location_of s i) (carried_of s i))))
  where
    by : (v : Verdict) → told_by v (location_of s i) (carried_of s i) ≡ row_of (answer_by v (found (location_of s i) (carried_of s i)))
    by ok = refl
    by (refuse n j) = refl

rows_told : (s : Store) (row is : List ℕ) → shape s (ask (lookup 0 row)) ≡ ok → length row ≡ width
    → map (told_of s) is ≡ map (λ (i : ℕ). row_of (answer s (ask (lookup i row)))) is
rows_told s row [] fits wide = refl
rows_told s row (i ∷ is) fits wide = λ k. row_told s i row fits wide k ∷ rows_told s row is fits wide k

pub page_rows : PageRows
unfolding answer refusal grant reply
page_rows s p ts row e wide = go (refusal s (ask (lookups p))) refl e
  where
    go : (v : Verdict) → refusal s (ask (lookups p)) ≡ v → answer_by v (told (map (told_of s) p.ids)) ≡ granted (told ts)
        → ts ≡ map (λ (i : ℕ). row_of (answer s (ask (lookup i row)))) p.ids
    go ok fine q =
        let same : ts ≡ map (told_of s) p.ids = cc in
        same ∙ rows_told s row p.ids (first_ok _ _ fine) wide
    go (refuse n i) fine q = let z : ◌≡◌ {A = ℕ} 0 1 = cc in absurd (omega arith)
