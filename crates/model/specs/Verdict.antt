-- Document 01, "Refusal numbers": tests in an order, of which the first that is met decides. Assumes nothing.
use Rattle.std.specs.Prelude.{Bool, true, false, cond, ◌&&◌, ◌||◌, List, [], ◌∷◌, ℕ, suc, eqb, ltb, Result, Ok, Err, ⊤}
use Rattle.refusal.specs.declared.Refusal.{Refusal}
use Rattle.refusal.specs.declared.Kind.{Kind}

infixr 30 ◌⨾◌
pub data Verdict : Type 0 where
  ok : Verdict
  -- why, and an index
  refuse : Kind → ℕ → Verdict

unfoldable pub ◌⨾◌ : Verdict → Verdict → Verdict
◌⨾◌ ok v = v
◌⨾◌ (refuse n i) v = refuse n i

-- refused with kind n, index i, where the test is met
unfoldable pub test : Bool → Kind → ℕ → Verdict
test true n i = refuse n i
test false n i = ok

-- the first of some tests that is met, of which the first has index i
unfoldable pub tests_from : Kind → ℕ → List Bool → Verdict
tests_from n i [] = ok
tests_from n i (b ∷ bs) = test b n i ⨾ tests_from n (suc i) bs

-- Two orders of tests, row by row, made one: the refusal of the earlier row decides; of one row's two refusals the former does where its kind is
-- among those that come `first`.
unfoldable pub earlier : (Kind → Bool) → Verdict → Verdict → Verdict
earlier first ok w = w
earlier first (refuse n i) ok = refuse n i
earlier first (refuse n i) (refuse m j) = cond (ltb i j || (eqb i j && first n)) (refuse n i) (refuse m j)

-- what a test that only reads says
abbrev pub judged_verdict : Result ⊤ Refusal → Verdict
judged_verdict (Ok tt) = ok
judged_verdict (Err r) = refuse r.kind r.index
