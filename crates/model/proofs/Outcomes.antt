-- An enum's answer, said in the model's words, tells which answer it is: so a contract that says it allows one answer. Assumes nothing.
use mathlib.Core.List.{[]}
use mathlib.Core.Path.{◌≡◌, refl, sym, ap, ◌∙◌}
use Rattle.refusal.specs.Outcomes.{Values, granted, finished_as, finished_outcome}
use Rattle.refusal.specs.Refusals.{refusal}
use Rattle.refusal.proofs.Outcomes.{one_by, finished_outcome_one}
use Rattle.model.specs.Outcomes.{outcome_of, values_of}
use Rattle.model.specs.Store.{Grant, done, Answer, finished_answer}
use Rattle.model.specs.Verdict.{Verdict, ok, refuse, judged_verdict}
use Rattle.std.specs.Prelude.{Result, Ok, Err, ⊤}
use Rattle.refusal.specs.declared.Refusal.{Refusal}

-- two answers of an enum that say one answer of the model are one: the model's answer has their outcome, and that tells which answer it is
pub answer_one : {E : Type 0} (outcome : E → Values) → ((a b : E) → outcome a ≡ outcome b → a ≡ b) → (a b : E) {x y : Answer}
    → outcome_of x ≡ outcome a → outcome_of y ≡ outcome b → x ≡ y → a ≡ b
answer_one outcome one a b p q e = one a b (sym p ∙ ap outcome_of e ∙ q)

-- ---- where all that is granted stands in lent memory
pub finished_as_outcome : (g : Grant) → values_of g ≡ [] → (a : Result ⊤ Refusal) → outcome_of (finished_as g a) ≡ finished_outcome a
finished_as_outcome g e (Ok tt) = ap granted e
finished_as_outcome g e (Err r) = refl

pub finished_answer_outcome : (a : Result ⊤ Refusal) → outcome_of (finished_answer a) ≡ finished_outcome a
finished_answer_outcome = finished_as_outcome done refl

pub finished_answer_one : (a b : Result ⊤ Refusal) → finished_answer a ≡ finished_answer b → a ≡ b
finished_answer_one a b = answer_one finished_outcome finished_outcome_one a b (finished_answer_outcome a) (finished_answer_outcome b)

-- ---- what a test that only reads says
abbrev judged_back : Verdict → Result ⊤ Refusal
judged_back ok = Ok tt
judged_back (refuse number index) = Err (refusal number index)

pub judged_verdict_one : (a b : Result ⊤ Refusal) → judged_verdict a ≡ judged_verdict b → a ≡ b
judged_verdict_one = one_by judged_verdict judged_back λ j. elim j as (λ k. judged_back (judged_verdict k) ≡ k) [ (Ok tt) ↦ refl | Err r ↦ refl ]
