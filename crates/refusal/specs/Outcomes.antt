-- What a call answers, in document 01's words: a refusal, of which number_of says the number, and its index; or what is granted. Assumes nothing.
use Rattle.std.specs.Prelude.{List, [], ℕ, Result, Ok, Err, ⊤}
use Rattle.refusal.specs.declared.Refusal.{Refusal}
use Rattle.refusal.specs.declared.Kind.{Kind}

pub data Outcome (A : Type 0) : Type 0 where
  granted : A → Outcome A
  -- why, and an index
  refused : Kind → ℕ → Outcome A

-- where what is granted is said in values
abbrev pub Values : Type 0
Values = Outcome (List ℕ)

abbrev pub refused_as : {A : Type 0} → Refusal → Outcome A
refused_as r = refused r.kind r.index

-- the outcome of an answer, where `says` says what is granted
abbrev pub outcome_by : {A B : Type 0} → (A → B) → Result A Refusal → Outcome B
outcome_by says (Ok a) = granted (says a)
outcome_by says (Err r) = refused_as r

-- where `a` is what is granted once it is done
abbrev pub finished_as : {A : Type 0} → A → Result ⊤ Refusal → Outcome A
finished_as a f = outcome_by (λ _. a) f

-- of a call that grants nothing but that it was done, and of a test that only reads
abbrev pub finished_outcome : Result ⊤ Refusal → Values
finished_outcome f = finished_as [] f
