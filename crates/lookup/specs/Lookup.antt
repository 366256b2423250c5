-- What the answer of a lookup says, with the lent row as it is then; and the tests of a lookup whose lengths are right, in what the code reads.
-- Only the first has to be believed: proofs/Laws.antt shows that the others say what the model says. Assumes nothing.
use Rattle.std.specs.Prelude.{not, ◌||◌, List, ℕ, eqb, get_or, Result, Ok, Err}
use Rattle.refusal.specs.Outcomes.{granted, refused_as}
use Rattle.refusal.specs.Refusals.{refusal, no_such_id, tables_disagree}
use Rattle.model.specs.Store.{found, Answer}
use Rattle.model.specs.Verdict.{Verdict, ok, refuse, test, ◌⨾◌}
use Rattle.tables.specs.Entries.{held_in, bad_in}
use Rattle.refusal.specs.declared.Refusal.{Refusal}

abbrev pub looked_answer : Result ℕ Refusal → List ℕ → Answer
looked_answer (Ok location) row = granted (found location row)
looked_answer (Err r) row = refused_as r

-- a location where nothing is refused
abbrev pub located_as : Verdict → ℕ → Result ℕ Refusal
located_as ok location = Ok location
located_as (refuse kind index) location = Err (refusal kind index)

unfoldable pub looked_in : ℕ → ℕ → List ℕ → List ℕ → List ℕ → List ℕ → List ℕ → ℕ → Verdict
looked_in ids slots id_marks locations slot_marks owners words i =
    test (not (held_in ids id_marks words i) || eqb (get_or locations i 0) 0) no_such_id 0
    ⨾ test (bad_in slots slot_marks owners words i (get_or locations i 0)) tables_disagree 0
