-- What the answers of truncation say. Assumes nothing.
use Rattle.refusal.specs.Outcomes.{granted, refused_as}
use Rattle.model.specs.Store as S
use Rattle.model.specs.Store.{keep, cut, gave, truncated, Answer}
use Rattle.std.specs.Prelude.{Result, Ok, Err, Option, Some, None, ℕ}
use Rattle.refusal.specs.declared.Refusal.{Refusal}
use Rattle.truncation.specs.declared.Cut.{Cut}

-- what becomes of a slab's file: it is kept where there is no cut
abbrev pub cut_as : Option Cut → S.Cut
cut_as None = keep
cut_as (Some c) = cut c.length c.given_back

abbrev pub truncated_answer : Result (Option Cut) Refusal → Answer
truncated_answer (Ok c) = granted (truncated (cut_as c))
truncated_answer (Err r) = refused_as r

-- ---- between the two functions that refuse and that work; nothing below has to be believed

abbrev pub asked_answer : Result ℕ Refusal → Answer
asked_answer (Ok tip) = granted (gave tip)
asked_answer (Err r) = refused_as r
