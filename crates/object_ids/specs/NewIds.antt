-- What the answer of a new id says. Assumes nothing.
use Rattle.std.specs.Prelude.{ℕ, cond, ◌&&◌, ◌==◌, Result, Ok, Err}
use Rattle.marks.specs.Marks.{is_free}
use Rattle.refusal.specs.Outcomes.{granted, refused_as}
use Rattle.model.specs.Store.{gave, Answer}
use Rattle.refusal.specs.declared.Refusal.{Refusal}

abbrev pub new_id_answer : Result ℕ Refusal → Answer
new_id_answer (Ok id) = granted (gave id)
new_id_answer (Err r) = refused_as r

-- how many numbers a new id takes, by the mark of number 0 and the hint. Nothing here has to be believed: the law takes_read says that it
-- is what the store's rule gives
abbrev pub takes : ℕ → ℕ → ℕ
takes mark hint = cond (is_free mark && hint == 0) 2 1
