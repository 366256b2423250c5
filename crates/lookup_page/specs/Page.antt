-- What a page is asked with, and what the call leaves: its outcome, and the three lent lists. Assumes nothing.
use Rattle.std.specs.Prelude.{List, ℕ}
use Rattle.refusal.specs.Outcomes.{Values}
use Rattle.model.specs.Lent.{answered}
use Rattle.model.specs.Outcomes.{outcome_of, list_in}
use Rattle.model.specs.Store.{Page, Answer, ask, lookups}

-- ids, and the lent lists
abbrev pub page : List ℕ → List ℕ → List ℕ → List ℕ → Page
page ids numbers locations carried = record { ids = ids; numbers = numbers; locations = locations; carried = carried }

pub record Left : Type 0 where
  pub outcome : Values
  pub numbers : List ℕ
  pub locations : List ℕ
  pub carried : List ℕ

abbrev pub left_by : Page → Answer → Left
left_by p a = record {
  outcome = outcome_of a;
  numbers = list_in 0 a p.numbers;
  locations = list_in 1 a p.locations;
  carried = list_in 2 a p.carried;
}

-- on the tables that a lookup is lent: capacities, id marks, locations, slot marks, owners, tallies, and what rows carry
abbrev pub page_leaves : Page → ℕ → ℕ → List ℕ → List ℕ → List ℕ → List ℕ → List ℕ → List ℕ → Left
page_leaves p ids slots id_marks locations slot_marks owners words carried =
    left_by p (answered (ask (lookups p)) ids slots id_marks locations slot_marks owners words carried)
