-- What a call leaves that is lent a slice for its values. Assumes nothing.
use Rattle.std.specs.Prelude.{cond, List, ℕ, eqb, length}

-- where the slice has n values; of another length it changes nothing
unfoldable pub where_fits : {A : Type 0} → ℕ → List ℕ → A → A → A
where_fits n lent after before = cond (eqb (length lent) n) after before
