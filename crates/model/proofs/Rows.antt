-- Laws of rows: two lists made of rows give the rows back. Assumes nothing.
use mathlib.Core.Path.{◌≡◌, refl, ap, ◌∙◌, sym}
use mathlib.Core.Bool.{true}
use mathlib.Core.List.{List, [], ◌∷◌}
use lib.ListN.{length-map}
use borrow.Author.Tests.{eq-eqb}
use Rattle.model.specs.Rebuild.{rows_of}
use Rattle.model.specs.Store.{Row}
use Rattle.model.specs.Tables.{ids_of, locations_of}
use Rattle.model.specs.Tests.{as_long}

pub rows_of_rows : (rs : List Row) → rows_of (ids_of rs) (locations_of rs) ≡ rs
rows_of_rows [] = refl
rows_of_rows (r ∷ rs) = ap (λ x. r ∷ x) (rows_of_rows rs)

pub as_long_rows : (rs : List Row) → as_long (ids_of rs) (locations_of rs) ≡ true
as_long_rows rs = eq-eqb _ _ (length-map rs (λ (r : Row). r.1) ∙ sym (length-map rs (λ (r : Row). r.0)))
