-- An offer's first refusal as the code tells it. Nothing here has to be believed: proofs/LawsOffer.antt shows that it is the model's.
-- Assumes nothing.
use Rattle.std.specs.Prelude.{Bool, cond, ◌&&◌, List, ℕ, ◌*◌, eqb, ltb, length}
use Rattle.refusal.specs.Refusals.{key_too_long}
use Rattle.carried.specs.Carried.{width}
use Rattle.keys.specs.Keys.{long_in, first_met}
use Rattle.model.specs.Lending.{every_table}
use Rattle.model.specs.Lent.{fits_by}
use Rattle.model.specs.Verdict.{Verdict, test}

-- refusal 1 in lengths, with those of the call's own lists
unfoldable pub offer_fits : ℕ → ℕ → ℕ → ℕ → ℕ → ℕ → ℕ → ℕ → ℕ → ℕ → ℕ → ℕ → ℕ → ℕ → Bool
offer_fits ids slots id_marks locations slot_marks owners batch tallies carried n stores lengths rows list =
    fits_by every_table ids slots id_marks locations slot_marks owners batch tallies carried && (eqb stores n && eqb lengths n && eqb list n && eqb rows (n * width))

-- refusal 21: the first update to store whose key is too long; as many as there are where none is, or where there are not as many rows
abbrev pub first_long : List Bool → List ℕ → ℕ
first_long ss bytes = cond (eqb (length bytes) (length ss * width)) (first_met (long_in ss bytes)) (length ss)

abbrev pub keys_in : List Bool → List ℕ → Verdict
keys_in ss bytes = test (ltb (first_long ss bytes) (length ss)) key_too_long (first_long ss bytes)
