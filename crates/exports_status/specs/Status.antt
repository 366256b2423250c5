-- How an answer passes to C and Rust: one number, and values in a lent slice. Assumes nothing.
use Rattle.std.specs.Prelude.{cond, List, [], ◌∷◌, ℕ, ◌+◌, ◌*◌, ◌%◌, ◌^◌, eqb, length, replicate}
use Rattle.refusal.specs.Refusals.{wrong_shape, number_of}
use Rattle.refusal.specs.Outcomes.{Values, granted, refused}

-- 0 where granted, else the refusal's number plus 256 times its index
abbrev pub status_of : Values → ℕ
status_of (granted values) = 0
status_of (refused kind index) = (number_of kind + 256 * index) % 2 ^ 64

-- the lent slice afterwards: the values where granted, as it was on a refusal
abbrev pub values_in : Values → List ℕ → List ℕ
values_in (granted values) lent = values
values_in (refused kind index) lent = lent

-- an answer that may grant nothing, in n values: 1 and what it grants, or n zeros
abbrev pub or_zeros : ℕ → Values → Values
or_zeros n (granted []) = granted (replicate n 0)
or_zeros n (granted (v ∷ vs)) = granted (1 ∷ v ∷ vs)
or_zeros n (refused kind index) = refused kind index

pub record Exported : Type 0 where
  pub status : ℕ
  pub lent : List ℕ

-- the answer of a call that is lent a slice for n values: another length is refused first
unfoldable pub exported : ℕ → Values → List ℕ → Exported
exported n o lent =
    cond (eqb (length lent) n) (record { status = status_of o; lent = values_in o lent }) (record { status = number_of wrong_shape; lent = lent })
