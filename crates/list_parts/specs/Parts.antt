-- A list in parts of one length, the stride: part k begins k strides in. The slots of a slab are such a part of the slot tables.
-- Assumes nothing.
use Rattle.std.specs.Prelude.{List, ◌++◌, ℕ, ◌*◌, take, drop}

module _ {A : Type 0} where
  abbrev pub part : ℕ → List A → ℕ → List A
  part stride t k = take stride (drop (k * stride) t)

  -- part k replaced
  abbrev pub put_part : ℕ → List A → ℕ → List A → List A
  put_part stride t k p = take (k * stride) t ++ (p ++ drop stride (drop (k * stride) t))
