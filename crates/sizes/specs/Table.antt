-- What is promised of a table of slab sizes: its order, and the class rule over it. `slab_sizes` promises both of what it returns. Assumes nothing.
use Rattle.std.specs.Prelude.{List, ◌≡◌, ℕ, ◌+◌, ◌<◌, ◌≤◌, length, get_or, Ok, Err}
use Rattle.refusal.specs.Refusals.{refusal, too_large}
use Rattle.sizes.specs.Sizes.{field_width, check_width, class_of}

-- each entry is larger than all before it
abbrev pub Ascends : List ℕ → Type 0
Ascends t = (j k : ℕ) → j < k → k < length t → get_or t j 0 < get_or t k 0

-- what n bytes, their length field and their check take of a slot of size s
abbrev pub taking : ℕ → ℕ → ℕ
taking n s = n + field_width s + check_width

-- entry k takes n bytes and their frame, and none before it does
pub record FirstToTake (t : List ℕ) (n k : ℕ) : Type 0 where
  pub within : k < length t
  pub takes : taking n (get_or t k 0) ≤ get_or t k 0
  pub first : (j : ℕ) → j < k → get_or t j 0 < taking n (get_or t j 0)

-- the class of n bytes is the first that takes them; 2 is given exactly where none does
pub record ClassRule (t : List ℕ) : Type 0 where
  pub found : (n k : ℕ) → class_of n ≡ Ok k → FirstToTake t n k
  pub finds : (n k : ℕ) → FirstToTake t n k → class_of n ≡ Ok k
  pub none : (n : ℕ) → class_of n ≡ Err (refusal too_large 0) → (j : ℕ) → j < length t → get_or t j 0 < taking n (get_or t j 0)
  pub refuses : (n : ℕ) → ((j : ℕ) → j < length t → get_or t j 0 < taking n (get_or t j 0)) → class_of n ≡ Err (refusal too_large 0)
