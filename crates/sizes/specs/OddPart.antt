-- What the code asks of a length in place of a walk over the table. A slab size is 1, 3, 5 or 7 times a power of two. Nothing here has to
-- be believed: the law `is_slab_size_goes` shows that it says the same as the table. Assumes nothing.
use Rattle.std.specs.Prelude.{Bool, false, cond, ◌&&◌, ◌||◌, ℕ, leb, eqb}

-- whether the power of two goes with the odd part
unfoldable pub goes : ℕ → ℕ → Bool
goes odd power =
    cond (eqb odd 1) (leb 6 power && leb power 34)
    (cond (eqb odd 3) (leb 5 power && leb power 32)
    (cond (eqb odd 5) (leb 4 power && leb power 13 || eqb power 15)
    (cond (eqb odd 7) (leb 4 power && leb power 13) false)))
