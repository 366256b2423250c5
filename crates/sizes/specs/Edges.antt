-- What `slab_for_size` compares with in place of a walk over the table. Nothing here has to be believed: contracts of private functions and laws cite
-- it, and by the laws (slab_for_first, slab_for_some, slab_for_none, by_bits) every class found with it is the table's. Assumes nothing.
use Rattle.std.specs.Prelude.{ℕ}

-- the longest object of the smallest slab
abbrev pub longest_in_first : ℕ
longest_in_first = 59

-- the longest object with a length field of 1, 2, 4 and 8 bytes
abbrev pub longest_with1 : ℕ
longest_with1 = 219

abbrev pub longest_with2 : ℕ
longest_with2 = 57338

abbrev pub longest_with4 : ℕ
longest_with4 = 3221225464

abbrev pub longest_with8 : ℕ
longest_with8 = 17179869172

-- the one size that is neither a power of two nor half as much again, of those above 65,536
abbrev pub extra_size : ℕ
extra_size = 163840
