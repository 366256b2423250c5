-- The slots that an offer asks for, as the code counts them. Nothing here has to be believed: LawsRoom of crate offer shows that `room_in`
-- says what the model's `room` says. Assumes nothing.
use Rattle.std.specs.Prelude.{List, [], ◌∷◌, ℕ, zero, suc, ◌+◌, ltb, get_or, replicate}
use Rattle.refusal.specs.Refusals.{none_free}
use Rattle.address.specs.Address.{slabs}
use Rattle.marks.specs.Marks.{is_free, count_if}
use Rattle.id_allocator.specs.Counted.{hinted}
use Rattle.model.specs.Memory.{get_word, hint_words}
use Rattle.model.specs.Tables.{bump}
use Rattle.model.specs.Verdict.{Verdict, ok, ◌⨾◌, test}
use Rattle.tables.specs.Entries.{slab_part}

unfoldable pub none_asked : List ℕ
none_asked = replicate slabs 0

-- one more for each slab of a list
abbrev pub tallied : List ℕ → List ℕ → List ℕ
tallied t [] = t
tallied t (k ∷ ks) = tallied (bump t k 1) ks

-- how many slots of a slab are free
unfoldable pub free_in : ℕ → List ℕ → List ℕ → ℕ → ℕ
free_in cap marks words k = count_if is_free (hinted (get_word words hint_words (k + 1)) (slab_part cap marks k))

-- n slabs from k on
unfoldable pub room_in : ℕ → List ℕ → List ℕ → List ℕ → ℕ → ℕ → Verdict
room_in cap marks words asked zero k = ok
room_in cap marks words asked (suc n) k = test (ltb (free_in cap marks words k) (get_or asked k 0)) none_free k ⨾ room_in cap marks words asked n (suc k)

abbrev pub room_in_all : ℕ → List ℕ → List ℕ → List ℕ → Verdict
room_in_all cap marks words asked = room_in cap marks words asked slabs 0
