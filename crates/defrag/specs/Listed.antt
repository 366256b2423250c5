-- The rows of a defrag list by the lent tables. Nothing here has to be believed: proofs/Moves.antt shows that they are the model's. Assumes nothing.
use Rattle.std.specs.Prelude.{Bool, ◌&&◌, List, [], ◌∷◌, ◌++◌, ℕ, zero, suc, ◌+◌, ◌-◌, ◌*◌, ltb, eqb, length, get_or, take, drop, Float, Result, Ok, Err, Option, Some, None}
use Rattle.list_parts.specs.Parts.{part}
use Rattle.address.specs.Address.{packing}
use Rattle.marks.specs.Marks.{is_taken, count_if, tip}
use Rattle.id_allocator.specs.Counted.{hinted}
use Rattle.fragmentation.specs.Cutoff.{cutoff}
use Rattle.model.specs.Store.{Row}
use Rattle.model.specs.Defrag.{cons_if}
use Rattle.model.specs.Memory.{get_word, used_words, hint_words}
use Rattle.defrag.specs.declared.slabs.Span.{Span}
use Rattle.refusal.specs.declared.Refusal.{Refusal}

-- ---- slots

abbrev pub movable_at : List ℕ → ℕ → ℕ → Bool
movable_at locations o l = ltb 0 o && ltb o (length locations) && eqb (get_or locations o 0) l

unfoldable pub row_of : List ℕ → ℕ → ℕ → List Row
row_of locations l o = cons_if (movable_at locations o l) (o, l) []

-- of slots with these owners, of which the first has the location l
unfoldable pub listed_of : List ℕ → ℕ → List ℕ → List Row
listed_of locations l [] = []
listed_of locations l (o ∷ os) = row_of locations l o ++ listed_of locations (l + 1) os

-- ---- slabs

abbrev pub start_of : Result (Option ℕ) Refusal → ℕ → ℕ
start_of (Ok (Some n)) t = n
start_of (Ok None) t = t
start_of (Err r) t = t

-- a slab's marks as they count, but that pending ones are not told from held ones
abbrev pub marks_of : ℕ → List ℕ → List ℕ → ℕ → List ℕ
marks_of slots marks words k = hinted (get_word words hint_words (suc k)) (part slots marks k)

abbrev pub tip_in : ℕ → List ℕ → List ℕ → ℕ → ℕ
tip_in slots marks words k = tip (marks_of slots marks words k) (get_word words used_words (suc k))

unfoldable pub span_of : ℕ → List ℕ → List ℕ → Float → ℕ → Span
span_of slots marks words r k = record {
  from = cutoff (count_if is_taken (marks_of slots marks words k)) (tip_in slots marks words k) r;
  tip = tip_in slots marks words k;
}

abbrev pub rows_in : ℕ → List ℕ → List ℕ → ℕ → Span → List Row
rows_in slots locations owners k s = listed_of locations (packing k s.from) (take (s.tip - s.from) (drop (k * slots + s.from) owners))

unfoldable pub slab_rows : ℕ → List ℕ → List ℕ → List ℕ → List ℕ → Float → ℕ → List Row
slab_rows slots locations marks owners words r k = rows_in slots locations owners k (span_of slots marks words r k)

-- of n slabs from k on
unfoldable pub listed_from : ℕ → List ℕ → List ℕ → List ℕ → List ℕ → Float → ℕ → ℕ → List Row
listed_from slots locations marks owners words r zero k = []
listed_from slots locations marks owners words r (suc n) k =
    slab_rows slots locations marks owners words r k ++ listed_from slots locations marks owners words r n (k + 1)
