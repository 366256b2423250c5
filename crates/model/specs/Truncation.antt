-- Document 01, "Defrag and truncation", with the lengths of request 2026-05: the length that a slab's file is cut to. Assumes nothing.
use Rattle.std.specs.Prelude.{Bool, true, false, cond, ◌&&◌, List, ℕ, zero, suc, ◌+◌, ◌-◌, ◌*◌, ◌/◌, max, leb, ltb, get_or, set}
use Rattle.sizes.specs.Sizes.{size_of}
use Rattle.model.specs.Store.{Store, with_tallies, Cut, keep, cut}

-- t is 1 to 86
abbrev pub is_target : ℕ → Bool
is_target t = leb 1 t && leb t 86

abbrev pub high_mark : Store → ℕ → ℕ
high_mark s k = get_or s.tallies.high k 0

-- the bytes of a file up to and with a slot, by the slab's size
abbrev pub bytes_to : ℕ → ℕ → ℕ
bytes_to size slot = suc slot * size

-- by a slab's size, its top and its high mark: the percentage in use
abbrev pub fill : ℕ → ℕ → ℕ → ℕ
fill size top high = bytes_to size top * 100 / bytes_to size high

-- what is in use; from a top of 16 on, 15 percent more
abbrev pub target_length : ℕ → ℕ → ℕ
target_length size top = cond (ltb top 16) (bytes_to size top) (bytes_to size top * 115 / 100)

-- a length rounded up to whole slots
abbrev pub whole_slots : ℕ → ℕ → ℕ
whole_slots size n = (n + size - 1) / size * size

-- the length to cut to
abbrev pub new_length : ℕ → ℕ → ℕ
new_length size top = whole_slots size (target_length size top)

-- the length before, less the new one
abbrev pub bytes_given_back : ℕ → ℕ → ℕ → ℕ
bytes_given_back size top high = bytes_to size high - new_length size top

-- cut where less than t percent is in use and the new length is below the length before
abbrev pub cut_of : ℕ → ℕ → ℕ → ℕ → Cut
cut_of size top high t =
    cond (ltb (fill size top high) t && ltb (new_length size top) (bytes_to size high)) (cut (new_length size top) (bytes_given_back size top high)) keep

-- by a slab, its stored high mark, t and its tip: at tip 0 keep, else by the top and the larger of mark and top
unfoldable pub cut_at : ℕ → ℕ → ℕ → ℕ → Cut
cut_at k high t zero = keep
cut_at k high t (suc top) = cut_of (size_of k) top (max high top) t

abbrev pub keeps : Cut → Bool
keeps keep = true
keeps (cut n b) = false

-- asking raises the high mark to the top; a tip of 0 leaves it
abbrev pub raise : List ℕ → ℕ → ℕ → List ℕ
raise h k zero = h
raise h k (suc top) = set h k (max (get_or h k 0) top)

abbrev pub with_high : Store → List ℕ → Store
with_high s h = with_tallies s (record { granted = s.tallies.granted; freed = s.tallies.freed; used = s.tallies.used; high = h })
