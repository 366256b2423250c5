-- Document 01, "Sizes and frames": the slab sizes, what a frame takes of a slot, and the class of an object. Assumes nothing.
use Rattle.std.specs.Prelude.{Bool, cond, List, [], ◌∷◌, ℕ, suc, ◌+◌, ◌-◌, leb, ltb, get_or, Result, Ok, Err}
use Rattle.refusal.specs.Refusals.{refusal, too_large}
use Rattle.list_parts.specs.Lists.{elem}
use Rattle.refusal.specs.declared.Refusal.{Refusal}

abbrev pub slabs : ℕ
slabs = 78

-- the constant table of source document 000
unfoldable pub slab_sizes : List ℕ
slab_sizes =
    64 ∷ 80 ∷ 96 ∷ 112 ∷ 128 ∷ 160 ∷ 192 ∷ 224 ∷
    256 ∷ 320 ∷ 384 ∷ 448 ∷ 512 ∷ 640 ∷ 768 ∷ 896 ∷
    1024 ∷ 1280 ∷ 1536 ∷ 1792 ∷ 2048 ∷ 2560 ∷ 3072 ∷ 3584 ∷
    4096 ∷ 5120 ∷ 6144 ∷ 7168 ∷ 8192 ∷ 10240 ∷ 12288 ∷ 14336 ∷
    16384 ∷ 20480 ∷ 24576 ∷ 28672 ∷ 32768 ∷ 40960 ∷ 49152 ∷ 57344 ∷
    65536 ∷ 98304 ∷ 131072 ∷ 163840 ∷ 196608 ∷ 262144 ∷ 393216 ∷ 524288 ∷
    786432 ∷ 1048576 ∷ 1572864 ∷ 2097152 ∷ 3145728 ∷ 4194304 ∷ 6291456 ∷ 8388608 ∷
    12582912 ∷ 16777216 ∷ 25165824 ∷ 33554432 ∷ 50331648 ∷ 67108864 ∷ 100663296 ∷ 134217728 ∷
    201326592 ∷ 268435456 ∷ 402653184 ∷ 536870912 ∷ 805306368 ∷ 1073741824 ∷ 1610612736 ∷ 2147483648 ∷
    3221225472 ∷ 4294967296 ∷ 6442450944 ∷ 8589934592 ∷ 12884901888 ∷ 17179869184 ∷ []

-- the size of a slab; 0 for a number that is no slab
unfoldable pub size_of : ℕ → ℕ
size_of slab = get_or slab_sizes slab 0

-- whether a slot can have this length
unfoldable pub is_slab_size : ℕ → Bool
is_slab_size s = elem s slab_sizes

-- the bytes of the length field in a slot of size s: by the slab, not by the object
unfoldable pub field_width : ℕ → ℕ
field_width s = cond (leb s 255) 1 (cond (leb s 65535) 2 (cond (leb s 4294967295) 4 8))

-- the bytes of the check
abbrev pub check_width : ℕ
check_width = 4

-- the longest object that a slot of size s takes
unfoldable pub longest_object : ℕ → ℕ
longest_object s = s - (field_width s + check_width)

-- how many of the sizes come before the first that n bytes, their length field and their check fit
unfoldable pub first_fit : ℕ → List ℕ → ℕ
first_fit n [] = 0
first_fit n (s ∷ ss) = cond (leb (n + field_width s + check_width) s) 0 (suc (first_fit n ss))

-- the slab of n bytes; the number of slabs where none takes them
unfoldable pub slab_for : ℕ → ℕ
slab_for n = first_fit n slab_sizes

-- the class of n bytes
unfoldable pub class_of : ℕ → Result ℕ Refusal
class_of n = cond (ltb (slab_for n) slabs) (Ok (slab_for n)) (Err (refusal too_large 0))
