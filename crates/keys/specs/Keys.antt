-- Request 2026-06: the key of a row, up to 64 bytes. A row is `width` bytes in two forms. As an offer and a rebuild bring it: the collection, the key's
-- length in eight bytes, and 64 bytes, of which the first `length` are the key and the others are not looked at. As the store keeps it, and a
-- snapshot of version 2 has it: the collection, the length in one byte, the key, and zeros. Assumes nothing.
use Rattle.std.specs.Prelude.{Bool, true, false, cond, ◌&&◌, List, [], ◌∷◌, ◌++◌, map, ℕ, zero, suc, ◌+◌, ◌-◌, min, leb, ltb, length, get_or, take, drop, replicate}
use Rattle.little_endian.specs.LittleEndian.{bytes_of, get_at}
use Rattle.zeros.specs.Zeros.{all_zero}
use Rattle.carried.specs.Carried.{width}

abbrev pub most_key : ℕ
most_key = 64

-- ---- a row as it is brought

-- how long its key is said to be
abbrev pub said_length : List ℕ → ℕ
said_length row = get_at 8 16 row

-- refusal 21
unfoldable pub key_is_long : List ℕ → Bool
key_is_long row = ltb most_key (said_length row)

-- how many bytes of the key are kept
abbrev pub kept_length : List ℕ → ℕ
kept_length row = min most_key (said_length row)

-- the row as the store keeps it
unfoldable pub normal : List ℕ → List ℕ
normal row = take 8 row ++ (kept_length row ∷ (take (kept_length row) (drop 16 row) ++ replicate (71 - kept_length row) 0))

-- ---- rows one after the other, each of an update; a Free's is not looked at

unfoldable pub long_in : List Bool → List ℕ → List Bool
long_in [] bytes = []
long_in (s ∷ ss) bytes = (s && key_is_long (take width bytes)) ∷ long_in ss (drop width bytes)

-- a Free keeps zeros
abbrev pub normal_of : Bool → List ℕ → List ℕ
normal_of s row = cond s (normal row) (replicate width 0)

unfoldable pub normal_rows : List Bool → List ℕ → List ℕ
normal_rows [] bytes = []
normal_rows (s ∷ ss) bytes = normal_of s (take width bytes) ++ normal_rows ss (drop width bytes)

-- whether an update is a Store, by its byte: 0 frees, any other stores
abbrev pub is_store : ℕ → Bool
is_store zero = false
is_store (suc b) = true

-- the updates of an offer, each by its byte
abbrev pub stores_of : List ℕ → List Bool
stores_of bs = map is_store bs

-- each row of a rebuild is stored
abbrev pub all_stored : List ℕ → List Bool
all_stored is = map (λ (i : ℕ). true) is

-- the first of some tests that is met; as many as there are where none is
unfoldable pub first_met : List Bool → ℕ
first_met [] = 0
first_met (b ∷ bs) = cond b 0 (suc (first_met bs))

-- ---- a row as it is kept; one of version 1 ends before the length, and has no key

abbrev pub key_length : List ℕ → ℕ
key_length c = get_or c 8 0

abbrev pub key_of : List ℕ → List ℕ
key_of c = take (key_length c) (drop 9 c)

-- the key is not too long, and what follows it is zero
unfoldable pub is_normal : List ℕ → Bool
is_normal c = leb (key_length c) most_key && all_zero (drop (9 + key_length c) c)

-- as it can be brought again
unfoldable pub brought : List ℕ → List ℕ
brought c = take 8 c ++ (bytes_of 8 (length (key_of c)) ++ (key_of c ++ replicate (most_key - length (key_of c)) 0))
