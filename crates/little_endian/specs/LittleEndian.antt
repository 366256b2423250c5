-- Numbers as bytes, the lowest byte first: how document 01 writes lengths, checks and the fields of the cookie.
-- Assumes nothing.
use Rattle.std.specs.Prelude.{Bool, cond, ◌&&◌, List, [], ◌∷◌, ◌++◌, ℕ, zero, suc, ◌+◌, ◌-◌, ◌*◌, ◌/◌, ◌%◌, ◌^◌, ◌<◌, leb, length, get_or, take, drop}

-- every one is a byte, as all that is lent as bytes is
abbrev pub Bytes : List ℕ → Type 0
Bytes l = (k : ℕ) → get_or l k 0 < 2 ^ 8

-- the number that the bytes stand for
unfoldable pub word : List ℕ → ℕ
word [] = 0
word (b ∷ bs) = word bs * 2 ^ 8 + b

-- the lowest bytes of n, as many as `width` says
unfoldable pub bytes_of : ℕ → ℕ → List ℕ
bytes_of zero n = []
bytes_of (suc width) n = n % 2 ^ 8 ∷ bytes_of width (n / 2 ^ 8)

-- whether there are bytes from `start` up to `end`
abbrev pub is_part : ℕ → ℕ → List ℕ → Bool
is_part start end bytes = leb start end && leb end (length bytes)

-- the number in the bytes from `start` up to `end`, in the first eight of them; 0 where there is no such part
unfoldable pub get_at : ℕ → ℕ → List ℕ → ℕ
get_at start end bytes = cond (is_part start end bytes) (word (take 8 (take (end - start) (drop start bytes)))) 0

-- the bytes with a number over those from `start` up to `end`; as they were where there is no such part
unfoldable pub put_at : ℕ → ℕ → ℕ → List ℕ → List ℕ
put_at start end number bytes =
    cond (is_part start end bytes) (take start bytes ++ (bytes_of (end - start) number ++ drop end bytes)) bytes
