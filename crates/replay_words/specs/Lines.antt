-- A line of a list, in words of eight bytes (oracle/answers/README.md). Assumes nothing.
use Rattle.std.specs.Prelude.{Bool, cond, ◌&&◌, List, ℕ, ◌+◌, ◌*◌, ◌%◌, eqb, ltb, leb, length}
use Rattle.little_endian.specs.LittleEndian.{get_at}

-- word k, the lowest byte first; 0 where there is none
unfoldable pub line_word : List ℕ → ℕ → ℕ
line_word line k = get_at (k * 8) (k * 8 + 8) line

-- a line begins with how many bytes it has; where there are not so many, or it says none, it has all that are left
unfoldable pub line_bytes : List ℕ → ℕ
line_bytes left = cond (leb (line_word left 0) (length left) && ltb 0 (line_word left 0)) (line_word left 0) (length left)

-- the line says this status
abbrev pub says_status : List ℕ → ℕ → Bool
says_status line status = eqb status (line_word line 3)

-- 0 where the line is no call, 1 where the model gave the answer, 2 where the Rust did
abbrev pub source : List ℕ → ℕ
source line = line_word line 2 % 4
