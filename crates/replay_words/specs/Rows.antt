-- A column of rows in a line: as many words, from word k on. Assumes nothing.
use Rattle.std.specs.Prelude.{Bool, true, ◌&&◌, List, [], ◌∷◌, ℕ, zero, suc, eqb}
use Rattle.replay_words.specs.Lines.{line_word, says_status}

-- n rows
unfoldable pub column_of : List ℕ → ℕ → ℕ → List ℕ
column_of line k zero = []
column_of line k (suc n) = line_word line k ∷ column_of line (suc k) n

-- the column is these rows
unfoldable pub column_is : List ℕ → ℕ → List ℕ → Bool
column_is line k [] = true
column_is line k (x ∷ column) = eqb x (line_word line k) && column_is line (suc k) column

-- the line says this status, and then these values
abbrev pub says : List ℕ → ℕ → List ℕ → Bool
says line status values = says_status line status && column_is line 4 values
