-- Calls, answers of the Rust and differences, counted. Assumes nothing.
use Rattle.std.specs.Prelude.{Bool, cond, not, List, ℕ, ◌+◌, eqb, ltb}
use Rattle.replay_words.specs.Lines.{source}
use Rattle.replay_words.specs.declared.tally.Tally.{Tally}

-- one more, where there is one; no count passes what a word holds
abbrev pub more : ℕ → Bool → ℕ
more n is_more = cond is_more (cond (ltb n 18446744073709551615) (n + 1) n) n

abbrev pub nothing : Tally
nothing = record { calls = 0; rusts = 0; differences = 0 }

abbrev pub tally_with : Tally → List ℕ → Bool → Tally
tally_with t line agrees =
    record {
      calls = more t.calls (not (eqb (source line) 0));
      rusts = more t.rusts (eqb (source line) 2);
      differences = more t.differences (not agrees);
    }
