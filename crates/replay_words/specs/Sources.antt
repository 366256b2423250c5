-- Who gave an answer, by its number: of the numbers 0 to 3 each is another. Assumes nothing.
use Rattle.std.specs.Prelude.{cond, ℕ, eqb}
use Rattle.replay_words.specs.declared.line.Source.{Source}
use Rattle.replay_words.specs.declared.line.Source.TheVariants.{NoCall, Model, Rust, Nobody}

abbrev pub source_of : ℕ → Source
source_of n = cond (eqb n 0) NoCall (cond (eqb n 1) Model (cond (eqb n 2) Rust Nobody))
