-- What `all` answers is the test of each row with its place, and so `column_is`.
use Rattle.std.proofs.Common.{ℕ, ◌+◌, Bool, eqb, ◌∙◌, ap, add-zero, rules, tests}
use Rattle.std.proofs.lemmas.Iterator.{YieldsList-from_slice}
use Rattle.std.proofs.lemmas.Iterator.Consumers.{YieldsList-from_enumerate}
use Rattle.std.proofs.lemmas.Iterator.Search.{all_from_yields_List}
use Rattle.replay_words.specs.Lines.{line_word}
use Rattle.replay_words.specs.Rows.{column_is}
use Rattle.replay_words.proofs.Laws.{list_all-column_is}
use Rattle.replay_words.proofs.line.Line.holds.Goals as goal

pub returns : goal.returns
returns c =
    let line = c.args.self.bytes.now in
    let from = c.args.from in
    let rows = c.args.column.now in
    let test : ℕ × ℕ → Bool = λ p. eqb p.1 (line_word line (from + p.0)) in
    let by_call = all_from_yields_List test _ _ _ c.all.ensures.ran (YieldsList-from_enumerate (YieldsList-from_slice rows cc) (search rules)) (λ x b q k. search (rules, tests)) in
    by_call ∙ list_all-column_is line from 0 rows ∙ ap (λ k. column_is line k rows) (add-zero from)
