-- The rows that are written, with those that are left, are all of them.
use Rattle.std.proofs.Common.{◌≡◌, ◌+◌, ◌-◌, length, take, ◌++◌}
use Rattle.replay_words.specs.Rows.{column_of}
use Rattle.replay_words.proofs.line.Line.fill.Given as goal

abbrev pub invariant-loop-i : goal.invariant-loop-i
invariant-loop-i l = take l.i l.column ++ column_of l.self.bytes.now (l.from + l.i) (length l.column - l.i) ≡ column_of l.self.bytes.now l.from (length l.initial.column)
