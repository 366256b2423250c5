-- `last_taken` meets its contract: where no block of one mark is free, the last mark is taken. Assumes nothing.
use Rattle.std.proofs.Common.{◌<◌, ◌≤◌, ⊎_elim, arith, length}
use Rattle.marks.specs.Marks.{last_taken}
use Rattle.marks.proofs.LawsCount.{last_taken_le}
use Rattle.marks.proofs.LawsFree.{lt_or_le}
use Rattle.marks_search.proofs.last_taken.Goals as goal

pub returns : goal.returns
returns c =
    let left = c.trimmed-3.result.now in
    let last : length left ≤ last_taken left =
    ⊎_elim (λ (some : 0 < length left). omega (arith, c.trimmed-3.ensures.0, c.trimmed-3.ensures.1 (omega arith))) (λ (none : length left ≤ 0). omega arith) (lt_or_le 0 (length left)) in
    omega (arith, last, last_taken_le left, c.trimmed.ensures.0, c.trimmed-2.ensures.0, c.trimmed-near.ensures.0, c.trimmed-3.ensures.0)
