-- std reads the bytes of each width as `word` does. Assumes nothing.
use mathlib.Core.Path.{◌∙◌}
use native.Mathlib.Omega.{arith}
use Rattle.little_endian.proofs.Laws.{word_first, word_whole}
use Rattle.little_endian.proofs.get.Goals as goal

pub returns-in-Some : goal.returns-in-Some
returns-in-Some c = word_first c.args.bytes.now _ _ c.in-Some.ensures.cases.same c.from_le_bytes.ensures

pub returns-in-Some-as_array : goal.returns-in-Some-as_array
returns-in-Some-as_array c =
    let e = c.in-Some-as_array.ensures.cases in
    c.from.ensures ∙ word_whole 3 c.args.bytes.now _ e.long (omega arith) (rw e.same at c.from_le_bytes-in-Some-as_array.ensures)

pub returns-in-Some-as_array-2 : goal.returns-in-Some-as_array-2
returns-in-Some-as_array-2 c =
    let e = c.in-Some-as_array-2.ensures.cases in
    c.from-in-Some-as_array-2.ensures ∙ word_whole 1 c.args.bytes.now _ e.long (omega arith) (rw e.same at c.from_le_bytes-in-Some-as_array-2.ensures)

pub returns-in-len1 : goal.returns-in-len1
returns-in-len1 c = word_whole 0 c.args.bytes.now _ (omega arith) (omega arith) c.from-in-len1.ensures
