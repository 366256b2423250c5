use mathlib.Core.Path.{sym}
use lib.Seq.{length-take-le}
use Rattle.zeros.proofs.Laws.{all_zero_ends}
use Rattle.zeros.proofs.by_ends.Goals as goal

pub slice_bounds-joined-end : goal.slice_bounds-joined-end
slice_bounds-joined-end c = sym (length-take-le _ _ c.requires.1)

pub joined-requires : goal.joined-requires
joined-requires c = rw (length-take-le _ _ c.requires.1) c.requires.0

pub returns : goal.returns
returns c =
    all_zero_ends c.args.bytes.now c.args.width c.joined.result c.joined-2.result c.requires.2 c.joined.ensures c.joined-2.ensures
