use native.Mathlib.Omega.{arith}
use mathlib.Core.Path.{◌≡◌}
use Prim.Native.Nat.{◌≤◌}
use lib.ListN.{length}
use lib.Seq.{take-length}
use Rattle.sizes.proofs.Laws.{is_slab_size_least, longest_object_frame}
use Rattle.frame.proofs.Laws.{laid}
use Rattle.frame.proofs.lay.Goals as goal

pub overflow_sub-end : goal.overflow_sub-end
overflow_sub-end c = omega (arith, is_slab_size_least _ c.requires.0)

pub returns : goal.returns
returns c =
    let object = c.args.object.now in
    let room : length object ≤ length c.args.slot.now = omega (arith, c.requires.1, longest_object_frame _ c.requires.0) in
    let all : c.copy-n.result ≡ length object = omega (arith, c.copy-n.ensures.count) in
    cc (laid c.args.slot.now object c.requires.0 c.requires.1, take-length object, all)
