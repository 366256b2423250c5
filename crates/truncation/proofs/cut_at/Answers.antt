-- `truncation::cut_at` meets its contract: each end by its law (cut_at_zero, -full, -nothing, -less). Assumes nothing.
use mathlib.Core.Path.{refl, sym, ◌∙◌}
use native.Mathlib.Omega.{arith}
use Rattle.truncation.proofs.Laws.{size_of_range, cut_at_zero, cut_at_full, cut_at_nothing, cut_at_less}
use Rattle.truncation.proofs.cut_at.Goals as goal

pub returns-then-tip-eq0 : goal.returns-then-tip-eq0
returns-then-tip-eq0 c = cut_at_zero _ _ _ _ c.if-tip-eq0.true

pub sparse-requires : goal.sparse-requires
sparse-requires c =
    let r = size_of_range c.args.slab c.requires.0 in
    (omega (arith, r.0), omega (arith, r.1), omega arith, omega arith)

pub returns-then-not-sparse : goal.returns-then-not-sparse
returns-then-not-sparse c =
    cut_at_full _ _ _ _ _ _ _ c.if-tip-eq0.false c.slab_size-size.ensures refl c.max-high.ensures
    (sym c.sparse.ensures ∙ c.if-not-sparse.true)

pub bytes_to-before-requires : goal.bytes_to-before-requires
bytes_to-before-requires c =
    let r = size_of_range c.args.slab c.requires.0 in
    (omega (arith, r.1), omega arith)

pub new_length-length-requires : goal.new_length-length-requires
new_length-length-requires c =
    let r = size_of_range c.args.slab c.requires.0 in
    (omega (arith, r.0), omega (arith, r.1), omega arith)

pub returns-then-before-length : goal.returns-then-before-length
returns-then-before-length c =
    let less = sym c.sparse.ensures ∙ c.if-not-sparse.false in
    cut_at_nothing _ _ _ _ _ _ _ c.if-tip-eq0.false c.slab_size-size.ensures refl c.max-high.ensures
    less _ _ c.bytes_to-before.ensures.0 c.new_length-length.ensures c.if-before-length.true

pub returns : goal.returns
returns c =
    let less = sym c.sparse.ensures ∙ c.if-not-sparse.false in
    cut_at_less _ _ _ _ _ _ _ c.if-tip-eq0.false c.slab_size-size.ensures refl c.max-high.ensures
    less _ _ c.bytes_to-before.ensures.0 c.new_length-length.ensures c.if-before-length.false
