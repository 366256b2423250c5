-- All rows. The invariant: applying the rows from i on, to the tables as they are, is applying all, to the tables at entry. Assumes nothing.
use mathlib.Core.Path.{refl, sym, ◌∙◌}
use native.Mathlib.Nat.{sub-zero}
use native.Mathlib.Omega.{arith}
use Rattle.model.specs.Memory.{Memory, memory_of}
use Rattle.commit.proofs.LawsApply.{commit_turn, commit_none}
use Rattle.commit.proofs.apply_rows.Goals as goal

pub loop-i-init : goal.loop-i-init
loop-i-init c = (refl, rw sub-zero)

pub apply_row-requires : goal.apply_row-requires
apply_row-requires c = (c.requires.0, c.loop-i.invariant.0 ∙ c.requires.1)

pub loop-i-preserved : goal.loop-i-preserved
loop-i-preserved c =
    let a = c.args in
    let l = c.loop-i in
    let m : Memory = memory_of a.caps.ids a.caps.slots l.id_marks l.locations l.slot_marks l.owners a.batch.now l.tallies in
    (omega arith, commit_turn m a.batch.now a.n l.i _ _ c.loop-i-test.true c.apply_row.ensures l.invariant.1)

pub returns : goal.returns
returns c = sym (commit_none _ _ _ _ c.loop-i-test.false) ∙ c.loop-i.invariant.1
