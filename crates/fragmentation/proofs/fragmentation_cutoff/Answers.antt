-- `fragmentation::fragmentation_cutoff` meets its contract: the tests, in the definition's order. Assumes nothing.
use mathlib.Core.Path.{sym, ◌∙◌}
use Prim.Native.Nat.{◌^◌}
use native.Mathlib.Omega.{arith}
use lib.Dec.{le→leb}
use lib.Ieee as Ieee
use borrow.Author.Tests.{le-ltb, ltb-false}
use Rattle.fragmentation.specs.Answer.{cutoff_of}
use Rattle.fragmentation.proofs.LawsCutoff.{cutoff_full, cutoff_cut, cutoff_of_from, cutoff_of_nothing}
use Rattle.std.proofs.lemmas.Grind.{common_steps}
use borrow.Author.Rules.{rules}
use Rattle.fragmentation.proofs.fragmentation_cutoff.Goals as goal

pub returns-then-tip-gt-MOST_SLOTS : goal.returns-then-tip-gt-MOST_SLOTS
unfolding cutoff_of
returns-then-tip-gt-MOST_SLOTS c = first_of (search rules, grind (arith, common_steps))

pub returns-then-bad_ratio : goal.returns-then-bad_ratio
unfolding cutoff_of
returns-then-bad_ratio c = simp (le-ltb _ _ c.if-tip-gt-MOST_SLOTS.false, le-ltb _ _ c.if-live-tip.false, sym c.bad_ratio.ensures ∙ c.if-bad_ratio.true)

pub int_to_float-taken : goal.int_to_float-taken
unfolding Ieee.in_float
int_to_float-taken c = le→leb c.args.live (2 ^ 24) (omega (arith, ltb-false))

pub int_to_float-tip : goal.int_to_float-tip
unfolding Ieee.in_float
int_to_float-tip c = le→leb c.args.tip (2 ^ 24) (omega arith)

pub returns-then-r-taken : goal.returns-then-r-taken
returns-then-r-taken c =
    let a = c.args in
    sym (cutoff_of_nothing a.live a.tip a.r (le-ltb _ _ c.if-tip-gt-MOST_SLOTS.false) (le-ltb _ _ c.if-live-tip.false) (sym c.bad_ratio.ensures ∙ c.if-bad_ratio.false) (cutoff_full a.live a.tip a.r c.if-r-taken.true))

pub returns-then-from-tip : goal.returns-then-from-tip
returns-then-from-tip c =
    let a = c.args in
    let n = cutoff_cut a.live a.tip a.r c.cut-from.result c.if-r-taken.false c.if-tip-gt-MOST_SLOTS.false c.cut-from.ensures in
    sym (cutoff_of_from a.live a.tip a.r (le-ltb _ _ c.if-tip-gt-MOST_SLOTS.false) (le-ltb _ _ c.if-live-tip.false) (sym c.bad_ratio.ensures ∙ c.if-bad_ratio.false) c.cut-from.result (n ∙ omega arith) c.if-from-tip.true)

pub returns : goal.returns
returns c =
    let a = c.args in
    let n = cutoff_cut a.live a.tip a.r c.cut-from.result c.if-r-taken.false c.if-tip-gt-MOST_SLOTS.false c.cut-from.ensures in
    sym (cutoff_of_nothing a.live a.tip a.r (le-ltb _ _ c.if-tip-gt-MOST_SLOTS.false) (le-ltb _ _ c.if-live-tip.false) (sym c.bad_ratio.ensures ∙ c.if-bad_ratio.false) (n ∙ omega arith))
