-- `places::copy` meets its contract. The loop's invariant: writing what is left over the present words is writing all over those at entry.
-- Assumes nothing.
use mathlib.Core.Path.{refl, sym, ap, ◌∙◌}
use native.Mathlib.Nat.{add-zero}
use lib.Seq.{sets}
use Rattle.offer_places.proofs.Laws.{sets_turn, sets_end}
use borrow.Author.Rules.{rules}
use Rattle.offer_places.proofs.copy.Goals as goal

pub loop-i-init : goal.loop-i-init
loop-i-init c =
    let a = c.args in
    (refl, ap (λ p. sets a.words.now p a.from.now) (add-zero a.base))

pub loop-i-preserved : goal.loop-i-preserved
loop-i-preserved c =
    let l = c.loop-i in
    let a = c.args in
    (search rules, sets_turn l.words _ a.from.now a.base l.i (search rules) c.put.ensures ∙ l.invariant.1)

pub shape_of-words : goal.shape_of-words
shape_of-words c = c.loop-i.invariant.0

pub returns : goal.returns
returns c =
    let l = c.loop-i in
    let a = c.args in
    sym (sets_end l.words a.from.now _ l.i (search rules)) ∙ l.invariant.1
