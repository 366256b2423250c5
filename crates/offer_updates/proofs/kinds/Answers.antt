-- The loop's invariant: writing the slabs of the updates left over the present rows is writing all. Assumes nothing.
use mathlib.Core.Logic.{⊎_elim, inl, inr}
use mathlib.Core.Path.{ap, ◌∙◌}
use native.Mathlib.Omega.{arith}
use lib.ListN.{set, length-set}
use lib.Seq.{sets}
use Rattle.std.proofs.Common.{rules}
use Rattle.keys.specs.Keys.{stores_of}
use Rattle.offer_updates.specs.Kinds.{no_kinds, kind_of, kinds_of}
use Rattle.offer_updates.proofs.Laws.{kinds_turn, kinds_end, sets_out}
use Rattle.offer_updates.proofs.kinds.Goals as goal

pub loop-i-init : goal.loop-i-init
unfolding no_kinds
loop-i-init c = search rules

pub returns-then-i-ge-MOST_UPDATES : goal.returns-then-i-ge-MOST_UPDATES
returns-then-i-ge-MOST_UPDATES c =
    let l = c.loop-i in
    let it = l.i-iterator in
    sets_out (kinds_of (stores_of it.iter.a.rest.now) it.iter.b.rest.now) l.slabs it.count (omega (arith, l.invariant.0, c.if-i-ge-MOST_UPDATES.true, c.in-Some.ensures.steps.1)) ∙ l.invariant.1

pub loop-i-preserved : goal.loop-i-preserved
loop-i-preserved c =
    let l = c.loop-i in
    let it = l.i-iterator in
    let s = c.in-Some.ensures.steps in (
      length-set l.slabs c.in-Some.i c.kind.result ∙ l.invariant.0,
      ap (λ k. sets (set l.slabs k c.kind.result) c.next.new.self.count (kinds_of (stores_of c.next.new.self.iter.a.rest.now) c.next.new.self.iter.b.rest.now)) s.1
          ∙ kinds_turn it.iter.a.rest.now _ it.iter.b.rest.now _ l.slabs it.count _ _ _ _ s.0.0 s.0.1 s.2 (c.kind.ensures ∙ ap (λ t. kind_of t c.in-Some.length.now) c.is_store.ensures) ∙ l.invariant.1,
    )

pub returns : goal.returns
returns c =
    let l = c.loop-i in
    let it = l.i-iterator in
    kinds_end it.iter.a.rest.now it.iter.b.rest.now l.slabs it.count (⊎_elim (λ w. inl w.1.0) (λ w. inr w.1.0) c.in-None.ensures.steps.0) ∙ l.invariant.1
