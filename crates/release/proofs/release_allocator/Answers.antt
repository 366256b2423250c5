-- `release::release_allocator` meets its contract: by the waiting word nothing is written, or what the callees write one after the other.
-- Assumes nothing.
use mathlib.Core.Path.{◌≡◌, sym, ap, ◌∙◌}
use mathlib.Core.List.{map}
use Rattle.marks.specs.Marks.{let_go}
use Rattle.id_allocator.specs.Counted.{hinted}
use Rattle.model.specs.Memory.{get_word, hint_words, waiting_words}
use Rattle.release.proofs.Laws.{quiet_marks, quiet_words, waiting_marks, released_words_lem}
use Rattle.release.proofs.release_allocator.Goals as goal

pub returns-then-get-eq0 : goal.returns-then-get-eq0
returns-then-get-eq0 c =
    let a = c.args in
    let none = sym c.get.ensures ∙ c.if-get-eq0.true in
    (quiet_marks a.tallies.now a.allocator _ a.marks.now _ none, quiet_words a.tallies.now a.allocator _ a.marks.now none)

pub returns : goal.returns
returns c =
    let a = c.args in
    let g = a.tallies.now in
    let some : get_word g waiting_words a.allocator ≡ 0 → ⊥ = λ z. c.if-get-eq0.false (c.get.ensures ∙ z) in (
      c.release-freed.ensures.1 ∙ ap (λ h. map let_go (hinted h a.marks.now)) c.get-hint.ensures ∙ waiting_marks (get_word g hint_words a.allocator) (get_word g waiting_words a.allocator) a.marks.now some,
      released_words_lem g _ _ _ a.allocator _ _ _ a.marks.now some c.get-hint.ensures c.release-freed.ensures.0 c.add.ensures c.put.ensures c.put-2.ensures,
    )
