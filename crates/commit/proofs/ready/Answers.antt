-- An allocator made ready, by its waiting word: as it is, or settled. Assumes nothing.
use mathlib.Core.Path.{◌≡◌, sym, ap, ◌∙◌}
use Prim.Native.Nat.{ℕ}
use Rattle.model.specs.Memory.{get_word, waiting_words}
use Rattle.model.specs.MemoryAfter.{ready_marks, ready_words}
use Rattle.commit.proofs.LawsApply.{ready_marks_busy, ready_words_busy}
use Rattle.commit.proofs.ready.Goals as goal

pub returns-then-get-ne0 : goal.returns-then-get-ne0
returns-then-get-ne0 c =
    let a = c.args in
    let w = get_word a.tallies.now waiting_words a.allocator in
    let busy : w ≡ 0 → ⊥ = λ z. c.if-get-ne0.true (c.get.ensures ∙ z) in
    (sym (ready_marks_busy w a.marks.now busy), sym (ready_words_busy a.tallies.now a.allocator w busy))

pub returns : goal.returns
returns c =
    let a = c.args in
    let z : get_word a.tallies.now waiting_words a.allocator ≡ 0 = sym c.get.ensures ∙ c.if-get-ne0.false in
    (c.settle.ensures ∙ sym (ap (λ (w : ℕ). ready_marks w a.marks.now) z), c.put.ensures ∙ sym (ap (λ (w : ℕ). ready_words a.tallies.now a.allocator w) z))
