-- What is proved of stores holds of the lent tables: each call leaves a memory from which the next store is read. Assumes nothing.
use mathlib.Core.Path.{refl, ap, ◌∙◌, ◌≡◌}
use mathlib.Core.List.{[], ◌∷◌}
use Rattle.model.specs.Memory.{Memory, read}
use Rattle.model.specs.MemoryAfter.{memory_after}
use Rattle.model.specs.Step.{answer}
use Rattle.model.specs.Store.{rebuild}
use Rattle.model.specs.Rebuild.{columns}
use Rattle.model.specs.Tables.{live}
use Rattle.model.proofs.Read.{read_after}
use Rattle.model.proofs.Sizes.{sized_read}
use Rattle.histories.specs.Statements.{MemoryAgrees, seen, answers, RebuildAgreesLent}
use Rattle.histories.proofs.Rebuilt.{rebuild_agrees}

pub memory_agrees : MemoryAgrees
memory_agrees m [] = refl
memory_agrees m (c ∷ cs) =
    ap (λ x. seen c (answer (read m) c) ∷ x) (memory_agrees (memory_after m c) cs ∙ ap (λ s. answers s cs) (read_after m c))

capacities_lent : (m : Memory) → ((read m).ids ≡ m.ids) × ((read m).slots ≡ m.slots)
unfolding read
capacities_lent m = (refl, refl)

pub rebuild_agrees_lent : RebuildAgreesLent
rebuild_agrees_lent n m h rs bytes memory c a live en em l =
    let k = capacities_lent memory in
    let r = rebuild_agrees n m h rs bytes (read memory) c a live (k.0 ∙ en) (k.1 ∙ em) (sized_read memory l) in
    let call = rebuild (columns rs bytes) in
    (r.0, λ later. memory_agrees (memory_after memory call) later ∙ ap (λ s. answers s later) (read_after memory call) ∙ r.1 later)
