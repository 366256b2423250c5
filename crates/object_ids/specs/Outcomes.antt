-- The outcome of each answer: document 01's number and values. Assumes nothing.
use Rattle.std.specs.Prelude.{[], ◌∷◌, Result, ℕ}
use Rattle.refusal.specs.Outcomes.{Values, outcome_by}
use Rattle.refusal.specs.declared.Refusal.{Refusal}
use Rattle.object_ids.specs.declared.counts.AllocatorStats.{AllocatorStats}

abbrev pub new_id_outcome : Result ℕ Refusal → Values
new_id_outcome r = outcome_by (λ id. id ∷ []) r

-- the four sums; granted and freed of each allocator stand in the tallies, or in the lent lists
abbrev pub counted_outcome : Result AllocatorStats Refusal → Values
counted_outcome r = outcome_by (λ z. z.objects_allocated ∷ z.objects_freed ∷ z.heap_slots_allocated ∷ z.heap_slots_freed ∷ []) r
