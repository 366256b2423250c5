-- What the answers of the counters say. Assumes nothing.
use Rattle.std.specs.Prelude.{ℕ, cond, ◌&&◌, List, length, ◌==◌, Result, Ok, Err}
use Rattle.refusal.specs.Outcomes.{granted, refused, refused_as}
use Rattle.refusal.specs.Refusals.{wrong_shape}
use Rattle.model.specs.Store.{Sums, counts, Answer}
use Rattle.model.specs.Tables.{allocators}
use Rattle.model.specs.Memory.{tallies_of}
use Rattle.object_ids.specs.declared.counts.AllocatorStats.{AllocatorStats}
use Rattle.refusal.specs.declared.Refusal.{Refusal}

abbrev pub sums_in : AllocatorStats → Sums
sums_in z = record {
  objects_allocated = z.objects_allocated;
  objects_freed = z.objects_freed;
  heap_slots_allocated = z.heap_slots_allocated;
  heap_slots_freed = z.heap_slots_freed;
}

-- an answer with the pairs in two lists
abbrev pub counters_answer : List ℕ → List ℕ → Result AllocatorStats Refusal → Answer
counters_answer g f (Ok z) = granted (counts g f (sums_in z))
counters_answer g f (Err r) = refused_as r

-- `stats` answers the sums alone: the pairs stay where they are, in the tallies
abbrev pub stats_answer : List ℕ → Result AllocatorStats Refusal → Answer
stats_answer tallies r = counters_answer (tallies_of tallies).granted (tallies_of tallies).freed r

-- refusal 1 speaks of the lent lists too: a row for each allocator
unfoldable pub listed : List ℕ → List ℕ → Answer → Answer
listed g f a = cond (length g == allocators && length f == allocators) a (refused wrong_shape 0)
