-- The object of an id, its slab and the reason, in what the code reads. Nothing here has to be believed: proofs/Laws.antt shows that they say what the
-- model says. Assumes nothing.
use Rattle.std.specs.Prelude.{cond, List, ℕ, ◌+◌, ltb, eqb, get_or, take, Float, Result, Ok, Err, Option, Some, None}
use Rattle.refusal.specs.Refusals.{refusal, tables_disagree}
use Rattle.address.specs.Address.{unpacked}
use Rattle.address.specs.declared.SlabAddress.{SlabAddress}
use Rattle.marks.specs.Marks.{count_if, is_taken, tip}
use Rattle.id_allocator.specs.Counted.{hinted}
use Rattle.fragmentation.specs.Answer.{cutoff_of}
use Rattle.model.specs.Memory.{get_word, hint_words, used_words}
use Rattle.tables.specs.Entries.{held_in, slab_part, owns_in}
use Rattle.reason.specs.declared.Standing.{Standing}
use Rattle.reason.specs.declared.Reason.{Reason}
use Rattle.reason.specs.declared.Reason.TheVariants as R
use Rattle.refusal.specs.declared.Refusal.{Refusal}

-- ---- the object of an id

abbrev pub contradicted : Result (Option SlabAddress) Refusal
contradicted = Err (refusal tables_disagree 0)

abbrev pub without_address : ℕ → Result (Option SlabAddress) Refusal
without_address l = cond (eqb l 0) (Ok None) contradicted

-- by what its location unpacks to
abbrev pub owned_by : ℕ → List ℕ → List ℕ → List ℕ → ℕ → ℕ → Result (Option SlabAddress) Refusal → Result (Option SlabAddress) Refusal
owned_by slots slot_marks owners words i l (Ok (Some a)) = cond (owns_in slots slot_marks owners words i a) (Ok (Some a)) contradicted
owned_by slots slot_marks owners words i l (Ok None) = without_address l
owned_by slots slot_marks owners words i l (Err r) = without_address l

unfoldable pub object_in : ℕ → ℕ → List ℕ → List ℕ → List ℕ → List ℕ → List ℕ → ℕ → Result (Option SlabAddress) Refusal
object_in ids slots id_marks locations slot_marks owners words i =
    cond (held_in ids id_marks words i) (owned_by slots slot_marks owners words i (get_or locations i 0) (unpacked slots (get_or locations i 0))) (Ok None)

-- ---- its slab

unfoldable pub standing_in : ℕ → List ℕ → List ℕ → SlabAddress → Standing
standing_in slots slot_marks words a = record {
  slab = a.slab;
  slot = a.slot;
  smaller = count_if is_taken (hinted (get_word words hint_words (a.slab + 1)) (take a.slot (slab_part slots slot_marks a.slab)));
  live = count_if is_taken (hinted (get_word words hint_words (a.slab + 1)) (slab_part slots slot_marks a.slab));
  tip = tip (hinted (get_word words hint_words (a.slab + 1)) (slab_part slots slot_marks a.slab)) (get_word words used_words (a.slab + 1));
}

-- ---- the reason

abbrev pub by_line : Standing → ℕ → Reason
by_line w line = cond (ltb w.slot line) (R.BeforeLine w line) (R.Listed w line)

abbrev pub by_cutoff : Standing → Result (Option ℕ) Refusal → Result Reason Refusal
by_cutoff w (Ok (Some line)) = Ok (by_line w line)
by_cutoff w (Ok None) = Ok (R.FullEnough w)
by_cutoff w (Err r) = Err r

unfoldable pub reason_in : ℕ → List ℕ → List ℕ → SlabAddress → Float → Result Reason Refusal
reason_in slots slot_marks words a r =
    by_cutoff (standing_in slots slot_marks words a) (cutoff_of (standing_in slots slot_marks words a).live (standing_in slots slot_marks words a).tip r)
