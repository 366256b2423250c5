-- Request 2026-08: why an object is on the defrag list of a ratio, or is not. Assumes nothing.
use Rattle.std.specs.Prelude.{cond, ℕ, ◌/◌, ◌%◌, pred, ltb, take, Float}
use Rattle.list_parts.specs.Parts.{part}
use Rattle.address.specs.Address.{unit}
use Rattle.marks.specs.Marks.{count_if, is_taken}
use Rattle.fragmentation.specs.Cutoff.{cutoff}
use Rattle.model.specs.Store.{Store, Standing, Reason, not_stored, full_enough, before_line, listed}
use Rattle.model.specs.Tables.{slab_tip, live, location_of}
use Rattle.model.specs.Snapshots.{is_stored}

-- how many slots of slab k below slot j are held or pending
abbrev pub smaller_slots : Store → ℕ → ℕ → ℕ
smaller_slots s k j = count_if is_taken (take j (part s.slots s.slot_marks k))

abbrev pub standing : Store → ℕ → ℕ → Standing
standing s k j = record { slab = k; slot = j; smaller = smaller_slots s k j; live = live s k; tip = slab_tip s k }

-- where the object of a location stands
abbrev pub standing_at : Store → ℕ → Standing
standing_at s l = standing s (pred (l / unit)) (l % unit)

-- by the cutoff of its slab, which is the tip where nothing of the slab is listed
abbrev pub reason_by : Standing → ℕ → Reason
reason_by w line = cond (ltb line w.tip) (cond (ltb w.slot line) (before_line w line) (listed w line)) (full_enough w)

abbrev pub reason_for : Standing → Float → Reason
reason_for w r = reason_by w (cutoff w.live w.tip r)

abbrev pub reason_of : Store → Float → ℕ → Reason
reason_of s r i = cond (is_stored s i) (reason_for (standing_at s (location_of s i)) r) not_stored
