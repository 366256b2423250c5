-- Document 01, "Defrag and truncation": what asking for a slab's cutoff answers. Assumes nothing.
use Rattle.std.specs.Prelude.{cond, not, ◌||◌, ℕ, ltb, Float, Result, Ok, Err, Option, Some, None}
use Rattle.refusal.specs.Refusals.{refusal, wrong_shape, ratio_out_of_range}
use Rattle.address.specs.Address.{most_slots}
use Rattle.fragmentation.specs.Cutoff.{is_ratio, cutoff}
use Rattle.refusal.specs.declared.Refusal.{Refusal}

-- 1 where these are no counts of a slab, 14 where r is no fill ratio; else the first slot to look at, where there is one below the tip
unfoldable pub cutoff_of : ℕ → ℕ → Float → Result (Option ℕ) Refusal
cutoff_of live tip r =
    cond (ltb most_slots tip || ltb tip live) (Err (refusal wrong_shape 0))
    (cond (not (is_ratio r)) (Err (refusal ratio_out_of_range 0))
    (cond (ltb (cutoff live tip r) tip) (Ok (Some (cutoff live tip r)))
    (Ok None)))
