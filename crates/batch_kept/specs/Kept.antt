-- The kept batch in the words that hold it. Nothing here has to be believed: proofs/Laws.antt shows that each says what the model says of the
-- batch that is read from them. Assumes nothing.
use Rattle.std.specs.Prelude.{Bool, not, cond, ◌&&◌, ◌||◌, List, [], ◌∷◌, ℕ, zero, suc, ◌+◌, ◌-◌, ltb, eqb, get_or, Result, Ok, Err, is_err, Option, Some, None}
use Rattle.refusal.specs.Refusals.{refusal, no_batch, tables_disagree}
use Rattle.address.specs.Address.{unpacked}
use Rattle.model.specs.Store.{Row}
use Rattle.model.specs.Tables.{most_opened}
use Rattle.model.specs.Memory.{kept_ids_at, kept_locations_at}
use Rattle.model.specs.Verdict.{Verdict, ok, refuse, ◌⨾◌, test}
use Rattle.refusal.specs.declared.Refusal.{Refusal}
use Rattle.address.specs.declared.SlabAddress.{SlabAddress}

-- how many updates are kept, by the opened word
abbrev pub count_by : ℕ → Result ℕ Refusal
count_by opened =
    cond (eqb opened 0) (Err (refusal no_batch 0))
    (cond (ltb most_opened opened) (Err (refusal tables_disagree 0))
    (Ok (opened - 1)))

unfoldable pub count_of : List ℕ → Result ℕ Refusal
count_of b = count_by (get_or b 0 0)

-- the kept update i
abbrev pub kept_row : List ℕ → ℕ → Row
kept_row b i = (get_or b (kept_ids_at + i) 0, get_or b (kept_locations_at + i) 0)

-- n of them, from i on
unfoldable pub kept_from : List ℕ → ℕ → ℕ → List Row
kept_from b zero i = []
kept_from b (suc n) i = kept_row b i ∷ kept_from b n (suc i)

-- an id, or a new location, out of range; 0 and addresses are not refused
unfoldable pub bad_kept : ℕ → ℕ → ℕ → ℕ → Bool
bad_kept ids slots i l = not (ltb 0 i && ltb i ids) || is_err (unpacked slots l)

abbrev pub bad_kept_row : ℕ → ℕ → Row → Bool
bad_kept_row ids slots r = bad_kept ids slots r.0 r.1

-- refusal 13 for the first row that is bad; i is the index of the first of them
unfoldable pub first_bad : (Row → Bool) → ℕ → List Row → Verdict
first_bad bad i [] = ok
first_bad bad i (r ∷ rs) = test (bad r) tables_disagree i ⨾ first_bad bad (suc i) rs

-- no such batch, or what is decided of its rows
abbrev pub rows_then : Result ℕ Refusal → Verdict → Verdict
rows_then (Err r) v = refuse r.kind r.index
rows_then (Ok n) v = v

-- n updates where nothing is refused
abbrev pub rows_as : Verdict → ℕ → Result ℕ Refusal
rows_as ok n = Ok n
rows_as (refuse kind index) n = Err (refusal kind index)

-- what stands at an address, by its allocator and its slot, and d where there is none
abbrev pub by_address : {A : Type 0} → (ℕ → ℕ → A) → A → Result (Option SlabAddress) Refusal → A
by_address f d (Ok (Some a)) = f (suc a.slab) a.slot
by_address f d (Ok None) = d
by_address f d (Err r) = d
