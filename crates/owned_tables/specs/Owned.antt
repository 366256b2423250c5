-- How long the tables are that a program owns. Assumes nothing.
use Rattle.std.specs.Prelude.{ℕ, ◌≡◌, ◌+◌, ◌-◌, ◌*◌, ◌^◌, min, vec_len}
use Rattle.carried.specs.Carried.{width}
use Rattle.address.specs.Address.{slabs}
use Rattle.model.specs.Memory.{batch_words, tally_words}
use Rattle.model.specs.Tables.{most_updates}
use Rattle.tables.specs.declared.capacities.Capacities.{Capacities}
use Rattle.owned_tables.specs.declared.OwnedTables.{OwnedTables}

-- a length that a word holds: that of a store's table is below
abbrev pub capped : ℕ → ℕ
capped n = min n (2 ^ 64 - 1)

-- each of the seven is as long as the calls ask of a store of these capacities
abbrev pub HasLengths : Capacities → OwnedTables → Type 0
HasLengths caps t =
    (vec_len t.id_marks ≡ caps.ids) × (vec_len t.locations ≡ caps.ids) × (vec_len t.slot_marks ≡ capped (caps.slots * slabs)) ×
    (vec_len t.owners ≡ capped (caps.slots * slabs)) × (vec_len t.batch ≡ batch_words) × (vec_len t.tallies ≡ tally_words) ×
    (vec_len t.carried ≡ capped (capped (caps.ids + most_updates) * width))
