-- Document 01, "Ids, slots, pending": rebuild from rows of an id and a location. A fresh store is a rebuild from no rows. Assumes nothing.
use Rattle.std.specs.Prelude.{not, List, [], ◌∷◌, ℕ, suc, ◌*◌, min, length, set, replicate}
use Rattle.refusal.specs.Refusals.{out_of_range, no_such_id, repeated_id, repeated_location}
use Rattle.list_parts.specs.Lists.{elem}
use Rattle.address.specs.Address.{is_location, slabs}
use Rattle.model.specs.Store.{Store, Row, Rows}
use Rattle.model.specs.Verdict.{Verdict, ok, ◌⨾◌, test}
use Rattle.model.specs.Tables.{most_updates, allocators, carried_bytes, write, write_all, in_ids, pairs, ids_of, locations_of, use_each}

-- the rows of two lists
abbrev pub rows_of : List ℕ → List ℕ → List Row
rows_of is ls = pairs (length is) is ls

abbrev pub rows_in : Rows → List Row
rows_in rs = rows_of rs.ids rs.locations

-- and the lists of rows, with what they carry
abbrev pub columns : List Row → List ℕ → Rows
columns rs bytes = record { ids = ids_of rs; locations = locations_of rs; carried = bytes }

-- per row: `is` and `ls` are the ids and locations of those before it, i is its index
abbrev pub rows : Store → List ℕ → List ℕ → ℕ → List Row → Verdict
rows s is ls i [] = ok
rows s is ls i (r ∷ rs) =
    test (not (in_ids s r.0)) no_such_id i ⨾ test (elem r.0 is) repeated_id i ⨾
    test (not (is_location s.slots r.1)) out_of_range i ⨾ test (elem r.1 ls) repeated_location i ⨾ rows s (r.0 ∷ is) (r.1 ∷ ls) (suc i) rs

-- each row's id is held, has its location, and owns its slot
abbrev pub held_by : List Row → List ℕ → List ℕ
held_by [] t = t
held_by (r ∷ rs) t = held_by rs (set t r.0 1)

abbrev pub located_by : List Row → List ℕ → List ℕ
located_by [] t = t
located_by (r ∷ rs) t = located_by rs (set t r.0 r.1)

abbrev pub owned_by : ℕ → List Row → List ℕ → List ℕ
owned_by cap [] t = t
owned_by cap (r ∷ rs) t = owned_by cap rs (write cap r.1 r.0 t)

-- a store with these capacities whose rows are held, and nothing else; counters and high marks are 0, no batch is open, and the rows carry zeros
abbrev pub rebuilt : ℕ → ℕ → List Row → Store
rebuilt n m rs = record {
  ids = n;
  slots = m;
  id_marks = held_by rs (replicate n 0);
  locations = located_by rs (replicate n 0);
  slot_marks = write_all m (locations_of rs) 1 (replicate (slabs * m) 0);
  owners = owned_by m rs (replicate (slabs * m) 0);
  batch = record { opened = 0; kept_ids = replicate most_updates 0; kept_locations = replicate most_updates 0 };
  tallies = record {
    granted = replicate allocators 0;
    freed = replicate allocators 0;
    used = use_each m (set (replicate allocators 0) 0 (min 1 (length rs))) (locations_of rs);
    high = replicate slabs 0;
  };
  carried = replicate (carried_bytes n) 0;
}

abbrev pub fresh_store : ℕ → ℕ → Store
fresh_store n m = rebuilt n m []
