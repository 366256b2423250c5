-- Which tables each call is lent: said here, and nowhere else. Refusal 1 asks just these for their lengths (`shape` in Step), and the memory of
-- a call's contract takes just these (`lent_to` in Lent). Assumes nothing.
use Rattle.std.specs.Prelude.{Bool, true, false, ◌&&◌}
use Rattle.model.specs.Store.{Store, Question, lookup, lookups, counters, defrag, why, snapshot_length, snapshot, Call, new_id, release, offer, commit, abandon, fresh, rebuild}
use Rattle.model.specs.Store.{ask, truncation, report}
use Rattle.model.specs.Tables.{id_marks_fit, locations_fit, slot_marks_fit, owners_fit, batch_fits, tallies_fit, carried_fits, capacities}

pub record Lending : Type 0 where
  pub id_marks : Bool
  pub locations : Bool
  pub slot_marks : Bool
  pub owners : Bool
  pub batch : Bool
  pub tallies : Bool
  pub carried : Bool

abbrev pub lends : Bool → Bool → Bool → Bool → Bool → Bool → Bool → Lending
lends i l s o b t c = record { id_marks = i; locations = l; slot_marks = s; owners = o; batch = b; tallies = t; carried = c }

-- the sets, by what their calls are after
abbrev pub every_table : Lending
every_table = lends true true true true true true true

abbrev pub id_tables : Lending
id_tables = lends true false false false true true false

abbrev pub mark_tables : Lending
mark_tables = lends true false true false true true false

abbrev pub slab_tables : Lending
slab_tables = lends false false true false true true false

-- what the tests of an offer's updates look at
abbrev pub place_tables : Lending
place_tables = lends true true true true false true false

-- and what a lookup does, of one id or of a page
abbrev pub row_tables : Lending
row_tables = lends true true true true false true true

abbrev pub move_tables : Lending
move_tables = lends false true true true true true false

-- an id's object, and its slab
abbrev pub reason_tables : Lending
reason_tables = lends true true true true true true false

abbrev pub stored_tables : Lending
stored_tables = lends true true false false true true false

abbrev pub tallies_alone : Lending
tallies_alone = lends false false false false false true false

abbrev pub lent_to_ask : Question → Lending
lent_to_ask (lookup i row) = row_tables
lent_to_ask (lookups p) = row_tables
lent_to_ask counters = tallies_alone
lent_to_ask (defrag r is ls) = move_tables
lent_to_ask (why i r) = reason_tables
lent_to_ask snapshot_length = stored_tables
lent_to_ask (snapshot file) = every_table

abbrev pub lending_of : Call → Lending
lending_of new_id = id_tables
lending_of release = mark_tables
lending_of (offer o) = every_table
lending_of commit = every_table
lending_of abandon = slab_tables
lending_of fresh = every_table
lending_of (rebuild rs) = every_table
lending_of (ask q) = lent_to_ask q
lending_of (truncation k t) = slab_tables
lending_of (report k t) = slab_tables

-- ---- lengths

-- what is asked of a table where it is lent
abbrev pub if_lent : Bool → Bool → Bool
if_lent true fit = fit
if_lent false fit = true

-- each table that is lent has its length
unfoldable pub lent_fit : Lending → Store → Bool
lent_fit l s =
    if_lent l.id_marks (id_marks_fit s) && if_lent l.locations (locations_fit s) && if_lent l.slot_marks (slot_marks_fit s) &&
    if_lent l.owners (owners_fit s) && if_lent l.batch (batch_fits s) && if_lent l.carried (carried_fits s) &&
    if_lent l.tallies (tallies_fit s)

-- a store whose capacities are good and whose seven tables have their lengths
unfoldable pub sized : Store → Bool
sized s = capacities s.ids s.slots && lent_fit every_table s
