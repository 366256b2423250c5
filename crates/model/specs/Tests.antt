-- Document 01, "Refusal numbers": the tests that several calls begin with. Assumes nothing.
use Rattle.std.specs.Prelude.{Bool, not, ◌&&◌, List, ltb, eqb, length}
use Rattle.refusal.specs.Refusals.{wrong_shape, batch_open, no_batch, tables_disagree}
use Rattle.model.specs.Store.{Store, Call}
use Rattle.model.specs.Verdict.{Verdict, ◌⨾◌, test}
use Rattle.model.specs.Tables.{most_opened, capacities, is_open}
use Rattle.model.specs.Lending.{lent_fit, lending_of}

-- the capacities, and the tables that the call is lent
abbrev pub shape : Store → Call → Verdict
shape s c = test (not (capacities s.ids s.slots && lent_fit (lending_of c) s)) wrong_shape 0

-- the lists that it is lent besides
abbrev pub lists : Bool → Verdict
lists fit = test (not fit) wrong_shape 0

-- as long as the first list
abbrev pub as_long : {A B : Type 0} → List A → List B → Bool
as_long xs ys = eqb (length ys) (length xs)

abbrev pub none_open : Store → Verdict
none_open s = test (is_open s) batch_open 0

-- a batch is open, of at most 256 updates
abbrev pub one_open : Store → Verdict
one_open s = test (not (is_open s)) no_batch 0 ⨾ test (ltb most_opened s.batch.opened) tables_disagree 0
