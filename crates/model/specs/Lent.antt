-- The memory that a call is lent. A contract speaks of a memory in which every table that the call is not lent is []: proofs/Lent says that
-- neither the answer nor the lent tables depend on the others. Assumes nothing.
use Rattle.std.specs.Prelude.{Bool, true, false, cond, ◌&&◌, List, [], ℕ, ◌*◌, eqb, length}
use Rattle.address.specs.Address.{slabs}
use Rattle.model.specs.Store.{Call, Answer}
use Rattle.model.specs.Tables.{capacities, carried_bytes}
use Rattle.model.specs.Lending.{Lending, if_lent, lending_of}
use Rattle.model.specs.Step.{answer}
use Rattle.model.specs.Memory.{batch_words, tally_words, Memory, memory_of, carrying, read}
use Rattle.model.specs.MemoryAfter.{memory_after}

-- ---- what a call takes: its capacities, then each table that it is lent, in their order

-- A table's argument where it is lent, and no argument where it is not. So a contract has just the tables that Lending says.
abbrev pub Taking : Type 0 → Bool → Type 0 → Type 0
Taking T true A = T → A
Taking T false A = A

abbrev pub taking : {T A : Type 0} → T → (lent : Bool) → (T → A) → Taking T lent A
taking none true f = f
taking none false f = f none

-- of type T for each table, and of type A with all of them
abbrev pub Taken : Type 0 → Lending → Type 0 → Type 0
Taken T l A =
    Taking T l.id_marks (Taking T l.locations (Taking T l.slot_marks (Taking T l.owners (Taking T l.batch
    (Taking T l.tallies (Taking T l.carried A))))))

abbrev pub taken : {T A : Type 0} → T → (l : Lending) → (T → T → T → T → T → T → T → A) → Taken T l A
taken none l f =
    taking none l.id_marks (λ im. taking none l.locations (λ lo. taking none l.slot_marks (λ sm.
    taking none l.owners (λ ow. taking none l.batch (λ b. taking none l.tallies (λ g. taking none l.carried (λ c. f im lo sm ow b g c)))))))

-- the memory of the tables that a call is lent; the others are []
abbrev pub lent_by : (l : Lending) → ℕ → ℕ → Taken (List ℕ) l Memory
lent_by l n m = taken [] l (λ im lo sm ow b g c. carrying (memory_of n m im lo sm ow b g) c)

abbrev pub lent_to : (c : Call) → ℕ → ℕ → Taken (List ℕ) (lending_of c) Memory
lent_to c n m = lent_by (lending_of c) n m

-- what the call answers on them, and what they hold after it
abbrev pub answered : (c : Call) → ℕ → ℕ → Taken (List ℕ) (lending_of c) Answer
answered c n m = taken [] (lending_of c) (λ im lo sm ow b g t. answer (read (carrying (memory_of n m im lo sm ow b g) t)) c)

abbrev pub leaves : (c : Call) → ℕ → ℕ → Taken (List ℕ) (lending_of c) Memory
leaves c n m = taken [] (lending_of c) (λ im lo sm ow b g t. memory_after (carrying (memory_of n m im lo sm ow b g) t) c)

-- ---- refusal 1 in lengths: capacities, then the length of each table, of which only those that are lent are looked at

unfoldable pub lengths_fit : Lending → ℕ → ℕ → ℕ → ℕ → ℕ → ℕ → ℕ → ℕ → ℕ → Bool
lengths_fit l n m im lo sm ow b g c =
    capacities n m &&
    (if_lent l.id_marks (eqb im n) && if_lent l.locations (eqb lo n) && if_lent l.slot_marks (eqb sm (slabs * m)) &&
    if_lent l.owners (eqb ow (slabs * m)) && if_lent l.batch (eqb b batch_words) && if_lent l.carried (eqb c (carried_bytes n)) &&
    if_lent l.tallies (eqb g tally_words))

abbrev pub fits : Lending → Memory → Bool
fits l m =
    lengths_fit l m.ids m.slots (length m.id_marks) (length m.locations) (length m.slot_marks) (length m.owners)
    (length m.batch) (length m.tallies) (length m.carried)

-- by the lengths of the lent tables alone
abbrev pub fits_by : (l : Lending) → ℕ → ℕ → Taken ℕ l Bool
fits_by l n m = taken 0 l (lengths_fit l n m)

-- ---- the tables of two memories

-- the lent tables of the first memory, the others of the second
abbrev pub chosen : Lending → Memory → Memory → Memory
chosen l a b = record {
  ids = a.ids;
  slots = a.slots;
  id_marks = cond l.id_marks a.id_marks b.id_marks;
  locations = cond l.locations a.locations b.locations;
  slot_marks = cond l.slot_marks a.slot_marks b.slot_marks;
  owners = cond l.owners a.owners b.owners;
  batch = cond l.batch a.batch b.batch;
  tallies = cond l.tallies a.tallies b.tallies;
  carried = cond l.carried a.carried b.carried;
}

-- [] for each table that the call is not lent
unfoldable pub lent : Call → Memory → Memory
lent c m = chosen (lending_of c) m (memory_of m.ids m.slots [] [] [] [] [] [])

-- the whole memory after a call, where the lent tables are as in a and the caller keeps the others as in m
unfoldable pub joined : Call → Memory → Memory → Memory
joined c a m = chosen (lending_of c) a m
