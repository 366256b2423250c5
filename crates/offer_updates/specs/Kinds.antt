-- The updates of an offer, as the code goes through them. Nothing here has to be believed: LawsUpdates of crate offer shows that each says
-- what the model says of the batch. Assumes nothing.
use Rattle.std.specs.Prelude.{Bool, true, false, cond, List, [], ◌∷◌, ℕ, zero, suc, eqb, get_or, replicate, Option, Some, None}
use Rattle.refusal.specs.declared.Kind.{Kind}
use Rattle.refusal.specs.Refusals.{no_such_id, repeated_id, too_large, tables_disagree}
use Rattle.list_parts.specs.Lists.{elem}
use Rattle.sizes.specs.Sizes.{slabs, slab_for}
use Rattle.model.specs.Tables.{most_updates}
use Rattle.model.specs.Memory.{Memory}
use Rattle.model.specs.Verdict.{Verdict, ok, refuse}
use Rattle.tables.specs.Entries.{held_in, bad_in}

-- past the slabs: a Store whose object has no class, then a Free
abbrev pub no_class_kind : ℕ
no_class_kind = slabs

abbrev pub free_kind : ℕ
free_kind = suc no_class_kind

-- the slab that an update asks for a slot of; of an object that has no class slab_for says no_class_kind
abbrev pub kind_of : Bool → ℕ → ℕ
kind_of true n = slab_for n
kind_of false n = free_kind

abbrev pub kinds_of : List Bool → List ℕ → List ℕ
kinds_of [] ns = []
kinds_of (s ∷ ss) [] = []
kinds_of (s ∷ ss) (n ∷ ns) = kind_of s n ∷ kinds_of ss ns

-- before the first update
unfoldable pub no_kinds : List ℕ
no_kinds = replicate most_updates free_kind

-- the ids before update i, the last one first
abbrev pub before : ℕ → List ℕ → List ℕ
before zero is = []
before (suc i) is = get_or is i 0 ∷ before i is

-- the first test that is met
unfoldable pub wrong_by : Bool → Bool → Bool → Bool → Option Kind
wrong_by held repeated none bad =
    cond held (cond repeated (Some repeated_id) (cond none (Some too_large) (cond bad (Some tables_disagree) None))) (Some no_such_id)

-- of id x, after those seen, and slab k
unfoldable pub row_wrong : Memory → List ℕ → ℕ → ℕ → Option Kind
row_wrong m seen x k =
    wrong_by (held_in m.ids m.id_marks m.tallies x) (elem x seen) (eqb k no_class_kind)
    (bad_in m.slots m.slot_marks m.owners m.tallies x (get_or m.locations x 0))

-- refused where something is wrong
abbrev pub say_at : Option Kind → ℕ → Verdict → Verdict
say_at None i v = v
say_at (Some kind) i v = refuse kind i

unfoldable pub check_in : Memory → List ℕ → ℕ → List ℕ → List ℕ → Verdict
check_in m seen i [] ks = ok
check_in m seen i (x ∷ is) [] = ok
check_in m seen i (x ∷ is) (k ∷ ks) = say_at (row_wrong m seen x k) i (check_in m (x ∷ seen) (suc i) is ks)
