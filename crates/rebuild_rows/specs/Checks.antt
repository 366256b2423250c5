-- The rules of rebuild rows as the code goes through them. Nothing here has to be believed: proofs/Checked.antt shows that together they
-- are the model's `rows`. Assumes nothing.
use Rattle.std.specs.Prelude.{Bool, not, cond, ◌&&◌, List, [], ◌∷◌, ℕ, zero, suc, ◌+◌, ◌/◌, ◌%◌, ◌^◌, ltb, eqb, length, get_or, set, take, replicate, Result, Ok, Err, Option, Some, None, ⊤}
use Rattle.std.specs.Int.Bits.{bit_or}
use Rattle.refusal.specs.Refusals.{refusal, wrong_shape, out_of_range, no_such_id, repeated_id, repeated_location}
use Rattle.address.specs.Address.{bad_slots, unit, is_location}
use Rattle.model.specs.Store.{Row}
use Rattle.model.specs.Rebuild.{rows_of}
use Rattle.model.specs.Verdict.{Verdict, ok, refuse}
use Rattle.refusal.specs.declared.Kind.{Kind}
use Rattle.refusal.specs.declared.Refusal.{Refusal}

-- ---- what a row says by itself, and repeated ids

-- what is wrong with a row but for repeated locations; `seen` marks the ids before it
unfoldable pub wrong_in : ℕ → ℕ → List ℕ → ℕ → ℕ → Option Kind
wrong_in ids slots seen id location =
    cond (not (ltb 0 id && ltb id ids)) (Some no_such_id)
    (cond (not (eqb (get_or seen id 0) 0)) (Some repeated_id)
    (cond (is_location slots location) None (Some out_of_range)))

-- row i where it is wrong, else what is said of the rows after it
abbrev pub wrong_or : Option Kind → ℕ → Result ⊤ Refusal → Result ⊤ Refusal
wrong_or (Some kind) i after = Err (refusal kind i)
wrong_or None i after = after

-- the first row that is wrong
unfoldable pub first_wrong : ℕ → ℕ → List ℕ → ℕ → List Row → Result ⊤ Refusal
first_wrong ids slots seen i [] = Ok tt
first_wrong ids slots seen i (r ∷ rs) = wrong_or (wrong_in ids slots seen r.0 r.1) i (first_wrong ids slots (set seen r.0 1) (i + 1) rs)

-- how many of n rows come before the one that is refused; all of them where none is
abbrev pub rows_before : ℕ → Result ⊤ Refusal → ℕ
rows_before n (Ok done) = n
rows_before n (Err r) = r.index

-- ---- repeated locations

-- A location's top byte is 1 to 78, one more than its slab: by eights the slabs are ten groups, and a slot's mark is a byte with a bit for
-- each slab of a group.
abbrev pub groups : ℕ
groups = 10

abbrev pub group_of : ℕ → ℕ
group_of l = l / unit / 8

abbrev pub bit_of : ℕ → ℕ
bit_of l = l / unit % 8

-- whether a mark has a bit; the mark with it
unfoldable pub has_bit : ℕ → ℕ → Bool
has_bit mark b = eqb (mark / 2 ^ b % 2) 1

unfoldable pub with_bit : ℕ → ℕ → ℕ
with_bit mark b = bit_or mark (2 ^ b)

-- whether the mark of a location's slot has its bit; the marks with it
abbrev pub is_marked : List ℕ → ℕ → Bool
is_marked marks l = has_bit (get_or marks (l % unit) 0) (bit_of l)

abbrev pub marked : List ℕ → ℕ → List ℕ
marked marks l = set marks (l % unit) (with_bit (get_or marks (l % unit) 0) (bit_of l))

-- whether a location of group g is marked; the marks with it
unfoldable pub repeats_at : ℕ → List ℕ → ℕ → Bool
repeats_at g marks l = eqb (group_of l) g && is_marked marks l

unfoldable pub marked_by : ℕ → List ℕ → ℕ → List ℕ
marked_by g marks l = cond (eqb (group_of l) g) (marked marks l) marks

-- the first of these locations that repeats one of group g; past the last where there is none
unfoldable pub repeat_in : ℕ → List ℕ → ℕ → List ℕ → ℕ
repeat_in g marks i [] = i
repeat_in g marks i (l ∷ ls) = cond (repeats_at g marks l) i (repeat_in g (marked_by g marks l) (i + 1) ls)

-- of n groups from g on, among the first `end` locations
unfoldable pub repeats_from : ℕ → List ℕ → ℕ → ℕ → ℕ → ℕ
repeats_from slots ls zero g end = end
repeats_from slots ls (suc n) g end = repeats_from slots ls n (g + 1) (repeat_in g (replicate slots 0) 0 (take end ls))

-- ---- both: of n rows, a repeated location before the first wrong row decides

unfoldable pub decided : ℕ → Result ⊤ Refusal → ℕ → Result ⊤ Refusal
decided n w repeat = cond (ltb repeat (rows_before n w)) (Err (refusal repeated_location repeat)) w

abbrev pub wrong_verdict : Result ⊤ Refusal → Verdict
wrong_verdict (Ok done) = ok
wrong_verdict (Err r) = refuse r.kind r.index

abbrev pub decided_by : ℕ → List ℕ → ℕ → Result ⊤ Refusal → Result ⊤ Refusal
decided_by slots ls n w = decided n w (repeats_from slots (take (rows_before n w) ls) groups 0 (length (take (rows_before n w) ls)))

-- of all rows
unfoldable pub checked : ℕ → ℕ → List ℕ → List ℕ → Result ⊤ Refusal
checked ids slots is ls = decided_by slots ls (length is) (first_wrong ids slots (replicate 65536 0) 0 (rows_of is ls))

-- the same, where there are slots and as many locations as ids
unfoldable pub refused_row : ℕ → ℕ → List ℕ → List ℕ → Result ⊤ Refusal
refused_row ids slots is ls = cond (not (bad_slots slots) && eqb (length ls) (length is)) (checked ids slots is ls) (Err (refusal wrong_shape 0))
