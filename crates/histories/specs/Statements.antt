-- What is proved of every history, in the mission's words. It speaks of `answer`, `next`, `refusal` and `state` of crate model; what a
-- reader must believe is those and this page. The proofs stand in proofs/, each under the name said beside it. Assumes nothing.
use Rattle.std.specs.Prelude.{◌≡◌, ◌≢◌, ◌⊎◌, ◌↔◌, Bool, true, false, cond, ℕ, suc, ◌+◌, ◌-◌, ◌*◌, ◌/◌, ◌%◌, ◌^◌, ◌≤◌, ◌<◌, eqb, length, get_or, set, take, replicate, Float}
use mathlib.Core.List.{List, [], ◌∷◌, Memᴰ, map}
use Rattle.std.specs.Float.Ieee as Ieee
use Rattle.refusal.specs.Outcomes.{granted, refused}
use Rattle.refusal.specs.Refusals.{number_of, no_such_id, none_free, nothing_to_cut, key_too_long}
use Rattle.list_parts.specs.Lists.{elem}
use Rattle.list_parts.specs.Parts.{part}
use Rattle.carried.specs.Carried.{width, rows_at}
use Rattle.keys.specs.Keys.{long_in, normal_rows, all_stored, is_normal}
use Rattle.sizes.specs.Sizes.{slab_for}
use Rattle.address.specs.Address.{unit, packing, slabs}
use Rattle.marks.specs.Marks.{is_free, is_taken, count_if, tip}
use Rattle.fragmentation.specs.Cutoff.{float, quotient}
use Rattle.model.specs.Store.{Store, Update, put, free, Row, Offer, Page, Told, Standing, Reason, not_stored, full_enough, before_line, listed}
use Rattle.model.specs.Store.{gave, told, placed, moves, because, Answer}
use Rattle.model.specs.Store.{Call, new_id, release, offer, commit, abandon, fresh, rebuild, ask, lookup, lookups, defrag, why, truncation, report}
use Rattle.model.specs.Verdict.{Verdict, ok, refuse, tests_from}
use Rattle.model.specs.Tables.{capacities, location_of, held_id, ids_of, locations_of, is_open, slab_tip}
use Rattle.model.specs.Lending.{every_table, sized}
use Rattle.model.specs.Batches.{updates_in}
use Rattle.model.specs.Rebuild.{rows_in, columns, fresh_store}
use Rattle.model.specs.Defrag.{movable, all_moves}
use Rattle.model.specs.Snapshots.{is_stored}
use Rattle.model.specs.Questions.{asks_history}
use Rattle.model.specs.Outcomes.{values_of, lists_of, nth}
use Rattle.model.specs.Step.{refusal, answer, next, after, state}
use Rattle.model.specs.Memory.{Memory, read}
use Rattle.model.specs.MemoryAfter.{memory_after}
use Rattle.model.specs.Lent.{fits}
use Rattle.histories.specs.Invariant.{Inv}

-- ---- 1. the invariant (Reached.reached)

abbrev pub Reached : Type 0
Reached = (n m : ℕ) → capacities n m ≡ true → (h : List Call) → Inv (state n m h)

-- ---- 2. the tallies (Tallied.tallied, Tallied.below_tip)

-- the rows of the last granted fresh or rebuild
abbrev pub rows_by : Verdict → Call → List Row → List Row
rows_by (refuse n i) c rs = rs
rows_by ok new_id rs = rs
rows_by ok release rs = rs
rows_by ok (offer o) rs = rs
rows_by ok commit rs = rs
rows_by ok abandon rs = rs
rows_by ok fresh rs = []
rows_by ok (rebuild rows) rs = rows_in rows
rows_by ok (ask q) rs = rs
rows_by ok (truncation k t) rs = rs
rows_by ok (report k t) rs = rs

abbrev pub rows_since : Store → List Row → List Call → List Row
rows_since s rs [] = rs
rows_since s rs (c ∷ cs) = rows_since (next s c) (rows_by (refusal s c) c rs) cs

-- whether a location is of slab k
abbrev pub in_slab : ℕ → ℕ → Bool
in_slab k l = eqb (l / unit) (suc k)

-- held plus pending
abbrev pub held_or_pending : List ℕ → ℕ
held_or_pending t = count_if is_taken t

-- granted minus freed plus rows rebuilt is held plus pending, modulo 2^64; said without a minus
pub record Tally (s : Store) (rs : List Row) : Type 0 where
  pub of_ids : (get_or s.tallies.granted 0 0 + length rs) % 2 ^ 64 ≡ (get_or s.tallies.freed 0 0 + held_or_pending s.id_marks) % 2 ^ 64
  pub of_slab : (k : ℕ) → k < slabs →
      (get_or s.tallies.granted (suc k) 0 + count_if (in_slab k) (locations_of rs)) % 2 ^ 64
      ≡ (get_or s.tallies.freed (suc k) 0 + held_or_pending (part s.slots s.slot_marks k)) % 2 ^ 64

abbrev pub Tallied : Type 0
Tallied = (n m : ℕ) → capacities n m ≡ true → (h : List Call) → Tally (state n m h) (rows_since (fresh_store n m) [] h)

-- held plus pending plus free below tip is tip, whatever the marks and the used word
abbrev pub BelowTip : Type 0
BelowTip = (t : List ℕ) (used : ℕ) → 1 ≤ length t → held_or_pending t + count_if is_free (take (tip t used) t) ≡ tip t used

-- ---- 3. the smallest free number (Smallest.new_ids, Smallest.no_new_id, Smallest.new_slots), whatever the tables hold

-- n is free, and no number from `from` on is that is smaller
pub record SmallestFree (from n : ℕ) (t : List ℕ) : Type 0 where
  pub from_on : from ≤ n
  pub inside : n < length t
  pub is_free_lem : get_or t n 0 ≡ 0
  pub none_smaller : (i : ℕ) → from ≤ i → i < n → get_or t i 0 ≢ 0

abbrev pub NewIds : Type 0
NewIds = (s : Store) (n : ℕ) → answer s new_id ≡ granted (gave n) → SmallestFree 1 n s.id_marks

-- refused with 10 only where no id above 0 is free
abbrev pub NoNewId : Type 0
NoNewId = (s : Store) → answer s new_id ≡ refused none_free 0 → (i : ℕ) → 1 ≤ i → i < s.ids → get_or s.id_marks i 0 ≢ 0

-- each Store in list order gets the smallest free slot of its slab, and holds it; a Free gets 0
abbrev pub InOrder : ℕ → List ℕ → List Update → List ℕ → Type 0
InOrder cap t [] [] = Unit
InOrder cap t [] (l ∷ ls) = ⊥
InOrder cap t (u ∷ us) [] = ⊥
InOrder cap t (put i n ∷ us) (l ∷ ls) =
    (j : ℕ) × (l ≡ packing (slab_for n) j) × SmallestFree 0 j (part cap t (slab_for n)) × InOrder cap (set t (slab_for n * cap + j) 1) us ls
InOrder cap t (free i ∷ us) (l ∷ ls) = (l ≡ 0) × InOrder cap t us ls

abbrev pub NewSlots : Type 0
NewSlots = (s : Store) (o : Offer) (ls : List ℕ) → answer s (offer o) ≡ granted (placed ls) → InOrder s.slots s.slot_marks (updates_in o) ls

-- ---- 4. demand 3

-- the calls whose answers remember history, and are excepted: counters, truncation answers and cut reports
abbrev pub remembers : Call → Bool
remembers new_id = false
remembers release = false
remembers (offer o) = false
remembers commit = false
remembers abandon = false
remembers fresh = false
remembers (rebuild rs) = false
remembers (ask q) = asks_history q
remembers (truncation k t) = true
remembers (report k t) = true

-- what is seen of an answer
pub data Seen : Type 0 where
  shown : Answer → Seen
  excepted : Seen

-- of an excepted answer a refusal is still seen, but not whether the test of a cut report says keep
abbrev pub veil : Answer → Seen
veil (granted g) = excepted
veil (refused n i) = cond (eqb (number_of n) (number_of nothing_to_cut)) excepted (shown (refused n i))

abbrev pub seen : Call → Answer → Seen
seen c a = cond (remembers c) (veil a) (shown a)

abbrev pub answers : Store → List Call → List Seen
answers s [] = []
answers s (c ∷ cs) = seen c (answer s c) ∷ answers (next s c) cs

-- no batch is open, nothing is pending, and every id that is held, except 0, is stored
pub record AtRest (s : Store) : Type 0 where
  pub closed : s.batch.opened ≡ 0
  pub no_id : (i : ℕ) → get_or s.id_marks i 0 ≢ 2
  pub no_slot : (p : ℕ) → get_or s.slot_marks p 0 ≢ 2
  pub stored : (i : ℕ) → held_id s i ≡ true → location_of s i ≢ 0

-- no two rows have one id
pub data Distinct : List Row → Type 0 where
  none : Distinct []
  more : {r : Row} {rs : List Row} → elem r.0 (ids_of rs) ≡ false → Distinct rs → Distinct (r ∷ rs)

-- the rows are the live ids, each once, in any order, with their locations; and each has its id's collection and key: its bytes, one row after the
-- other, are kept as the ids' are, and no key is too long
pub record LiveRows (s : Store) (rs : List Row) (bytes : List ℕ) : Type 0 where
  pub once : Distinct rs
  pub only : (r : Row) → Memᴰ r rs → (held_id s r.0 ≡ true) × (location_of s r.0 ≡ r.1)
  pub every : (i : ℕ) → held_id s i ≡ true → Memᴰ (i, location_of s i) rs
  pub carries : normal_rows (all_stored (ids_of rs)) bytes ≡ rows_at width s.carried (ids_of rs)
  pub wide : length bytes ≡ length (ids_of rs) * width
  pub short : tests_from key_too_long 0 (long_in (all_stored (ids_of rs)) bytes) ≡ ok

-- (Rebuilt.rebuild_agrees) a rebuild from the live rows, in any memory of the same capacities, is granted, and no later answer differs
abbrev pub RebuildAgrees : Type 0
RebuildAgrees =
    (n m : ℕ) (h : List Call) (rs : List Row) (bytes : List ℕ) (memory : Store) →
    capacities n m ≡ true → AtRest (state n m h) → LiveRows (state n m h) rs bytes →
    memory.ids ≡ n → memory.slots ≡ m → sized memory ≡ true →
    (refusal memory (rebuild (columns rs bytes)) ≡ ok) ×
    ((later : List Call) → answers (next memory (rebuild (columns rs bytes))) later ≡ answers (state n m h) later)

-- a batch is open before each of these calls, and after the last
abbrev pub StaysOpen : Store → List Call → Type 0
StaysOpen s [] = is_open s ≡ true
StaysOpen s (c ∷ cs) = (is_open s ≡ true) × StaysOpen (next s c) cs

-- the calls that were not refused
abbrev pub keep_if : Verdict → Call → List Call → List Call
keep_if ok c cs = c ∷ cs
keep_if (refuse n i) c cs = cs

abbrev pub granted_of : Store → List Call → List Call
granted_of s [] = []
granted_of s (c ∷ cs) = keep_if (refusal s c) c (granted_of (next s c) cs)

-- (Abandoned.abandon_agrees) a batch is offered, calls are made while it is open, it is abandoned: later answers are as if it had never been
-- offered and only the calls granted in between had been made
abbrev pub AbandonAgrees : Type 0
AbandonAgrees =
    (n m : ℕ) (h : List Call) (o : Offer) (between later : List Call) →
    capacities n m ≡ true → refusal (state n m h) (offer o) ≡ ok → StaysOpen (next (state n m h) (offer o)) between →
    answers (next (after (next (state n m h) (offer o)) between) abandon) later
    ≡ answers (after (state n m h) (granted_of (next (state n m h) (offer o)) between)) later

-- (Lent.memory_agrees, Lent.rebuild_agrees_lent) the same of the lent tables, whatever they hold: a sequence of calls on them is answered
-- as on the store that is read from them, so after a rebuild in any memory of the right lengths no later answer differs
abbrev pub answers_in : Memory → List Call → List Seen
answers_in m [] = []
answers_in m (c ∷ cs) = seen c (answer (read m) c) ∷ answers_in (memory_after m c) cs

abbrev pub MemoryAgrees : Type 0
MemoryAgrees = (m : Memory) (cs : List Call) → answers_in m cs ≡ answers (read m) cs

abbrev pub RebuildAgreesLent : Type 0
RebuildAgreesLent =
    (n m : ℕ) (h : List Call) (rs : List Row) (bytes : List ℕ) (memory : Memory) →
    capacities n m ≡ true → AtRest (state n m h) → LiveRows (state n m h) rs bytes →
    memory.ids ≡ n → memory.slots ≡ m → fits every_table memory ≡ true →
    (refusal (read memory) (rebuild (columns rs bytes)) ≡ ok) ×
    ((later : List Call) → answers_in (memory_after memory (rebuild (columns rs bytes))) later ≡ answers (state n m h) later)

-- (NormalRows.reached_normal) each row of the column is in its normal form: no key over 64, and zeros behind it
abbrev pub Normal : List ℕ → Type 0
Normal t = (i : ℕ) → i * width + width ≤ length t → is_normal (part width t i) ≡ true

abbrev pub ReachedNormal : Type 0
ReachedNormal = (n m : ℕ) (h : List Call) → Normal (state n m h).carried

-- (LiveRows.rows_exist) the rows that a rebuild wants can always be had
abbrev pub RowsExist : Type 0
RowsExist = (n m : ℕ) (h : List Call) → capacities n m ≡ true → AtRest (state n m h)
    → (rs : List Row) × (bytes : List ℕ) × LiveRows (state n m h) rs bytes

-- (Examples.rebuild_met, Examples.abandon_met) some history meets each condition: one that stores and frees is at rest with two live rows, and
-- there is a memory to rebuild in; one offers a batch, and between the offer and the abandon one call is granted and one refused
abbrev pub RebuildMet : Type 0
RebuildMet =
    (h : List Call) × (rs : List Row) × (bytes : List ℕ) × AtRest (state 9 4 h) × LiveRows (state 9 4 h) rs bytes × (length rs ≡ 2) ×
    (sized (fresh_store 9 4) ≡ true)

abbrev pub AbandonMet : Type 0
AbandonMet =
    (h : List Call) × (o : Offer) × (between : List Call) ×
    (refusal (state 9 4 h) (offer o) ≡ ok) × StaysOpen (next (state 9 4 h) (offer o)) between ×
    (length between ≡ 2) × (length (granted_of (next (state 9 4 h) (offer o)) between) ≡ 1)

-- ---- 5. a defrag list fits its lent lists (MovesFit.moves_fit), whatever the tables hold

abbrev pub MovesFit : Type 0
MovesFit = (s : Store) (r : Float) → capacities s.ids s.slots ≡ true → length (all_moves s r) ≤ s.ids - 1

-- ---- 6. a page is as many lookups (Pages.page_rows), whatever the tables hold

-- a lookup's answer as a row: 0, its value and its list; or its number, and zeros
abbrev pub row_of : Answer → Told
row_of (granted g) = record { number = 0; location = get_or (values_of g) 0 0; carried = nth 0 (lists_of g) }
row_of (refused n i) = record { number = number_of n; location = 0; carried = replicate width 0 }

-- a row for each id, in the order asked: that of the lookup of this id alone, so that no row depends on another, and a repeated id has its row again
abbrev pub PageRows : Type 0
PageRows = (s : Store) (p : Page) (ts : List Told) (row : List ℕ) → answer s (ask (lookups p)) ≡ granted (told ts) → length row ≡ width
    → ts ≡ map (λ (i : ℕ). row_of (answer s (ask (lookup i row)))) p.ids

-- ---- 7. why an object is on a defrag list, or is not, whatever the tables hold

-- (Reasons.why_not_stored) no such stored object: exactly where a lookup is refused with 8
abbrev pub WhyNotStored : Type 0
WhyNotStored =
    (s : Store) (i : ℕ) (r : Float) (g : Reason) (row : List ℕ) → sized s ≡ true → length row ≡ width → answer s (ask (why i r)) ≡ granted (because g)
    → (g ≡ not_stored) ↔ (answer s (ask (lookup i row)) ≡ refused no_such_id 0)

-- (Reasons.why_listed) listed, at a location: exactly where the object is stored and the defrag list of the same ratio has the id there
abbrev pub ListedAt : Reason → ℕ → Type 0
ListedAt not_stored l = ⊥
ListedAt (full_enough w) l = ⊥
ListedAt (before_line w line) l = ⊥
ListedAt (listed w line) l = packing w.slab w.slot ≡ l

abbrev pub WhyListed : Type 0
WhyListed =
    (s : Store) (i : ℕ) (r : Float) (g : Reason) (is ls : List ℕ) (ms : List Row) → answer s (ask (why i r)) ≡ granted (because g)
    → answer s (ask (defrag r is ls)) ≡ granted (moves ms) → (l : ℕ) → ListedAt g l ↔ ((g ≢ not_stored) × Memᴰ (i, l) ms)

-- (Reasons.reached_listed) after any history what is on the list is stored: listed exactly where the list has the id
abbrev pub ReachedListed : Type 0
ReachedListed =
    (n m : ℕ) (h : List Call) (i : ℕ) (r : Float) (g : Reason) (is ls : List ℕ) (ms : List Row) → capacities n m ≡ true
    → answer (state n m h) (ask (why i r)) ≡ granted (because g) → answer (state n m h) (ask (defrag r is ls)) ≡ granted (moves ms)
    → (l : ℕ) → ListedAt g l ↔ Memᴰ (i, l) ms

-- (Reasons.list_uses) the line and the tip are the list's: of the slab it has a slot exactly from the line on and below the tip, where its owner has it as its
-- location. Where the slab is full enough the list starts at the tip, so that it has none
abbrev pub StartsAt : Reason → Standing → ℕ → Type 0
StartsAt not_stored v start = ⊥
StartsAt (full_enough w) v start = (w ≡ v) × (w.tip ≡ start)
StartsAt (before_line w line) v start = (w ≡ v) × (line ≡ start)
StartsAt (listed w line) v start = (w ≡ v) × (line ≡ start)

abbrev pub ListUses : Type 0
ListUses =
    (s : Store) (i : ℕ) (r : Float) (g : Reason) (v : Standing) (start : ℕ) (is ls : List ℕ) (ms : List Row) → answer s (ask (why i r)) ≡ granted (because g)
    → answer s (ask (defrag r is ls)) ≡ granted (moves ms) → StartsAt g v start → (j o : ℕ) → j < s.slots
    → Memᴰ (o, packing v.slab j) ms
    ↔ ((start ≤ j) × (j < v.tip) × (get_or s.owners (v.slab * s.slots + j) 0 ≡ o) × (movable s v.slab j o ≡ true))

-- (Reasons.one_reason) of the four exactly one applies by document 01, and it is the one that is given

-- where the object of id i stands, and what is counted of its slab
pub record Stands (s : Store) (i : ℕ) (w : Standing) : Type 0 where
  pub stored : is_stored s i ≡ true
  pub location : location_of s i ≡ packing w.slab w.slot
  pub in_slab_lem : w.slot < s.slots
  pub smaller : w.smaller ≡ held_or_pending (take w.slot (part s.slots s.slot_marks w.slab))
  pub live : w.live ≡ held_or_pending (part s.slots s.slot_marks w.slab)
  pub tip : w.tip ≡ slab_tip s w.slab

-- live / r, cut to a whole number: where the list of the slab starts, unless it is full enough
abbrev pub line_for : Standing → Float → ℕ
line_for w r = Ieee.to_unsigned 64 (quotient (float w.live) r)

-- both of document 01's grounds on which nothing of a slab is listed
abbrev pub Full : Standing → Float → Type 0
Full w r = (Ieee.le r (quotient (float w.live) (float w.tip)) ≡ true) ⊎ (w.tip ≤ line_for w r)

abbrev pub Applies : Store → Float → ℕ → Reason → Type 0
Applies s r i not_stored = is_stored s i ≡ false
Applies s r i (full_enough w) = Stands s i w × Full w r
Applies s r i (before_line w line) = Stands s i w × ¬ (Full w r) × (line ≡ line_for w r) × (w.slot < line)
Applies s r i (listed w line) = Stands s i w × (line ≡ line_for w r) × Memᴰ (i, packing w.slab w.slot) (all_moves s r)

abbrev pub OneReason : Type 0
OneReason =
    (s : Store) (i : ℕ) (r : Float) (g : Reason) → answer s (ask (why i r)) ≡ granted (because g)
    → Applies s r i g × ((other : Reason) → Applies s r i other → other ≡ g)
