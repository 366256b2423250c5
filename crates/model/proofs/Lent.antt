-- A call looks at and writes just the tables that it is lent. Each is by computation: a table that a call is not lent stands nowhere in its
-- rules. Assumes nothing.
use mathlib.Core.Path.{ap, ◌≡◌, refl, ◌∙◌, sym}
use mathlib.Core.Bool.{not, ◌&&◌, ◌||◌, Bool, cond, true, false}
use mathlib.Core.List.{List, [], ◌∷◌, ◌++◌, map}
use Prim.Native.Nat.{◌-◌, ℕ, suc, zero, ◌*◌, ◌+◌}
use lib.Dec.{ltb, eqb}
use lib.ListN.{length, get_or}
use lib.Ieee.{Float}
use Rattle.refusal.specs.Refusals.{wrong_shape, tables_disagree, no_such_id, ratio_out_of_range}
use Rattle.address.specs.Address.{is_location, packing, slabs}
use Rattle.carried.specs.Carried.{width}
use Rattle.fragmentation.specs.Cutoff.{is_ratio, cutoff}
use Rattle.model.specs.Batches.{abandon_rows}
use Rattle.model.specs.Defrag.{moves_in, cons_if, movable, moves_from}
use Rattle.model.specs.Lending.{Lending, if_lent, lending_of}
use Rattle.model.specs.Lent.{lent, joined, chosen, lengths_fit, fits}
use Rattle.model.specs.Memory.{Memory, read, batch_of, memory_of, carrying, batch_words, tally_words}
use Rattle.model.specs.MemoryAfter.{memory_effect, memory_after}
use Rattle.model.specs.Questions.{unfound, told_by, told_of, ask_refusal, reply}
use Rattle.model.specs.Step.{refusal_of, refusal, grant, answer, answer_by, unless}
use Rattle.model.specs.Store.{Row, Store, with_id_marks, with_carried, Batch, with_batch, Question, lookup, lookups, counters, defrag, why, snapshot_length, snapshot, told, moves}
use Rattle.model.specs.Store.{Call, new_id, release, offer, commit, abandon, fresh, rebuild, ask, truncation, report}
use Rattle.model.specs.Tables.{capacities, carried_bytes, live, slab_tip, bad_at, kept, held_id, location_of, carried_of}
use Rattle.model.specs.Snapshots.{is_stored}
use Rattle.model.specs.Tests.{shape, lists, none_open, one_open}
use Rattle.model.specs.Verdict.{test, ◌⨾◌, ok, Verdict, refuse}
use Rattle.model.proofs.Sizes.{shape_read}

-- the range of a kept update is told by the capacities
abandon_rows_caps : (s t : Store) → s.ids ≡ t.ids → s.slots ≡ t.slots → (i : ℕ) (ks : List Row) → abandon_rows s i ks ≡ abandon_rows t i ks
abandon_rows_caps s t p q i [] = refl
abandon_rows_caps s t p q i (r ∷ rs) = λ j.
    test (not (ltb 0 r.0 && ltb r.0 (p j) && (eqb r.1 0 || is_location (q j) r.1))) tables_disagree i ⨾ abandon_rows_caps s t p q (suc i) rs j

-- a defrag list looks at no id's mark, and not at what rows carry
moves_in_marks : (s : Store) (t c : List ℕ) (k j n : ℕ) → moves_in (with_carried (with_id_marks s t) c) k j n ≡ moves_in s k j n
moves_in_marks s t c k j zero = refl
moves_in_marks s t c k j (suc n) =
    let o = get_or s.owners (k * s.slots + j) 0 in
    ap (cons_if (movable s k j o) (o, packing k j)) (moves_in_marks s t c k (suc j) n)

moves_from_marks : (s : Store) (t c : List ℕ) (r : Float) (n k : ℕ) → moves_from (with_carried (with_id_marks s t) c) r n k ≡ moves_from s r n k
unfolding moves_from
moves_from_marks s t c r zero k = refl
moves_from_marks s t c r (suc n) k = λ i.
    moves_in_marks s t c k (cutoff (live s k) (slab_tip s k) r) (slab_tip s k - cutoff (live s k) (slab_tip s k) r) i ++ moves_from_marks s t c r n (suc k) i

-- a bad location by the four tables
bad_at_tables : (s : Store) (b : Batch) (c : List ℕ) (i l : ℕ) → bad_at (with_carried (with_batch s b) c) i l ≡ bad_at s i l
bad_at_tables s b c i zero = refl
bad_at_tables s b c i (suc l) = refl

-- ---- what is lent is kept

pick : (b : Bool) (x y : List ℕ) → x ≡ cond b (cond b x y) x
pick true x y = refl
pick false x y = refl

chosen_same : (l : Lending) (m b : Memory) → m ≡ chosen l (chosen l m b) m
chosen_same l m b = λ i. carrying (memory_of m.ids m.slots (pick l.id_marks m.id_marks b.id_marks i) (pick l.locations m.locations b.locations i)
    (pick l.slot_marks m.slot_marks b.slot_marks i) (pick l.owners m.owners b.owners i)
    (pick l.batch m.batch b.batch i) (pick l.tallies m.tallies b.tallies i))
    (pick l.carried m.carried b.carried i)

joined_lent : (m : Memory) (c : Call) → m ≡ joined c (lent c m) m
unfolding lent joined
joined_lent m c = chosen_same (lending_of c) m (memory_of m.ids m.slots [] [] [] [] [] [])

lent_fits : (m : Memory) (l : Lending) → fits l (chosen l m (memory_of m.ids m.slots [] [] [] [] [] [])) ≡ fits l m
unfolding lengths_fit
lent_fits m l = λ i.
    capacities m.ids m.slots &&
    (asked l.id_marks m.id_marks m.ids i && asked l.locations m.locations m.ids i && asked l.slot_marks m.slot_marks (slabs * m.slots) i &&
    asked l.owners m.owners (slabs * m.slots) i && asked l.batch m.batch batch_words i && asked l.carried m.carried (carried_bytes m.ids) i &&
    asked l.tallies m.tallies tally_words i)
  where
    asked : (b : Bool) (t : List ℕ) (n : ℕ) → if_lent b (eqb (length (cond b t [])) n) ≡ if_lent b (eqb (length t) n)
    asked true t n = refl
    asked false t n = refl

-- ---- the answer

-- refusal 1 looks at the lent tables alone
lent_shape : (m : Memory) (c : Call) → shape (read (lent c m)) c ≡ shape (read m) c
unfolding lent
lent_shape m c = shape_read c (lent c m) ∙ ap (λ b. test (not b) wrong_shape 0) (lent_fits m (lending_of c)) ∙ sym (shape_read c m)

-- one id by its tables
lent_unfound : (m : Memory) (i : ℕ) → unfound (read (lent (ask (lookup i [])) m)) i ≡ unfound (read m) i
unfolding lent read
lent_unfound m i = λ j.
    test (not (held_id (read m) i) || eqb (location_of (read m) i) 0) no_such_id 0 ⨾ test (bad_at_tables (read m) (batch_of []) m.carried i (location_of (read m) i) j) tables_disagree 0

lent_told : (m : Memory) (is : List ℕ) → map (told_of (read (lent (ask (lookup 0 [])) m))) is ≡ map (told_of (read m)) is
unfolding lent read
lent_told m [] = refl
lent_told m (i ∷ is) = λ j. told_by (lent_unfound m i j) (get_or m.locations i 0) (carried_of (read m) i) ∷ lent_told m is j

lent_ask : (m : Memory) (q : Question) → ask_refusal (read (lent (ask q) m)) q ≡ ask_refusal (read m) q
unfolding lent ask_refusal read
lent_ask m (lookup i row) = λ j. lists (eqb (length row) width) ⨾ lent_unfound m i j
lent_ask m (lookups p) = refl
lent_ask m counters = refl
lent_ask m (defrag r is ls) = refl
lent_ask m (why i r) = λ j.
    none_open (read m) ⨾ test (not (is_ratio r)) ratio_out_of_range 0
    ⨾ test (is_stored (read m) i && bad_at_tables (read m) (batch_of m.batch) [] i (location_of (read m) i) j) tables_disagree 0
lent_ask m snapshot_length = refl
lent_ask m (snapshot file) = refl

lent_rest : (m : Memory) (c : Call) → refusal_of (read (lent c m)) c ≡ refusal_of (read m) c
unfolding lent refusal_of read
lent_rest m new_id = refl
lent_rest m release = refl
lent_rest m (offer o) = refl
lent_rest m commit = refl
lent_rest m abandon = λ i. one_open (read m) ⨾ abandon_rows_caps (read (lent abandon m)) (read m) refl refl 0 (kept (read m)) i
lent_rest m fresh = refl
lent_rest m (rebuild rs) = refl
lent_rest m (ask q) = lent_ask m q
lent_rest m (truncation k t) = refl
lent_rest m (report k t) = refl

pub lent_refusal : (m : Memory) (c : Call) → refusal (read (lent c m)) c ≡ refusal (read m) c
unfolding refusal
lent_refusal m c = λ i. lent_shape m c i ⨾ lent_rest m c i

lent_reply : (m : Memory) (q : Question) → reply (read (lent (ask q) m)) q ≡ reply (read m) q
unfolding lent reply read
lent_reply m (lookup i row) = refl
lent_reply m (lookups p) = ap told (lent_told m p.ids)
lent_reply m counters = refl
lent_reply m (defrag r is ls) = ap moves (moves_from_marks (read m) (read (lent (ask (defrag r is ls)) m)).id_marks [] r slabs 0)
lent_reply m (why i r) = refl
lent_reply m snapshot_length = refl
lent_reply m (snapshot file) = refl

lent_grant : (m : Memory) (c : Call) → grant (read (lent c m)) c ≡ grant (read m) c
unfolding lent grant read
lent_grant m new_id = refl
lent_grant m release = refl
lent_grant m (offer o) = refl
lent_grant m commit = refl
lent_grant m abandon = refl
lent_grant m fresh = refl
lent_grant m (rebuild rs) = refl
lent_grant m (ask q) = lent_reply m q
lent_grant m (truncation k t) = refl
lent_grant m (report k t) = refl

-- the answer
pub lent_answer : (m : Memory) (c : Call) → answer (read (lent c m)) c ≡ answer (read m) c
unfolding answer
lent_answer m c = λ i. answer_by (lent_refusal m c i) (lent_grant m c i)

joined_effect : (m : Memory) (c : Call) → memory_effect m c ≡ joined c (memory_effect (lent c m) c) m
unfolding lent joined memory_effect read
joined_effect m new_id = refl
joined_effect m release = refl
joined_effect m (offer o) = refl
joined_effect m commit = refl
joined_effect m abandon = refl
joined_effect m fresh = refl
joined_effect m (rebuild rs) = refl
joined_effect m (ask q) = joined_lent m (ask q)
joined_effect m (truncation k t) = refl
joined_effect m (report k t) = refl

-- the memory: the lent tables are as they would be if the others were [], and the others stay
pub lent_after : (m : Memory) (c : Call) → memory_after m c ≡ joined c (memory_after (lent c m) c) m
unfolding memory_after
lent_after m c = go (refusal (read m) c) ∙ ap (λ w. joined c (unless w (lent c m) (memory_effect (lent c m) c)) m) (sym (lent_refusal m c))
  where
    go : (w : Verdict) → unless w m (memory_effect m c) ≡ joined c (unless w (lent c m) (memory_effect (lent c m) c)) m
    go ok = joined_effect m c
    go (refuse n i) = joined_lent m c
