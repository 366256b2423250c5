-- Parts of a list of rows, and their order. Assumes nothing.
use mathlib.Core.Bool.{true}
use mathlib.Core.Path.{◌≡◌, refl}
use mathlib.Core.List.{List, [], ◌∷◌, ◌++◌}
use Prim.Native.Nat.{ℕ, zero, suc, ◌-◌, ◌<◌}
use native.Mathlib.Omega.{arith}
use lib.Dec.{ltb}
use lib.ListN.{length, get_or, take, drop}
use borrow.Author.Tests.{ltb-true, lt-ltb}
use Rattle.refusal.proofs.Tests.{and_true, all}
use Rattle.snapshot_blocks.specs.Blocks.{Entry, above, ascending}
use Rattle.snapshot_blocks.specs.Valid.{All}

abbrev pub none : Entry
none = record { id = 0; carried = []; location = 0 }

-- ---- All
pub all_take : (P : Entry → Type 0) (n : ℕ) (es : List Entry) → All P es → All P (take n es)
all_take P zero es a = tt
all_take P (suc n) [] a = tt
all_take P (suc n) (e ∷ es) a = (a.0, all_take P n es a.1)

pub all_drop : (P : Entry → Type 0) (n : ℕ) (es : List Entry) → All P es → All P (drop n es)
all_drop P zero es a = a
all_drop P (suc n) [] a = tt
all_drop P (suc n) (e ∷ es) a = all_drop P n es a.1

pub all_append : (P : Entry → Type 0) (es fs : List Entry) → All P es → All P fs → All P (es ++ fs)
all_append P [] fs a b = b
all_append P (e ∷ es) fs a b = (a.0, all_append P es fs a.1 b)

-- ---- order
pub above_ascending : (p : ℕ) (es : List Entry) → above p es ≡ true → ascending es ≡ true
unfolding above ascending
above_ascending p [] h = refl
above_ascending p (e ∷ es) h = (and_true (ltb p e.id) (above e.id es) h).1

pub ascending_drop : (n : ℕ) (es : List Entry) → ascending es ≡ true → ascending (drop n es) ≡ true
unfolding ascending
ascending_drop zero es h = h
ascending_drop (suc n) [] h = refl
ascending_drop (suc n) (e ∷ es) h = ascending_drop n es (above_ascending e.id es h)

above_take : (n p : ℕ) (es : List Entry) → above p es ≡ true → above p (take n es) ≡ true
unfolding above
above_take zero p es h = refl
above_take (suc n) p [] h = refl
above_take (suc n) p (e ∷ es) h =
    all (and_true (ltb p e.id) (above e.id es) h).0
    (above_take n e.id es (and_true (ltb p e.id) (above e.id es) h).1)

pub ascending_take : (n : ℕ) (es : List Entry) → ascending es ≡ true → ascending (take n es) ≡ true
unfolding ascending
ascending_take zero es h = refl
ascending_take (suc n) [] h = refl
ascending_take (suc n) (e ∷ es) h = above_take n e.id es h

pub ascending_next : (es : List Entry) (m : ℕ) → suc m < length es → ascending es ≡ true → (get_or es m none).id < (get_or es (suc m) none).id
unfolding ascending above
ascending_next [] m h o = absurd (omega arith)
ascending_next (e ∷ []) m h o = absurd (omega arith)
ascending_next (e ∷ (f ∷ r)) zero h o = ltb-true e.id f.id (and_true (ltb e.id f.id) (above f.id r) o).0
ascending_next (e ∷ (f ∷ r)) (suc m) h o = ascending_next (f ∷ r) m (omega arith) (and_true (ltb e.id f.id) (above f.id r) o).1

-- rows that ascend, then rows that ascend from above the last of them
above_append : (p : ℕ) (es fs : List Entry) → above p es ≡ true → above (get_or (none ∷ es) (length es) none).id fs ≡ true → 0 < length es → above p (es ++ fs) ≡ true
unfolding above
above_append p [] fs h k l = absurd (omega arith)
above_append p (e ∷ []) fs h k l = all (and_true (ltb p e.id) (above e.id []) h).0 k
above_append p (e ∷ (f ∷ r)) fs h k l =
    all (and_true (ltb p e.id) (above e.id (f ∷ r)) h).0
    (above_append e.id (f ∷ r) fs (and_true (ltb p e.id) (above e.id (f ∷ r)) h).1 k (omega arith))

pub ascending_above : (p : ℕ) (es : List Entry) → ascending es ≡ true → (0 < length es → p < (get_or es 0 none).id) → above p es ≡ true
unfolding ascending above
ascending_above p [] o h = refl
ascending_above p (e ∷ es) o h = let l : p < e.id = h (omega arith) in all (lt-ltb p e.id l) o

pub ascending_append : (es fs : List Entry) → ascending es ≡ true → ascending fs ≡ true → 0 < length es → (0 < length fs → (get_or es (length es - 1) none).id < (get_or fs 0 none).id)
    → ascending (es ++ fs) ≡ true
unfolding ascending
ascending_append [] fs o q l h = absurd (omega arith)
ascending_append (e ∷ []) fs o q l h = ascending_above e.id fs q h
ascending_append (e ∷ (f ∷ r)) fs o q l h =
    let w : suc (suc (length r)) - 1 ≡ suc (length r) = omega arith in
    above_append e.id (f ∷ r) fs o (ascending_above (get_or (f ∷ r) (length r) none).id fs q (λ n. rw w at (h n))) (omega arith)
