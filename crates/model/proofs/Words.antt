-- Laws of the words of the tallies: a word written is read in its own list, and every other list stays. Assumes nothing.
use mathlib.Core.Path.{◌≡◌, ◌∙◌, sym, refl, ap}
use mathlib.Core.Logic.{◌≢◌}
use mathlib.Core.List.{List}
use Prim.Native.Nat.{ℕ, ◌<◌, ◌*◌, ◌+◌, zero, suc, ◌%◌, ◌^◌}
use native.Mathlib.Omega.{arith}
use lib.ListN.{length, set, drop, length-take, length-drop, length-set}
use lib.Seq.{get_or-set_same, get_or-set_other, drop-set-lt, ext_get_or, drop-set-add}
use Rattle.list_parts.specs.Parts.{part}
use Rattle.list_parts.proofs.Parts.{part_here, part_there, length_part, part_at}
use Rattle.model.specs.Memory.{get_word, word_at, put_word, tallies_of, granted_words, freed_words, used_words, hint_words, waiting_words, high_words}
use Rattle.model.specs.Store.{tallies_from}
use Rattle.model.specs.Tables.{bump}
use Rattle.model.proofs.Writes.{bump_other}

-- ---- one word

pub word_same : (g : List ℕ) (kind a v : ℕ) → word_at kind a < length g → get_word (put_word g kind a v) kind a ≡ v
word_same g kind a v h = get_or-set_same g (word_at kind a) v 0 h

pub word_other : (g : List ℕ) (kind a v kind' a' : ℕ) → word_at kind' a' ≢ word_at kind a → get_word (put_word g kind a v) kind' a' ≡ get_word g kind' a'
word_other g kind a v kind' a' h = get_or-set_other g (word_at kind a) (word_at kind' a') v 0 h

pub word_bump : (g : List ℕ) (kind a n kind' a' : ℕ) → word_at kind' a' ≢ word_at kind a → get_word (bump g (word_at kind a) n) kind' a' ≡ get_word g kind' a'
word_bump g kind a n kind' a' h = bump_other g (word_at kind a) n (word_at kind' a') h

-- ---- a word of the first kinds, seen in the tallies

-- the lists of each kind
abbrev pub kinds : List ℕ → ℕ → List ℕ
kinds g kind = part 79 g kind

kinds_here : (g : List ℕ) (kind a v : ℕ) → a < 79 → kinds (put_word g kind a v) kind ≡ set (kinds g kind) a v
kinds_here g kind a v h = part_here 79 g kind a v h

kinds_there : (g : List ℕ) (kind a v i : ℕ) → a < 79 → i ≢ kind → kinds (put_word g kind a v) i ≡ kinds g i
kinds_there g kind a v i h n = part_there 79 g kind a v i h n

high_there : (g : List ℕ) (kind a v : ℕ) → kind < 5 → a < 79 → drop 395 (put_word g kind a v) ≡ drop 395 g
high_there g kind a v k h = drop-set-lt 395 g (word_at kind a) v (omega arith)

pub tallies_granted : (g : List ℕ) (a v : ℕ) → a < 79
    → tallies_of (put_word g granted_words a v) ≡ tallies_from (set (tallies_of g).granted a v) (tallies_of g).freed (tallies_of g).used (tallies_of g).high
tallies_granted g a v h = λ i. tallies_from (kinds_here g 0 a v h i) (kinds_there g 0 a v 1 h (omega arith) i)
    (kinds_there g 0 a v 2 h (omega arith) i) (high_there g 0 a v (omega arith) h i)

pub tallies_freed : (g : List ℕ) (a v : ℕ) → a < 79
    → tallies_of (put_word g freed_words a v) ≡ tallies_from (tallies_of g).granted (set (tallies_of g).freed a v) (tallies_of g).used (tallies_of g).high
tallies_freed g a v h = λ i. tallies_from (kinds_there g 1 a v 0 h (omega arith) i) (kinds_here g 1 a v h i) (kinds_there g 1 a v 2 h (omega arith) i)
    (high_there g 1 a v (omega arith) h i)

pub tallies_used : (g : List ℕ) (a v : ℕ) → a < 79
    → tallies_of (put_word g used_words a v) ≡ tallies_from (tallies_of g).granted (tallies_of g).freed (set (tallies_of g).used a v) (tallies_of g).high
tallies_used g a v h = λ i. tallies_from (kinds_there g 2 a v 0 h (omega arith) i) (kinds_there g 2 a v 1 h (omega arith) i) (kinds_here g 2 a v h i)
    (high_there g 2 a v (omega arith) h i)

-- hints and waiting words are no part of a store
pub tallies_hint : (g : List ℕ) (a v : ℕ) → a < 79 → tallies_of (put_word g hint_words a v) ≡ tallies_of g
tallies_hint g a v h = λ i. tallies_from (kinds_there g 3 a v 0 h (omega arith) i) (kinds_there g 3 a v 1 h (omega arith) i)
    (kinds_there g 3 a v 2 h (omega arith) i) (high_there g 3 a v (omega arith) h i)

pub tallies_waiting : (g : List ℕ) (a v : ℕ) → a < 79 → tallies_of (put_word g waiting_words a v) ≡ tallies_of g
tallies_waiting g a v h = λ i. tallies_from (kinds_there g 4 a v 0 h (omega arith) i) (kinds_there g 4 a v 1 h (omega arith) i)
    (kinds_there g 4 a v 2 h (omega arith) i) (high_there g 4 a v (omega arith) h i)

-- ---- a high mark

take_high : (g : List ℕ) (k v i : ℕ) → i < 5 → kinds (put_word g high_words k v) i ≡ kinds g i
take_high g k v i h = ext_get_or 0 _ _ (simp (length-take, length-drop, length-set))
    (λ p b.
    let q : p < 79 = omega (arith, b, length_part 79 (put_word g high_words k v) i) in
    part_at 79 (put_word g high_words k v) i p 0 q ∙ get_or-set_other g (word_at high_words k) (i * 79 + p) v 0 (omega arith) ∙ sym (part_at 79 g i p 0 q))

pub tallies_high : (g : List ℕ) (k v : ℕ)
    → tallies_of (put_word g high_words k v) ≡ tallies_from (tallies_of g).granted (tallies_of g).freed (tallies_of g).used (set (tallies_of g).high k v)
tallies_high g k v = λ i. tallies_from (take_high g k v 0 (omega arith) i) (take_high g k v 1 (omega arith) i) (take_high g k v 2 (omega arith) i)
    (drop-set-add 395 g k v i)

-- ---- counters

pub tallies_grant : (g : List ℕ) (a n : ℕ) → a < 79
    → tallies_of (bump g (word_at granted_words a) n) ≡ tallies_from (bump (tallies_of g).granted a n) (tallies_of g).freed (tallies_of g).used (tallies_of g).high
tallies_grant g a zero h = refl
tallies_grant g a (suc n) h = tallies_granted g a _ h
    ∙ ap (λ x. tallies_from (set (tallies_of g).granted a ((x + suc n) % 2 ^ 64)) (tallies_of g).freed (tallies_of g).used (tallies_of g).high) (sym (part_at 79 g 0 a 0 h))

pub tallies_free : (g : List ℕ) (a n : ℕ) → a < 79
    → tallies_of (bump g (word_at freed_words a) n) ≡ tallies_from (tallies_of g).granted (bump (tallies_of g).freed a n) (tallies_of g).used (tallies_of g).high
tallies_free g a zero h = refl
tallies_free g a (suc n) h = tallies_freed g a _ h
    ∙ ap (λ x. tallies_from (tallies_of g).granted (set (tallies_of g).freed a ((x + suc n) % 2 ^ 64)) (tallies_of g).used (tallies_of g).high) (sym (part_at 79 g 1 a 0 h))
