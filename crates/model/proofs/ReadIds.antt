-- What is read after a new id, after fresh and rebuild, and after a high mark is written. The ids' hint moves past the new id, which counts by
-- the law of its allocator; a rebuild writes marks that count as they stand. Assumes nothing.
use mathlib.Core.Path.{◌≡◌, ◌∙◌, ap, refl, sym}
use mathlib.Core.Logic.{◌≢◌}
use mathlib.Core.Bool.{cond, Bool, true, false}
use mathlib.Core.List.{List, map, [], ◌∷◌, ◌++◌}
use Prim.Native.Nat.{ℕ, ◌≤◌, ◌+◌, suc, ◌<◌, zero, max, zero-le, ◌/◌, ◌*◌, min}
use native.Mathlib.Nat.{le_refl}
use native.Mathlib.Omega.{arith}
use lib.ListN.{length, set, get_or, length-set, take, drop, take-append-drop, replicate}
use lib.Seq.{get_or-drop}
use Rattle.address.specs.Address.{is_location, unit, slabs}
use Rattle.id_allocator.specs.Counted.{counted, settle, quiet}
use Rattle.marks.specs.Marks.{hold, is_free}
use Rattle.id_allocator.proofs.LawsCounted.{counted_take_id, counted_smallest_free, settle_busy}
use Rattle.id_allocator.proofs.LawsHinted.{hinted_zero}
use Rattle.model.specs.Ids.{next_id, after_new_id}
use Rattle.model.specs.Memory.{Memory, read, get_word, word_at, granted_words, hint_words, put_word, used_words, counted_by, waiting_words, tallies_of, counted_slabs, batch_of, high_words}
use Rattle.model.specs.MemoryAfter.{new_id_words, memory_new_id, with_words, raise_word, use_slots, memory_rebuilt}
use Rattle.model.specs.Rebuild.{held_by, rebuilt, located_by, owned_by}
use Rattle.model.specs.Store.{tallies_from, Tallies, store_of, Row, batch_from}
use Rattle.model.specs.Tables.{carried_bytes, bump, use_each, write_all, locations_of}
use Rattle.model.specs.Truncation.{with_high, raise}
use Rattle.model.proofs.Slabs.{counted_slabs_words}
use Rattle.model.proofs.Lists.{take_each, set_each, zeros}
use Rattle.model.proofs.Locations.{is_location_says}
use Rattle.model.proofs.Writes.{length_bump, write_all_each}
use Rattle.model.proofs.Words.{word_other, word_bump, word_same, tallies_hint, tallies_used, tallies_grant, tallies_high}

-- ---- new id

module _ (m : Memory) (more : ℕ) (lg : length m.tallies ≡ 473) where
  abbrev n : ℕ
  n = next_id (read m)

  abbrev g : List ℕ
  g = m.tallies

  abbrev g₁ : List ℕ
  g₁ = bump g (word_at granted_words 0) more

  abbrev g' : List ℕ
  g' = new_id_words g n more

  words_else : (kind a : ℕ) → 3 ≤ kind → kind ≤ 4 → word_at kind a ≢ word_at hint_words 0 → get_word g' kind a ≡ get_word g kind a
  words_else kind a low high e =
      word_other (put_word g₁ used_words 0 1) hint_words 0 (n + 1) kind a e
      ∙ word_other g₁ used_words 0 1 kind a (omega arith) ∙ word_bump g granted_words 0 more kind a (omega arith)

  ids_after : counted_by g' 0 (set (set m.id_marks n 1) 0 (hold (get_or m.id_marks 0 0)))
      ≡ set (set (counted_by g 0 m.id_marks) n 1) 0 (hold (get_or (counted_by g 0 m.id_marks) 0 0))
  unfolding read
  ids_after =
      (λ i. counted (word_same (put_word g₁ used_words 0 1) hint_words 0 (n + 1) (simp (length-set, length_bump, lg) (omega arith)) i)
      (words_else waiting_words 0 (omega arith) (omega arith) (omega arith) i) (set (set m.id_marks n 1) 0 (hold (get_or m.id_marks 0 0))))
      ∙ counted_take_id (get_word g hint_words 0) (get_word g waiting_words 0) m.id_marks n (counted_smallest_free (get_word g hint_words 0) (get_word g waiting_words 0) m.id_marks 1)

  tallies_after : tallies_of g' ≡ tallies_from (bump (tallies_of g).granted 0 more) (tallies_of g).freed (set (tallies_of g).used 0 1) (tallies_of g).high
  tallies_after =
      tallies_hint (put_word g₁ used_words 0 1) 0 (n + 1) (omega arith) ∙ tallies_used g₁ 0 1 (omega arith)
      ∙ ap (λ (t : Tallies). tallies_from t.granted t.freed (set t.used 0 1) t.high) (tallies_grant g 0 more (omega arith))

  slots_after : counted_slabs m.slots g' slabs 0 m.slot_marks ≡ counted_slabs m.slots g slabs 0 m.slot_marks
  slots_after = counted_slabs_words m.slots g g' slabs 0 m.slot_marks
      (λ a b. (words_else hint_words (suc a) (omega arith) (omega arith) (omega arith), words_else waiting_words (suc a) (omega arith) (omega arith) (omega arith)))

pub read_new_id : (m : Memory) → length m.tallies ≡ 473 → read (memory_new_id m) ≡ after_new_id (read m)
unfolding read
read_new_id m lg =
    let more : ℕ = cond (is_free (get_or (read m).id_marks 0 0)) 2 1 in
    λ i. store_of m.ids m.slots (ids_after m more lg i) m.locations (slots_after m more lg i) m.owners (batch_of m.batch) (tallies_after m more lg i)
    m.carried

-- ---- a high mark

pub high_words_lem : (m : Memory) (k v : ℕ) → read (with_words m (put_word m.tallies high_words k v)) ≡ with_high (read m) (set (read m).tallies.high k v)
unfolding read
high_words_lem m k v =
    let g = m.tallies in
    let else : (kind a : ℕ) → kind ≤ 4 → a < 79 → get_word (put_word g high_words k v) kind a ≡ get_word g kind a =
    λ kind a h b. word_other g high_words k v kind a (omega arith) in
    λ i. store_of m.ids m.slots
    (counted (else hint_words 0 (omega arith) (omega arith) i) (else waiting_words 0 (omega arith) (omega arith) i) m.id_marks) m.locations
    (counted_slabs_words m.slots g (put_word g high_words k v) slabs 0 m.slot_marks
    (λ a b. (else hint_words (suc a) (omega arith) (omega arith), else waiting_words (suc a) (omega arith) (omega arith))) i) m.owners
    (batch_of m.batch) (tallies_high g k v i) m.carried

-- asking raises the high mark
pub read_raise : (m : Memory) (k t : ℕ) → read (with_words m (raise_word m.tallies k t)) ≡ with_high (read m) (raise (read m).tallies.high k t)
unfolding read
read_raise m k zero = refl
read_raise m k (suc top) =
    high_words_lem m k (max (get_word m.tallies high_words k) top)
    ∙ ap (λ x. with_high (read m) (set (read m).tallies.high k (max x top))) (sym (get_or-drop 395 m.tallies k 0))

-- ---- rebuild: marks that are free or held count as they stand where no word is set

map_settle : (ms : List ℕ) → ((p : ℕ) → get_or ms p 0 ≤ 1) → map settle ms ≡ ms
map_settle [] h = refl
map_settle (x ∷ ms) h = λ i. settle_busy x (λ e. not_two (h 0) e) i ∷ map_settle ms (λ p. h (suc p)) i
  where
    not_two : x ≤ 1 → x ≡ 2 → ⊥
    not_two l e = omega arith

plain : (ms : List ℕ) → ((p : ℕ) → get_or ms p 0 ≤ 1) → counted 0 0 ms ≡ ms
unfolding counted quiet
plain ms h = ap (map settle) (hinted_zero ms) ∙ map_settle ms h

plain_slabs : (cap : ℕ) (g : List ℕ) (n k : ℕ) (t : List ℕ) → ((p : ℕ) → get_or t p 0 ≤ 1)
    → ((a : ℕ) → a < k + n → (get_word g hint_words (suc a) ≡ 0) × (get_word g waiting_words (suc a) ≡ 0)) → counted_slabs cap g n k t ≡ t
unfolding counted_slabs
plain_slabs cap g zero k t h w = refl
plain_slabs cap g (suc n) k t h w =
    (λ i. counted ((w k (omega arith)).0 i) ((w k (omega arith)).1 i) (take cap t) ++ counted_slabs cap g n (suc k) (drop cap t))
    ∙ (λ i. plain (take cap t) (take_each (λ x. x ≤ 1) cap t zero-le h) i ++ plain_slabs cap g n (suc k) (drop cap t) (λ p. rw (get_or-drop cap t p 0) (h (cap + p))) (λ a b. w a (omega arith)) i)
    ∙ take-append-drop cap t

held_by_le : (rs : List Row) (t : List ℕ) → ((p : ℕ) → get_or t p 0 ≤ 1) → (p : ℕ) → get_or (held_by rs t) p 0 ≤ 1
held_by_le [] t h = h
held_by_le (r ∷ rs) t h = held_by_le rs (set t r.0 1) (set_each (λ x. x ≤ 1) t r.0 1 (le_refl 1) h)

-- the used words of a list of locations
use_slots_word : (cap : ℕ) (g ls : List ℕ) (kind a : ℕ) → 3 ≤ kind → kind ≤ 4 → a < 79 → get_word (use_slots cap g ls) kind a ≡ get_word g kind a
use_slots_word cap g [] kind a low high h = refl
use_slots_word cap g (l ∷ ls) kind a low high h =
    use_slots_word cap (cond (is_location cap l) (put_word g used_words (l / unit) 1) g) ls kind a low high h ∙ go (is_location cap l) refl
  where
    go : (b : Bool) → is_location cap l ≡ b → get_word (cond b (put_word g used_words (l / unit) 1) g) kind a ≡ get_word g kind a
    go true e = let v = is_location_says cap l e in word_other g used_words (l / unit) 1 kind a (omega (arith, v.high))
    go false e = refl

abbrev with_used : Tallies → List ℕ → Tallies
with_used t u = tallies_from t.granted t.freed u t.high

use_slots_tallies : (cap : ℕ) (g ls : List ℕ) → tallies_of (use_slots cap g ls) ≡ with_used (tallies_of g) (use_each cap (tallies_of g).used ls)
use_slots_tallies cap g [] = refl
use_slots_tallies cap g (l ∷ ls) =
    use_slots_tallies cap (cond (is_location cap l) (put_word g used_words (l / unit) 1) g) ls
    ∙ ap (λ t. with_used t (use_each cap t.used ls)) (go (is_location cap l) refl)
  where
    go : (b : Bool) → is_location cap l ≡ b
        → tallies_of (cond b (put_word g used_words (l / unit) 1) g) ≡ with_used (tallies_of g) (cond b (set (tallies_of g).used (l / unit) 1) (tallies_of g).used)
    go true e = let v = is_location_says cap l e in tallies_used g (l / unit) 1 (omega (arith, v.high))
    go false e = refl

pub read_rebuilt : (n m : ℕ) (rs : List Row) → read (memory_rebuilt n m rs) ≡ rebuilt n m rs
unfolding read
read_rebuilt n m rs = λ i. store_of n m
    (((λ j. counted (none hint_words 0 (omega arith) (omega arith) (omega arith) j) (none waiting_words 0 (omega arith) (omega arith) (omega arith) j)
    (held_by rs (replicate n 0))) ∙ plain (held_by rs (replicate n 0)) (held_by_le rs (replicate n 0) (λ p. rw (zeros n p) zero-le))) i)
    (located_by rs (replicate n 0))
    (plain_slabs m G slabs 0 (write_all m (locations_of rs) 1 (replicate (slabs * m) 0))
    (write_all_each (λ x. x ≤ 1) m (locations_of rs) 1 (replicate (slabs * m) 0) (le_refl 1) (λ p. rw (zeros (slabs * m) p) zero-le))
    (λ a b. (none hint_words (suc a) (omega arith) (omega arith) (omega arith), none waiting_words (suc a) (omega arith) (omega arith) (omega arith)))
    i) (owned_by m rs (replicate (slabs * m) 0)) (batch_from 0 (replicate 256 0) (replicate 256 0)) (tall i) (replicate (carried_bytes n) 0)
  where
    g : List ℕ
    g = put_word (replicate 473 0) used_words 0 (min 1 (length rs))

    G : List ℕ
    G = use_slots m g (locations_of rs)

    none : (kind a : ℕ) → 3 ≤ kind → kind ≤ 4 → a < 79 → get_word G kind a ≡ 0
    none kind a low high h =
        use_slots_word m g (locations_of rs) kind a low high h
        ∙ word_other (replicate 473 0) used_words 0 (min 1 (length rs)) kind a (omega arith) ∙ zeros 473 (word_at kind a)

    tall : tallies_of G ≡ (rebuilt n m rs).tallies
    tall = use_slots_tallies m g (locations_of rs)
        ∙ ap (λ t. with_used t (use_each m t.used (locations_of rs))) (tallies_used (replicate 473 0) 0 (min 1 (length rs)) (omega arith))
