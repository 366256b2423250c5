-- What is read after a release: slab by slab, what was pending is free, and the freed counters have risen by as many. A slab in which nothing
-- waits has nothing pending as it counts, so passing it over changes nothing. Assumes nothing.
use mathlib.Core.Path.{◌≡◌, refl, ◌∙◌, ap, sym, subst}
use mathlib.Core.Logic.{◌≢◌, ◌⊎◌, inl, inr}
use mathlib.Core.List.{List, map}
use Prim.Native.Nat.{ℕ, ◌<◌, zero, suc, ◌≤◌, ◌+◌, ◌*◌}
use native.Mathlib.Decide.{ℕ_discrete}
use native.Mathlib.Omega.{arith}
use lib.ListN.{length, length-set, length-map}
use Rattle.list_parts.specs.Parts.{part}
use Rattle.list_parts.proofs.Parts.{length_put_part, part_put_part, part_put_part_other, ext_parts, part_map}
use Rattle.address.specs.Address.{slabs}
use Rattle.id_allocator.specs.Counted.{hinted, counted}
use Rattle.marks.specs.Marks.{count_if, is_pending, let_go}
use Rattle.id_allocator.proofs.LawsCounted.{counted_none_pending}
use Rattle.id_allocator.proofs.LawsHinted.{hinted_length}
use Rattle.model.specs.Ids.{bump_pending, after_release}
use Rattle.model.specs.Memory.{get_word, put_word, hint_words, waiting_words, freed_words, word_at, tallies_of, counted_by, read, Memory, batch_of, counted_slabs}
use Rattle.model.specs.MemoryAfter.{released_words, Slots, release_slab, released_marks, release_slabs, slots_of, memory_release, release_ids}
use Rattle.model.specs.Store.{Tallies, tallies_from, store_of}
use Rattle.model.specs.Tables.{bump}
use Rattle.model.proofs.Slabs.{counted_slabs_words, length_counted_slabs}
use Rattle.model.proofs.Steps.{loud, Fits, part_long, released_read, slots_read, slab_read}
use Rattle.model.proofs.Writes.{length_bump}
use Rattle.model.proofs.Words.{word_other, word_bump, tallies_waiting, tallies_hint, tallies_free}

-- ---- the words of one allocator

module _ (g : List ℕ) (a : ℕ) (ms : List ℕ) (ha : a < 79) where
  released_long : (w : ℕ) → length (released_words g a w ms) ≡ length g
  released_long zero = refl
  released_long (suc w) = simp (length-set, length_bump)

  released_else : (w kind b : ℕ) → 3 ≤ kind → kind ≤ 4 → b < 79 → b ≢ a → get_word (released_words g a w ms) kind b ≡ get_word g kind b
  released_else zero kind b low high hb n = refl
  released_else (suc w) kind b low high hb n =
      word_other (put_word g₁ hint_words a 0) waiting_words a 0 kind b (omega arith) ∙ word_other g₁ hint_words a 0 kind b (omega arith)
      ∙ word_bump g freed_words a (count_if is_pending (hinted (get_word g hint_words a) ms)) kind b (omega arith)
    where
      g₁ : List ℕ
      g₁ = bump g (word_at freed_words a) (count_if is_pending (hinted (get_word g hint_words a) ms))

  abbrev freeing : ℕ → Tallies
  freeing n = tallies_from (tallies_of g).granted (bump (tallies_of g).freed a n) (tallies_of g).used (tallies_of g).high

  -- as many more are freed as were pending
  released_tallies : tallies_of (released_words g a (get_word g waiting_words a) ms) ≡ freeing (count_if is_pending (counted_by g a ms))
  released_tallies = go (get_word g waiting_words a) refl
    where
      h : ℕ
      h = get_word g hint_words a

      go : (w : ℕ) → get_word g waiting_words a ≡ w → tallies_of (released_words g a w ms) ≡ freeing (count_if is_pending (counted_by g a ms))
      go zero e = ap freeing (sym ((λ i. count_if is_pending (counted h (e i) ms)) ∙ counted_none_pending h ms))
      go (suc w) e =
          tallies_waiting (put_word (bump g (word_at freed_words a) n) hint_words a 0) a 0 ha ∙ tallies_hint (bump g (word_at freed_words a) n) a 0 ha
          ∙ tallies_free g a n ha ∙ ap freeing (sym ((λ i. count_if is_pending (counted h (e i) ms)) ∙ ap (count_if is_pending) (loud h w ms)))
        where
          n : ℕ
          n = count_if is_pending (hinted h ms)

-- ---- one slab

-- how slab i counts
abbrev slab : ℕ → Slots → ℕ → List ℕ
slab cap s i = counted_by s.words (suc i) (part cap s.marks i)

record Swept (cap : ℕ) (s s' : Slots) (k n : ℕ) : Type 0 where
  marks_long : length s'.marks ≡ length s.marks
  words_long : length s'.words ≡ length s.words
  ids_hint : get_word s'.words hint_words 0 ≡ get_word s.words hint_words 0
  ids_waiting : get_word s'.words waiting_words 0 ≡ get_word s.words waiting_words 0
  swept : (i : ℕ) → k ≤ i → i < k + n → slab cap s' i ≡ map let_go (slab cap s i)
  outside : (i : ℕ) → i < slabs → (i < k) ⊎ (k + n ≤ i) → slab cap s' i ≡ slab cap s i

swept_fits : {cap : ℕ} {s s' : Slots} {k n : ℕ} → Fits cap s → Swept cap s s' k n → Fits cap s'
swept_fits f e = record { low = f.low; high = f.high; marks_long = e.marks_long ∙ f.marks_long; words_long = e.words_long ∙ f.words_long }

sweep_one : (cap : ℕ) (s : Slots) (k : ℕ) → Fits cap s → k < slabs → Swept cap s (release_slab cap k s) k 1
sweep_one cap s k f hk = record {
  marks_long = length_put_part cap s.marks k p inside fits;
  words_long = released_long g (suc k) ms (omega arith) w;
  ids_hint = else hint_words 0 (omega arith) (omega arith) (omega arith) (omega arith);
  ids_waiting = else waiting_words 0 (omega arith) (omega arith) (omega arith) (omega arith);
  swept = λ i a b. let e : i ≡ k = omega arith in subst (λ x. slab cap (release_slab cap k s) x ≡ map let_go (slab cap s x)) (sym e) here;
  outside = λ i b o. there i b (λ e. away i e o);
}
  where
    g : List ℕ
    g = s.words

    ms : List ℕ
    ms = part cap s.marks k

    w : ℕ
    w = get_word g waiting_words (suc k)

    p : List ℕ
    p = released_marks (get_word g hint_words (suc k)) w ms

    inside : k * cap + cap ≤ length s.marks
    inside = (part_long cap s f k hk).0

    fits : length p ≡ cap
    fits = go w ∙ (part_long cap s f k hk).1
      where
        go : (w : ℕ) → length (released_marks (get_word g hint_words (suc k)) w ms) ≡ length ms
        go zero = refl
        go (suc w) = length-map (hinted (get_word g hint_words (suc k)) ms) let_go ∙ hinted_length (get_word g hint_words (suc k)) ms

    else : (kind b : ℕ) → 3 ≤ kind → kind ≤ 4 → b < 79 → b ≢ suc k → get_word (released_words g (suc k) w ms) kind b ≡ get_word g kind b
    else = released_else g (suc k) ms (omega arith) w

    here : slab cap (release_slab cap k s) k ≡ map let_go (slab cap s k)
    here = ap (λ x. counted_by (released_words g (suc k) w ms) (suc k) x) (part_put_part cap s.marks k p inside fits)
        ∙ released_read g (suc k) ms (omega arith) f.words_long

    there : (i : ℕ) → i < slabs → i ≢ k → slab cap (release_slab cap k s) i ≡ slab cap s i
    there i b n = λ q. counted (else hint_words (suc i) (omega arith) (omega arith) (omega arith) (omega arith) q)
        (else waiting_words (suc i) (omega arith) (omega arith) (omega arith) (omega arith) q) (part_put_part_other cap s.marks k p inside fits i n q)

    away : (i : ℕ) → i ≡ k → (i < k) ⊎ (k + 1 ≤ i) → ⊥
    away i e (inl h) = omega arith
    away i e (inr h) = omega arith

-- ---- all slabs

sweep : (cap n k : ℕ) (s : Slots) → Fits cap s → k + n ≤ slabs → Swept cap s (release_slabs cap n k s) k n
unfolding release_slabs
sweep cap zero k s f h = record {
  marks_long = refl;
  words_long = refl;
  ids_hint = refl;
  ids_waiting = refl;
  swept = λ i a b. absurd (omega arith);
  outside = λ i b o. refl;
}
sweep cap (suc n) k s f h =
    let a = sweep_one cap s k f (omega arith) in
    let b = sweep cap n (suc k) (release_slab cap k s) (swept_fits f a) (omega arith) in
    record {
      marks_long = b.marks_long ∙ a.marks_long;
      words_long = b.words_long ∙ a.words_long;
      ids_hint = b.ids_hint ∙ a.ids_hint;
      ids_waiting = b.ids_waiting ∙ a.ids_waiting;
      swept = λ i c d. join a b i c d (ℕ_discrete i k);
      outside = λ i c o. past a b i c o;
    }
  where
    s₁ : Slots
    s₁ = release_slab cap k s

    s₂ : Slots
    s₂ = release_slabs cap n (suc k) s₁

    join : Swept cap s s₁ k 1 → Swept cap s₁ s₂ (suc k) n → (i : ℕ) → k ≤ i → i < k + suc n → Dec (i ≡ k) → slab cap s₂ i ≡ map let_go (slab cap s i)
    join a b i c d (yes e) = b.outside i (omega arith) (inl (omega arith)) ∙ a.swept i c (omega arith)
    join a b i c d (no e) = b.swept i (omega arith) (omega arith) ∙ ap (map let_go) (a.outside i (omega arith) (inr (omega arith)))

    past : Swept cap s s₁ k 1 → Swept cap s₁ s₂ (suc k) n → (i : ℕ) → i < slabs → (i < k) ⊎ (k + suc n ≤ i) → slab cap s₂ i ≡ slab cap s i
    past a b i c (inl e) = b.outside i c (inl (omega arith)) ∙ a.outside i c (inl e)
    past a b i c (inr e) = b.outside i c (inr (omega arith)) ∙ a.outside i c (inr (omega arith))

-- the freed counters, by the table R that was read before
sweep_tallies : (cap n k : ℕ) (s : Slots) (R : List ℕ) → Fits cap s → k + n ≤ slabs → ((i : ℕ) → k ≤ i → i < k + n → part cap R i ≡ slab cap s i)
    → tallies_of (release_slabs cap n k s).words ≡ tallies_from (tallies_of s.words).granted (bump_pending cap R n k (tallies_of s.words).freed)
    (tallies_of s.words).used (tallies_of s.words).high
unfolding release_slabs bump_pending
sweep_tallies cap zero k s R f h r = refl
sweep_tallies cap (suc n) k s R f h r =
    let a = sweep_one cap s k f (omega arith) in
    sweep_tallies cap n (suc k) (release_slab cap k s) R (swept_fits f a) (omega arith)
    (λ i b c. r i (omega arith) (omega arith) ∙ sym (a.outside i (omega arith) (inr (omega arith))))
    ∙ ap (λ (t : Tallies). tallies_from t.granted (bump_pending cap R n (suc k) t.freed) t.used t.high)
    (released_tallies s.words (suc k) (part cap s.marks k) (omega arith)
    ∙ ap (λ x. freeing s.words (suc k) (part cap s.marks k) (omega arith) (count_if is_pending x)) (sym (r k (omega arith) (omega arith))))

-- ---- release

pub read_release : (m : Memory) → Fits m.slots (slots_of m) → read (memory_release m) ≡ after_release (read m)
unfolding read
read_release m f = λ i. store_of m.ids cap
    (((λ j. counted (q.ids_hint j) (q.ids_waiting j) (released_marks (get_word g hint_words 0) (get_word g waiting_words 0) m.id_marks)) ∙ released_read g 0
    m.id_marks (omega arith) f.words_long) i) m.locations (slots_after i) m.owners (batch_of m.batch) (tallies_after i) m.carried
  where
    cap : ℕ
    cap = m.slots

    g : List ℕ
    g = m.tallies

    s₁ : Slots
    s₁ = slots_of (release_ids m)

    f₁ : Fits cap s₁
    f₁ = record {
      low = f.low;
      high = f.high;
      marks_long = f.marks_long;
      words_long = released_long g 0 m.id_marks (omega arith)
          (get_word g waiting_words 0) ∙ f.words_long;
    }

    s₂ : Slots
    s₂ = release_slabs cap slabs 0 s₁

    q : Swept cap s₁ s₂ 0 slabs
    q = sweep cap slabs 0 s₁ f₁ (omega arith)

    -- the ids' release leaves the slots as they count
    R : List ℕ
    R = counted_slabs cap g slabs 0 m.slot_marks

    same : slots_read cap s₁ ≡ R
    same = counted_slabs_words cap g s₁.words slabs 0 m.slot_marks
        (λ a b. (
          released_else g 0 m.id_marks (omega arith) (get_word g waiting_words 0) hint_words (suc a) (omega arith) (omega arith) (omega arith) (omega arith),
          released_else g 0 m.id_marks (omega arith) (get_word g waiting_words 0) waiting_words (suc a) (omega arith) (omega arith) (omega arith) (omega arith),
        ))

    by_slab : (i : ℕ) → i < slabs → part cap R i ≡ slab cap s₁ i
    by_slab i b = ap (λ x. part cap x i) (sym same) ∙ slab_read cap s₁ f₁ i b

    long : length R ≡ slabs * cap
    long = length_counted_slabs cap g slabs 0 m.slot_marks ∙ f.marks_long

    slots_after : slots_read cap s₂ ≡ map let_go R
    slots_after = ext_parts cap slabs _ _ f.low (length_counted_slabs cap s₂.words slabs 0 s₂.marks ∙ q.marks_long ∙ f.marks_long)
        (length-map R let_go ∙ long)
        (λ i b. slab_read cap s₂ (swept_fits f₁ q) i b ∙ q.swept i (omega arith) (omega arith) ∙ ap (map let_go) (sym (by_slab i b)) ∙ sym (part_map cap let_go R i))

    tallies_after : tallies_of s₂.words ≡ (after_release (read m)).tallies
    tallies_after =
        sweep_tallies cap slabs 0 s₁ R f₁ (omega arith) (λ i a b. by_slab i (omega arith))
        ∙ ap (λ (t : Tallies). tallies_from t.granted (bump_pending cap R slabs 0 t.freed) t.used t.high)
        (released_tallies g 0 m.id_marks (omega arith))
