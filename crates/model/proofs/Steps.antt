-- What is read after one step on the slots: a slot taken, made pending or given back, a slab released. Each changes one slab, and the law of
-- its allocator says how that slab counts then. Assumes nothing.
use mathlib.Core.Path.{ap, ◌≡◌, refl, ◌∙◌, sym}
use mathlib.Core.Logic.{◌≢◌}
use mathlib.Core.List.{List, map}
use Prim.Native.Nat.{ℕ, ◌≤◌, ◌*◌, ◌<◌, suc, ◌+◌, zero}
use native.Mathlib.Nat.{zero-add}
use native.Mathlib.Omega.{arith}
use lib.ListN.{length, set, length-set, length-map}
use Rattle.list_parts.specs.Parts.{put_part, part}
use Rattle.list_parts.proofs.Parts.{length_put_part, part_put_part_other, part_put_part, part_here, part_there, part_end, length_part_full}
use Rattle.address.specs.Address.{slabs}
use Rattle.id_allocator.specs.Counted.{counted, hinted, settle, quiet}
use Rattle.marks.specs.Marks.{first_free, smallest_free, let_go, count_if, is_pending}
use Rattle.id_allocator.specs.Written.{hint_back, given_back}
use Rattle.id_allocator.proofs.LawsCounted.{counted_take, counted_smallest_free, counted_first_pending, counted_pending, counted_give_back, counted_length, counted_quiet_release, counted_release}
use Rattle.model.specs.Memory.{get_word, counted_slabs, hint_words, waiting_words, counted_by, put_word, used_words, granted_words, word_at, freed_words}
use Rattle.model.specs.MemoryAfter.{Slots, took_slot, pended_slot, set_slot, ready_by, gave_slot, released_words, released_marks}
use Rattle.model.specs.Tables.{bump}
use Rattle.model.proofs.Slabs.{part_counted_slabs, length_counted_slabs, counted_slabs_step}
use Rattle.model.proofs.Writes.{length_bump}
use Rattle.model.proofs.Words.{word_other, word_bump, word_same}

-- the tables have their lengths
pub record Fits (cap : ℕ) (s : Slots) : Type 0 where
  pub low : 1 ≤ cap
  pub high : cap ≤ 65536
  pub marks_long : length s.marks ≡ slabs * cap
  pub words_long : length s.words ≡ 473

-- the slots' marks as they count
abbrev pub slots_read : ℕ → Slots → List ℕ
slots_read cap s = counted_slabs cap s.words slabs 0 s.marks

-- what a step leaves: the lengths, how the ids' marks count, and the marks that are read
pub record Stepped (cap : ℕ) (s s' : Slots) (u : List ℕ) : Type 0 where
  pub marks_long : length s'.marks ≡ length s.marks
  pub words_long : length s'.words ≡ length s.words
  pub ids_hint : get_word s'.words hint_words 0 ≡ get_word s.words hint_words 0
  pub ids_waiting : get_word s'.words waiting_words 0 ≡ get_word s.words waiting_words 0
  pub slots_read_lem : slots_read cap s' ≡ u

pub still : (cap : ℕ) (s : Slots) → Stepped cap s s (slots_read cap s)
still cap s = record { marks_long = refl; words_long = refl; ids_hint = refl; ids_waiting = refl; slots_read_lem = refl }

pub fits_on : {cap : ℕ} {s s' : Slots} {u : List ℕ} → Fits cap s → Stepped cap s s' u → Fits cap s'
fits_on f e = record { low = f.low; high = f.high; marks_long = e.marks_long ∙ f.marks_long; words_long = e.words_long ∙ f.words_long }

pub slab_read : (cap : ℕ) (s : Slots) → Fits cap s → (k : ℕ) → k < slabs → part cap (slots_read cap s) k ≡ counted_by s.words (suc k) (part cap s.marks k)
slab_read cap s f k h = let z : 0 + k ≡ k = omega arith in rw z at (part_counted_slabs cap s.words slabs 0 s.marks k f.marks_long h)

pub part_long : (cap : ℕ) (s : Slots) → Fits cap s → (k : ℕ) → k < slabs → (k * cap + cap ≤ length s.marks) × (length (part cap s.marks k) ≡ cap)
part_long cap s f k h =
    let a : k * cap + cap ≤ length s.marks = rw f.marks_long (part_end cap slabs k h) in
    (a, length_part_full cap s.marks k a)

-- ---- slot j of slab k

module _ (cap : ℕ) (s : Slots) (k j : ℕ) (f : Fits cap s) (hk : k < 78) (hj : j < cap) where
  abbrev ms : List ℕ
  ms = part cap s.marks k

  -- the slab with the slot written, seen in the table that is read
  there : (v : ℕ) → part cap (set (slots_read cap s) (k * cap + j) v) k ≡ set (counted_by s.words (suc k) ms) j v
  there v = part_here cap (slots_read cap s) k j v hj ∙ ap (λ x. set x j v) (slab_read cap s f k hk)

  long : (v : ℕ) → length (set (slots_read cap s) (k * cap + j) v) ≡ slabs * cap
  long v = length-set (slots_read cap s) (k * cap + j) v ∙ length_counted_slabs cap s.words slabs 0 s.marks ∙ f.marks_long

  -- words and marks change in this slab alone
  abbrev Apart : List ℕ → List ℕ → Type 0
  Apart g t = ((kind b : ℕ) → kind ≤ 4 → 3 ≤ kind → b < 79 → b ≢ suc k → get_word g kind b ≡ get_word s.words kind b)
      × ((i : ℕ) → i ≢ k → part cap t i ≡ part cap s.marks i)

  slot_step : (s' : Slots) (v : ℕ) → length s'.marks ≡ length s.marks → length s'.words ≡ length s.words → Apart s'.words s'.marks
      → counted_by s'.words (suc k) (part cap s'.marks k) ≡ set (counted_by s.words (suc k) ms) j v
      → Stepped cap s s' (set (slots_read cap s) (k * cap + j) v)
  slot_step s' v lm lw h here = record {
    marks_long = lm;
    words_long = lw;
    ids_hint = h.0 3 0 (omega arith) (omega arith) (omega arith) (omega arith);
    ids_waiting = h.0 4 0 (omega arith) (omega arith) (omega arith) (omega arith);
    slots_read_lem = counted_slabs_step cap s.words s'.words s.marks s'.marks (set (slots_read cap s) (k * cap + j) v) k f.low
        f.marks_long (lm ∙ f.marks_long) (long v) (λ i b n. h.1 i n)
        (λ i b n. (h.0 3 (suc i) (omega arith) (omega arith) (omega arith) (omega arith), h.0 4 (suc i) (omega arith) (omega arith) (omega arith) (omega arith)))
        (λ i b n. part_there cap (slots_read cap s) k j v i hj n)
        (here ∙ sym (there v));
  }

  -- ---- taken: the smallest free slot, so that the hint can move past it

  pub took_read : j ≡ first_free (part cap (slots_read cap s) k) → Stepped cap s (took_slot cap s (suc k) j) (set (slots_read cap s) (k * cap + j) 1)
  took_read least = slot_step (took_slot cap s (suc k) j) 1 (length-set s.marks (k * cap + j) 1) (simp length-set) (
    (λ kind b h₁ h₂ h₃ n.
        word_other (put_word g used_words (suc k) 1) hint_words (suc k) (j + 1) kind b (omega arith)
        ∙ word_other g used_words (suc k) 1 kind b (omega arith)
        ∙ word_bump s.words granted_words (suc k) 1 kind b (omega arith)),
    λ i n. part_there cap s.marks k j 1 i hj n,
  )
      (ap (λ x. counted_by (took_slot cap s (suc k) j).words (suc k) x) (part_here cap s.marks k j 1 hj)
      ∙ (λ i. counted (hint i) (waits i) (set ms j 1))
      ∙ counted_take (get_word s.words hint_words (suc k)) (get_word s.words waiting_words (suc k)) ms 0 j (omega arith) first)
    where
      g : List ℕ
      g = bump s.words (word_at granted_words (suc k)) 1

      hint : get_word (took_slot cap s (suc k) j).words hint_words (suc k) ≡ j + 1
      hint = word_same (put_word g used_words (suc k) 1) hint_words (suc k) (j + 1) (simp (length-set, f.words_long) (omega arith))

      waits : get_word (took_slot cap s (suc k) j).words waiting_words (suc k) ≡ get_word s.words waiting_words (suc k)
      waits = word_other (put_word g used_words (suc k) 1) hint_words (suc k) (j + 1) waiting_words (suc k) (omega arith)
          ∙ word_other g used_words (suc k) 1 waiting_words (suc k) (omega arith)
          ∙ word_bump s.words granted_words (suc k) 1 waiting_words (suc k) (omega arith)

      first : j ≡ smallest_free 0 (hinted (get_word s.words hint_words (suc k)) ms)
      first =
          least ∙ ap first_free (slab_read cap s f k hk) ∙ sym (zero-add (first_free (counted_by s.words (suc k) ms)))
          ∙ counted_smallest_free (get_word s.words hint_words (suc k)) (get_word s.words waiting_words (suc k)) ms 0

  -- ---- made pending: where nothing waited the old 2s are settled first

  pub pended_read : Stepped cap s (pended_slot cap s (suc k) j) (set (slots_read cap s) (k * cap + j) 2)
  pended_read = go (get_word s.words waiting_words (suc k)) refl
    where
      h : ℕ
      h = get_word s.words hint_words (suc k)

      go : (w : ℕ) → get_word s.words waiting_words (suc k) ≡ w → Stepped cap s (set_slot cap (ready_by cap k s w) k j 2) (set (slots_read cap s) (k * cap + j) 2)
      go zero e = slot_step (set_slot cap (ready_by cap k s 0) k j 2) 2
          (length-set (put_part cap s.marks k (map settle ms)) (k * cap + j) 2 ∙ length_put_part cap s.marks k (map settle ms) inside settled)
          (length-set s.words _ 1) (
            (λ kind b h₁ h₂ h₃ n. word_other s.words waiting_words (suc k) 1 kind b (omega arith)),
            λ i n. part_there cap (put_part cap s.marks k (map settle ms)) k j 2 i hj n ∙ part_put_part_other cap s.marks k (map settle ms) inside settled i n,
          )
          (ap (λ x. counted_by (put_word s.words waiting_words (suc k) 1) (suc k) x)
          (part_here cap (put_part cap s.marks k (map settle ms)) k j 2 hj ∙ ap (λ x. set x j 2) (part_put_part cap s.marks k (map settle ms) inside settled))
          ∙ (λ i. counted (word_other s.words waiting_words (suc k) 1 hint_words (suc k) (omega arith) i)
          (word_same s.words waiting_words (suc k) 1 (rw f.words_long (omega arith)) i) (set (map settle ms) j 2))
          ∙ counted_first_pending h ms j
          ∙ λ i. set (counted h (sym e i) ms) j 2)
        where
          inside : k * cap + cap ≤ length s.marks
          inside = (part_long cap s f k hk).0

          settled : length (map settle ms) ≡ cap
          settled = length-map ms settle ∙ (part_long cap s f k hk).1
      go (suc w) e = slot_step (set_slot cap s k j 2) 2 (length-set s.marks (k * cap + j) 2) refl
          ((λ kind b h₁ h₂ h₃ n. refl), λ i n. part_there cap s.marks k j 2 i hj n)
          (ap (λ x. counted_by s.words (suc k) x) (part_here cap s.marks k j 2 hj)
          ∙ (λ i. counted h (e i) (set ms j 2)) ∙ counted_pending h w ms j ∙ λ i. set (counted h (sym e i) ms) j 2)

  -- ---- given back

  pub gave_read : Stepped cap s (gave_slot cap s (suc k) j) (set (slots_read cap s) (k * cap + j) 0)
  gave_read = slot_step (gave_slot cap s (suc k) j) 0 (length_put_part cap s.marks k back inside fits) (simp length-set) (
    (λ kind b h₁ h₂ h₃ n.
        word_other g hint_words (suc k) (hint_back h j ms) kind b (omega arith) ∙ word_bump s.words freed_words (suc k) 1 kind b (omega arith)),
    λ i n. part_put_part_other cap s.marks k back inside fits i n,
  )
      (ap (λ x. counted_by (gave_slot cap s (suc k) j).words (suc k) x) (part_put_part cap s.marks k back inside fits)
      ∙ (λ i. counted (word_same g hint_words (suc k) (hint_back h j ms) (simp (length-set, f.words_long) (omega arith)) i)
      ((word_other g hint_words (suc k) (hint_back h j ms) waiting_words (suc k) (omega arith)
      ∙ word_bump s.words freed_words (suc k) 1 waiting_words (suc k) (omega arith)) i) back)
      ∙ counted_give_back h w ms j)
    where
      h : ℕ
      h = get_word s.words hint_words (suc k)

      w : ℕ
      w = get_word s.words waiting_words (suc k)

      back : List ℕ
      back = given_back h j ms

      g : List ℕ
      g = bump s.words (word_at freed_words (suc k)) 1

      inside : k * cap + cap ≤ length s.marks
      inside = (part_long cap s f k hk).0

      fits : length back ≡ cap
      fits =
          sym (counted_length (hint_back h j ms) w back) ∙ ap length (counted_give_back h w ms j)
          ∙ length-set (counted h w ms) j 0 ∙ counted_length h w ms ∙ (part_long cap s f k hk).1

-- ---- released

pub loud : (h w : ℕ) (ms : List ℕ) → counted h (suc w) ms ≡ hinted h ms
unfolding counted quiet
loud h w ms = refl

-- how an allocator's marks count after a release
pub released_read : (g : List ℕ) (a : ℕ) (ms : List ℕ) → a < 79 → length g ≡ 473
    → counted_by (released_words g a (get_word g waiting_words a) ms) a (released_marks (get_word g hint_words a) (get_word g waiting_words a) ms) ≡ map let_go (counted_by g a ms)
released_read g a ms ha lg = go (get_word g waiting_words a) refl
  where
    h : ℕ
    h = get_word g hint_words a

    go : (w : ℕ) → get_word g waiting_words a ≡ w → counted_by (released_words g a w ms) a (released_marks h w ms) ≡ map let_go (counted_by g a ms)
    go zero e = (λ i. counted h (e i) ms) ∙ sym (counted_quiet_release h ms) ∙ λ i. map let_go (counted h (sym e i) ms)
    go (suc w) e =
        (λ i. counted (hint i) (waits i) (map let_go (hinted h ms))) ∙ ap (λ x. counted 0 0 (map let_go x)) (sym (loud h w ms))
        ∙ counted_release h w ms ∙ λ i. map let_go (counted h (sym e i) ms)
      where
        g₁ : List ℕ
        g₁ = bump g (word_at freed_words a) (count_if is_pending (hinted (get_word g hint_words a) ms))

        hint : get_word (put_word (put_word g₁ hint_words a 0) waiting_words a 0) hint_words a ≡ 0
        hint = word_other (put_word g₁ hint_words a 0) waiting_words a 0 hint_words a (omega arith)
            ∙ word_same g₁ hint_words a 0 (simp (length_bump, lg) (omega arith))

        waits : get_word (put_word (put_word g₁ hint_words a 0) waiting_words a 0) waiting_words a ≡ 0
        waits = word_same (put_word g₁ hint_words a 0) waiting_words a 0 (simp (length-set, length_bump, lg) (omega arith))
