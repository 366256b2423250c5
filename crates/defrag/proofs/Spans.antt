-- Laws of the slots to look at: the cutoff of a slab is never refused, since its live slots are at most its tip and that at most its slots.
-- Assumes nothing.
use mathlib.Core.Path.{◌≡◌, refl, ap, ◌∙◌}
use mathlib.Core.Bool.{Bool, true, false, cond}
use mathlib.Core.List.{List, [], ◌++◌}
use Prim.Native.Nat.{ℕ, suc, ◌+◌, ◌-◌, ◌*◌, ◌<◌, ◌≤◌}
use native.Mathlib.Nat.{mul-le-mul_left}
use native.Mathlib.Omega.{arith}
use lib.Dec.{ltb}
use native.Mathlib.Numerals.{add-one}
use lib.ListN.{length, take, drop, length-take}
use lib.Ieee.{Float}
use borrow.Author.Tests.{le-ltb, ltb-false, lt-leb}
use Rattle.address.specs.Address.{bad_slots, packed, packing, slabs, location_in, most_slots}
use Rattle.list_parts.specs.Parts.{part}
use Rattle.list_parts.proofs.Parts.{part_end, length_part_full, part_range}
use Rattle.marks.specs.Marks.{is_taken, count_if, tip}
use Rattle.id_allocator.specs.Counted.{hinted}
use Rattle.marks.proofs.LawsCount.{live_le_tip, tip_le}
use Rattle.id_allocator.proofs.LawsHinted.{hinted_length}
use Rattle.fragmentation.specs.Cutoff.{is_ratio, cutoff}
use Rattle.fragmentation.specs.Answer.{cutoff_of}
use Rattle.fragmentation.proofs.LawsCutoff.{cutoff_le}
use Rattle.model.specs.Memory.{get_word, hint_words, used_words}
use Rattle.defrag.specs.Listed.{start_of, marks_of, tip_in, span_of, listed_of, rows_in, slab_rows, listed_from}
use Rattle.defrag.specs.declared.slabs.Span.{Span}
use Rattle.defrag.proofs.Written.{listed_of_le}
use Rattle.std.specs.Prelude.{Ok, Some, None}

-- ---- a slab's part

pub below : (slots k : ℕ) → slots ≤ most_slots → k * slots ≤ k * most_slots
below slots k h = mul-le-mul_left k h

-- ---- the words of a slab

pub marks_are : (slots : ℕ) (marks words : List ℕ) (k hint : ℕ) → hint ≡ get_word words hint_words (k + 1)
    → hinted hint (take (k * slots + slots - k * slots) (drop (k * slots) marks)) ≡ marks_of slots marks words k
marks_are slots marks words k hint e = λ i. hinted ((e ∙ ap (λ n. get_word words hint_words n) (add-one k)) i) (part_range slots marks k i)

pub used_is : (words : List ℕ) (k used : ℕ) → used ≡ get_word words used_words (k + 1) → used ≡ get_word words used_words (suc k)
used_is words k used e = e ∙ ap (λ n. get_word words used_words n) (add-one k)

-- ---- the cutoff

pub start_is : (live tip : ℕ) (r : Float) → live ≤ tip → tip ≤ most_slots → is_ratio r ≡ true → start_of (cutoff_of live tip r) tip ≡ cutoff live tip r
unfolding cutoff_of
start_is live tip r a b q = simp (le-ltb most_slots tip b, le-ltb tip live a, q) (go (ltb (cutoff live tip r) tip) refl)
  where
    go : (x : Bool) → ltb (cutoff live tip r) tip ≡ x → start_of (cond x (Ok (Some (cutoff live tip r))) (Ok None)) tip ≡ cutoff live tip r
    go true e = refl
    go false e = let h = ltb-false (cutoff live tip r) tip e in omega (arith, cutoff_le live tip r)

-- ---- the span of a slab

module _ (slots : ℕ) (marks words : List ℕ) (k : ℕ) (low : 1 ≤ slots) (h : k < slabs) (l : length marks ≡ slabs * slots) where
  pub tip_in_le : tip_in slots marks words k ≤ slots
  tip_in_le =
      let e : length (marks_of slots marks words k) ≡ slots = hinted_length (get_word words hint_words (suc k)) (part slots marks k) ∙ length_part_full slots marks k (rw l (part_end slots slabs k h)) in
      rw e at (tip_le (marks_of slots marks words k) (get_word words used_words (suc k)) (rw e low))

  pub span_in : (r : Float) → ((span_of slots marks words r k).from ≤ (span_of slots marks words r k).tip) × ((span_of slots marks words r k).tip ≤ slots)
  unfolding span_of
  span_in r = (cutoff_le _ _ r, tip_in_le)

  pub span_is : (r : Float) (live top from : ℕ) → slots ≤ most_slots → is_ratio r ≡ true → live ≡ count_if is_taken (marks_of slots marks words k) → top ≡ tip_in slots marks words k
      → from ≡ start_of (cutoff_of live top r) top → record { from = from; tip = top } ≡ span_of slots marks words r k
  unfolding span_of
  span_is r live top from c q el et ef =
      let a : live ≤ top = rw (el, et) (live_le_tip (marks_of slots marks words k) _) in
      let b : top ≤ most_slots = omega (arith, tip_in_le) in
      let f : from ≡ cutoff (count_if is_taken (marks_of slots marks words k)) (tip_in slots marks words k) r = ef ∙ start_is live top r a b q ∙ (λ i. cutoff (el i) (et i) r) in
      λ i. record { from = f i; tip = et i }

-- ---- the rows of a slab

pub first_is : (slots k : ℕ) → 1 ≤ slots → slots ≤ most_slots → k < slabs → location_in (packed slots (record { slab = k; slot = 0 })) ≡ packing k 0
unfolding packed bad_slots
first_is slots k low c h = simp (le-ltb slots 1 low, le-ltb most_slots slots c, lt-leb slabs k h, lt-leb slots 0 low)

module _ (slots : ℕ) (ls marks os words : List ℕ) (r : Float) (k : ℕ) (low : 1 ≤ slots) (h : k < slabs) (l : length marks ≡ slabs * slots)
    (s : Span) (e : s ≡ span_of slots marks words r k) where
  pub span_le : (s.from ≤ s.tip) × (s.tip ≤ slots)
  span_le = rw e (span_in slots marks words k low h l r)

  pub slab_is : (first : ℕ) → first ≡ packing k 0 + s.from
      → listed_of ls first (take (k * slots + s.tip - (k * slots + s.from)) (drop (k * slots + s.from) os)) ≡ slab_rows slots ls marks os words r k
  unfolding slab_rows
  slab_is first f =
      let d : k * slots + s.tip - (k * slots + s.from) ≡ s.tip - s.from = omega arith in
      let g : first ≡ packing k s.from = omega arith in
      (λ i. listed_of ls (g i) (take (d i) (drop (k * slots + s.from) os))) ∙ ap (rows_in slots ls os k) e

-- what keeps sums and parts in range
pub record Near (slots k : ℕ) (s : Span) : Type 0 where
  pub order : s.from ≤ s.tip
  pub within : s.tip ≤ slots
  pub base : k * slots ≤ k * most_slots
  pub end : k * slots + slots ≤ slabs * slots

pub near : (slots : ℕ) (marks words : List ℕ) (r : Float) (k : ℕ) → 1 ≤ slots → slots ≤ most_slots → k < slabs → length marks ≡ slabs * slots
    → {s : Span} → s ≡ span_of slots marks words r k → Near slots k s
near slots marks words r k low c h l {s} e =
    let b = span_le slots [] marks [] words r k low h l s e in
    record { order = b.0; within = b.1; base = below slots k c; end = part_end slots slabs k h }

-- ---- slab by slab

module _ (slots : ℕ) (ls marks os words : List ℕ) (r : Float) where
  pub slab_rows_le : (k : ℕ) → 1 ≤ slots → slots ≤ most_slots → k < slabs → length marks ≡ slabs * slots → length (slab_rows slots ls marks os words r k) ≤ most_slots
  unfolding slab_rows
  slab_rows_le k low c h l =
      let s = span_of slots marks words r k in
      let b = span_in slots marks words k low h l r in
      omega (arith, b.1, listed_of_le ls (packing k s.from) (take (s.tip - s.from) (drop (k * slots + s.from) os)), length-take (s.tip - s.from) (drop (k * slots + s.from) os))

  pub listed_from_turn : (k : ℕ) → k < slabs → listed_from slots ls marks os words r (slabs - k) k ≡ slab_rows slots ls marks os words r k ++ listed_from slots ls marks os words r (slabs - (k + 1)) (k + 1)
  unfolding listed_from
  listed_from_turn k h = let e : slabs - k ≡ suc (slabs - (k + 1)) = omega arith in ap (λ n. listed_from slots ls marks os words r n k) e

  pub listed_from_end : (k : ℕ) → slabs ≤ k → listed_from slots ls marks os words r (slabs - k) k ≡ []
  unfolding listed_from
  listed_from_end k h = let e : slabs - k ≡ 0 = omega arith in ap (λ n. listed_from slots ls marks os words r n k) e
