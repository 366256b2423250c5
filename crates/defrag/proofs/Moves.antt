-- The rows by the lent tables are the model's moves. A slab's marks count by its own words, and neither the tip nor the live slots tell
-- pending from held. Assumes nothing.
use mathlib.Core.Path.{◌≡◌, refl, ap, sym, ◌∙◌}
use mathlib.Core.Bool.{Bool, true, false, ◌&&◌}
use mathlib.Core.List.{List, [], ◌++◌}
use Prim.Native.Nat.{ℕ, zero, suc, ◌+◌, ◌-◌, ◌*◌, ◌<◌, ◌≤◌}
use native.Mathlib.Omega.{arith}
use lib.Dec.{ltb, eqb}
use lib.ListN.{length, get_or, take, drop}
use lib.Seq.{drop-cons}
use lib.Ieee.{Float}
use Rattle.list_parts.proofs.Parts.{part_end}
use Rattle.address.specs.Address.{packing, slabs}
use Rattle.marks.specs.Marks.{is_taken, count_if}
use Rattle.fragmentation.specs.Cutoff.{cutoff}
use Rattle.model.specs.Store.{Store, Row}
use Rattle.model.specs.Tables.{slab_tip, live}
use Rattle.model.specs.Defrag.{cons_if, movable, moves_in, slab_moves, moves_from, all_moves}
use Rattle.model.specs.Memory.{Memory, read}
use Rattle.tables.proofs.LawsSlabs.{live_read, tip_read}
use Rattle.defrag.specs.Listed.{row_of, listed_of, marks_of, tip_in, span_of, slab_rows, listed_from}
use Rattle.defrag.proofs.Spans.{span_in}

-- ---- of a slab

cons_if_append : (b : Bool) (r : Row) (rs : List Row) → cons_if b r rs ≡ cons_if b r [] ++ rs
cons_if_append true r rs = refl
cons_if_append false r rs = refl

moves_are : (s : Store) → length s.locations ≡ s.ids → (k j n : ℕ) → k * s.slots + j + n ≤ length s.owners
    → listed_of s.locations (packing k j) (take n (drop (k * s.slots + j) s.owners)) ≡ moves_in s k j n
unfolding listed_of row_of
moves_are s len k j zero h = refl
moves_are s len k j (suc n) h =
    ap (λ os. listed_of s.locations (packing k j) (take (suc n) os)) (drop-cons s.owners (k * s.slots + j) 0 (omega arith))
    ∙ ap (λ rs. row_of s.locations (packing k j) o ++ rs) (rw (up, at) (moves_are s len k (suc j) n (omega arith)))
    ∙ one
  where
    o : ℕ
    o = get_or s.owners (k * s.slots + j) 0

    up : packing k j + 1 ≡ packing k (suc j)
    up = omega arith

    at : suc (k * s.slots + j) ≡ k * s.slots + suc j
    at = omega arith

    one : row_of s.locations (packing k j) o ++ moves_in s k (suc j) n ≡ moves_in s k j (suc n)
    one = ap (λ x. cons_if (ltb 0 o && ltb o x && eqb (get_or s.locations o 0) (packing k j)) (o, packing k j) [] ++ moves_in s k (suc j) n) len
        ∙ sym (cons_if_append (movable s k j o) (o, packing k j) (moves_in s k (suc j) n))

module _ (m : Memory) (r : Float) (low : 1 ≤ m.slots) (locations : length m.locations ≡ m.ids)
    (marks : length m.slot_marks ≡ slabs * m.slots) (owners : length m.owners ≡ slabs * m.slots) where
  tip_is : (k : ℕ) → k < slabs → tip_in m.slots m.slot_marks m.tallies k ≡ slab_tip (read m) k
  tip_is k h = sym (tip_read m k h marks)

  live_is : (k : ℕ) → k < slabs → count_if is_taken (marks_of m.slots m.slot_marks m.tallies k) ≡ live (read m) k
  live_is k h = sym (live_read m k h marks)

  slab_moves_lem : (k : ℕ) → k < slabs → slab_rows m.slots m.locations m.slot_marks m.owners m.tallies r k ≡ slab_moves (read m) r k (slab_tip (read m) k)
  unfolding slab_rows span_of read
  slab_moves_lem k h =
      let s = span_in m.slots m.slot_marks m.tallies k low h marks r in
      let t = tip_in m.slots m.slot_marks m.tallies k in
      let f = cutoff (count_if is_taken (marks_of m.slots m.slot_marks m.tallies k)) t r in
      moves_are (read m) locations k f (t - f) (omega (arith, part_end m.slots slabs k h))
      ∙ (λ i. moves_in (read m) k (cutoff (live_is k h i) (tip_is k h i) r) (tip_is k h i - cutoff (live_is k h i) (tip_is k h i) r))

  rows_from : (n k : ℕ) → k + n ≤ slabs → listed_from m.slots m.locations m.slot_marks m.owners m.tallies r n k ≡ moves_from (read m) r n k
  unfolding listed_from moves_from
  rows_from zero k h = refl
  rows_from (suc n) k h =
      let e : k + 1 ≡ suc k = omega arith in
      λ i. slab_moves_lem k (omega arith) i ++ (ap (listed_from m.slots m.locations m.slot_marks m.owners m.tallies r n) e ∙ rows_from n (suc k) (omega arith)) i

  pub rows_are : listed_from m.slots m.locations m.slot_marks m.owners m.tallies r slabs 0 ≡ all_moves (read m) r
  rows_are = rows_from slabs 0 (omega arith)
