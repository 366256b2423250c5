-- Laws of a release in two parts, below the hint and from it on. Assumes nothing.
use mathlib.Core.List.{List, [], map, map-append, map-map, append-nil}
use mathlib.Core.Path.{◌≡◌, refl, sym, ap, ◌∙◌}
use Prim.Native.Nat.{ℕ, zero, suc, ◌+◌, ◌-◌, ◌≤◌, min}
use native.Mathlib.Omega.{arith}
use lib.Dec.{eqb-suc-zero}
use lib.ListN.{length, take, drop, length-drop, drop_of_length-le}
use lib.Seq.{take_all}
use borrow.Rule.Slice.PartMut.{put_mid}
use Rattle.marks.specs.Marks.{is_pending, count_if, hold, let_go}
use Rattle.id_allocator.specs.Counted.{hinted}
use Rattle.marks.specs.Turned.{turned, released}
use Rattle.marks.proofs.LawsCount.{count_if_split}
use Rattle.marks.proofs.LawsMapped.{map_same, mapped, mapped_length, mapped_done, mapped_left, mapped_part}
use Rattle.id_allocator.proofs.LawsHinted.{turned_hold, hinted_at, hinted_pending}

turned_zero : (m : ℕ) → turned 0 0 m ≡ m
turned_zero zero = refl
turned_zero (suc m) = rw (eqb-suc-zero m)

-- the part below the hint
pub released_below : (ms ys : List ℕ) (end : ℕ) → ys ≡ map (released 1) (take end ms) → put_mid 0 end ms ys ≡ mapped (released 1) end ms
released_below ms ys end y =
    let n : 0 + end ≡ end = omega arith in
    mapped_part (released 1) ms ms 0 (omega arith) refl end ys y ∙ ap (λ k. mapped (released 1) k ms) n

module _ (hint end : ℕ) (ms now : List ℕ) (h : end ≡ min hint (length ms)) (e : now ≡ mapped (released 1) end ms) where
  in_range : end ≤ length ms
  in_range = omega arith

  same_length : length now ≡ length ms
  same_length = ap length e ∙ mapped_length (released 1) end ms

  -- the rest is as it was
  rest : take (length now - end) (drop end now) ≡ drop end ms
  rest =
      let left = mapped_left (released 1) ms now end in_range e in
      take_all (length now - end) (drop end now) (omega (arith, length-drop end now)) ∙ left

  pub released_count : (below above : ℕ) → below ≡ count_if is_pending (take end ms) → above ≡ count_if is_pending (take (length now - end) (drop end now))
      → below + above ≡ count_if is_pending (hinted hint ms)
  released_count below above b a =
      omega (arith, b, rw rest at a, count_if_split is_pending ms end, hinted_pending hint ms)

  pub released_marks : (ys : List ℕ) → ys ≡ map (released 0) (take (length now - end) (drop end now)) → put_mid end (length now - end) now ys ≡ map let_go (hinted hint ms)
  unfolding hinted
  released_marks ys y =
      let below : take end now ≡ map let_go (map hold (take end ms)) =
      mapped_done (released 1) ms now end in_range e ∙ map_same (released 1) (λ m. let_go (hold m)) (λ m. ap let_go (turned_hold m)) (take end ms) ∙ sym (map-map let_go hold (take end ms)) in
      let above : ys ≡ map let_go (drop end ms) =
      y ∙ ap (map (released 0)) rest ∙ map_same (released 0) let_go (λ m. ap let_go (turned_zero m)) (drop end ms) in
      let none : drop (length now - end) (drop end now) ≡ [] = drop_of_length-le (drop end now) {i = length now - end} (omega (arith, length-drop end now)) in
      rw (below, above, none, append-nil) (sym (ap (map let_go) (hinted_at hint end ms h) ∙ map-append let_go (map hold (take end ms)) (drop end ms)))
