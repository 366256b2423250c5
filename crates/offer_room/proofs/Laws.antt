-- Laws of the room in the slabs, a turn at a time: how many are asked for, and the test slab by slab. A search that fails leaves none free.
-- Assumes nothing.
use mathlib.Core.Bool.{Bool, true, false}
use mathlib.Core.List.{List}
use mathlib.Core.Path.{◌≡◌, sym, ap, ◌∙◌}
use Prim.Native.Nat.{ℕ, suc, ◌+◌, ◌-◌, ◌≤◌, ◌<◌}
use native.Mathlib.Numerals.{add-one}
use native.Mathlib.Omega.{arith}
use lib.Dec.{ltb}
use lib.ListN.{length, get_or, drop, drop_of_length-le}
use lib.Seq.{drop-cons}
use borrow.Author.Tests.{ltb-true, ltb-false}
use Rattle.refusal.specs.Refusals.{none_free}
use Rattle.refusal.proofs.Tests.{by_test}
use Rattle.address.specs.Address.{slabs}
use Rattle.marks.specs.Marks.{is_free, count_if, smallest_free}
use Rattle.marks.proofs.LawsFree.{smallest_free_some}
use Rattle.model.specs.Tables.{bump}
use Rattle.model.specs.Verdict.{ok, refuse, test, ◌⨾◌}
use Rattle.offer_room.specs.Room.{tallied, free_in, room_in}

-- ---- searches
pub none_left : (from : ℕ) (ms : List ℕ) → length ms ≤ smallest_free from ms → count_if is_free (drop from ms) ≡ 0
none_left from ms h =
    by_test (ltb 0 (count_if is_free (drop from ms)))
    (λ t. absurd (omega (arith, smallest_free_some from ms (ltb-true 0 (count_if is_free (drop from ms)) t))))
    (λ t. omega (arith, ltb-false 0 (count_if is_free (drop from ms)) t))

-- ---- how many are asked for
pub tallied_turn : (t t' ks : List ℕ) (i : ℕ) → i < length ks → t' ≡ bump t (0 + get_or ks i 0) 1 → tallied t' (drop (i + 1) ks) ≡ tallied t (drop i ks)
tallied_turn t t' ks i h e =
    let z : 0 + get_or ks i 0 ≡ get_or ks i 0 = omega arith in
    rw (drop-cons ks i 0 h, add-one i) (ap (λ x. tallied x (drop (suc i) ks)) (e ∙ ap (λ k. bump t k 1) z))

pub tallied_end : (t ks : List ℕ) (i : ℕ) → length ks ≤ i → tallied t (drop i ks) ≡ t
tallied_end t ks i h = rw (drop_of_length-le ks h)

-- ---- the test slab by slab
pub room_in_turn : (cap : ℕ) (ms g t : List ℕ) (k : ℕ) → k < slabs
    → room_in cap ms g t (slabs - k) k ≡ (test (ltb (free_in cap ms g k) (get_or t k 0)) none_free k ⨾ room_in cap ms g t (slabs - (k + 1)) (k + 1))
unfolding room_in
room_in_turn cap ms g t k h = let e : slabs - k ≡ suc (slabs - (k + 1)) = omega arith in rw (e, add-one k)

module _ (cap : ℕ) (ms g t : List ℕ) (k n : ℕ) (lacks : Bool) (h : k < slabs) (e : n ≡ get_or t (0 + k) 0) (l : lacks ≡ ltb (free_in cap ms g k) n) where
  told : ltb (free_in cap ms g k) (get_or t k 0) ≡ lacks
  told = let z : 0 + k ≡ k = omega arith in ap (ltb (free_in cap ms g k)) (sym (e ∙ ap (λ x. get_or t x 0) z)) ∙ sym l

  pub room_stop : lacks ≡ true → refuse none_free k ≡ room_in cap ms g t (slabs - k) k
  unfolding test ◌⨾◌
  room_stop b = sym (room_in_turn cap ms g t k h ∙ rw (told ∙ b))

  pub room_on : lacks ≡ false → room_in cap ms g t (slabs - (k + 1)) (k + 1) ≡ room_in cap ms g t (slabs - k) k
  unfolding test ◌⨾◌
  room_on b = sym (room_in_turn cap ms g t k h ∙ rw (told ∙ b))

pub room_end : (cap : ℕ) (ms g t : List ℕ) (k : ℕ) → slabs ≤ k → ok ≡ room_in cap ms g t (slabs - k) k
unfolding room_in
room_end cap ms g t k h = let e : slabs - k ≡ 0 = omega arith in rw e
