-- Laws of the passes over rows: one row more, and the end. Assumes nothing.
use mathlib.Core.Path.{◌≡◌, refl, ap, sym, ◌∙◌}
use mathlib.Core.Bool.{Bool, true, false, cond}
use mathlib.Core.Logic.{◌⊎◌, inl, inr}
use mathlib.Core.List.{List, [], ◌∷◌}
use Prim.Native.Nat.{ℕ, suc, ◌+◌, ◌-◌, ◌/◌, ◌%◌, ◌<◌, ◌≤◌}
use native.Mathlib.Numerals.{add-one}
use native.Mathlib.Omega.{arith}
use lib.Dec.{eqb}
use lib.ListN.{length, get_or, set, take, drop, replicate, drop_of_length-le, length-set}
use lib.Seq.{drop-cons}
use borrow.Author.Tests.{eqb-true}
use Rattle.refusal.specs.Refusals.{refusal, out_of_range}
use Rattle.address.specs.Address.{bad_slots, unit, is_location, unpacked}
use Rattle.model.specs.Store.{Row}
use Rattle.model.specs.Rebuild.{rows_of}
use Rattle.rebuild_rows.specs.Checks.{wrong_in, wrong_or, first_wrong, groups, group_of, bit_of, with_bit, marked, repeats_at, marked_by, repeat_in, repeats_from}
use Rattle.refusal.specs.declared.Refusal.{Refusal}
use Rattle.refusal.specs.declared.Kind.{Kind}
use Rattle.address.specs.declared.SlabAddress.{SlabAddress}
use Rattle.std.specs.Prelude.{Result, Ok, Err, Option, Some, None, ⊤}

-- ---- unpacking tells locations

-- whether there is an address
abbrev pub is_at : Result (Option SlabAddress) Refusal → Bool
is_at (Ok (Some a)) = true
is_at (Ok None) = false
is_at (Err r) = false

pub is_at_unpacked : (slots l : ℕ) → bad_slots slots ≡ false → is_at (unpacked slots l) ≡ is_location slots l
unfolding unpacked
is_at_unpacked slots l b = rw b (go (eqb l 0) refl (is_location slots l) refl)
  where
    go : (z : Bool) → eqb l 0 ≡ z → (v : Bool) → is_location slots l ≡ v
        → is_at (cond z (Ok None) (cond v (Ok (Some (record { slab = l / unit - 1; slot = l % unit }))) (Err (refusal out_of_range 0)))) ≡ v
    go true e v f = let q : l ≡ 0 = eqb-true l 0 e in ap (is_location slots) (sym q) ∙ f
    go false e true f = refl
    go false e false f = refl

-- ---- rows

-- past the last row
pub rows_end : (is ls : List ℕ) → (length is ≡ 0) ⊎ (length ls ≡ 0) → rows_of is ls ≡ []
rows_end [] ls e = refl
rows_end (i ∷ is) [] e = refl
rows_end (i ∷ is) (l ∷ ls) (inl e) = absurd (omega arith)
rows_end (i ∷ is) (l ∷ ls) (inr e) = absurd (omega arith)

module _ (ids slots : ℕ) (seen : List ℕ) (i : ℕ) (r : Row) (rs : List Row) where
  -- what is said where the first of them is wrong in a way, or in none
  abbrev told : Option Kind → Result ⊤ Refusal
  told o = wrong_or o i (first_wrong ids slots (set seen r.0 1) (i + 1) rs)

  pub first_wrong_here : {o : Option Kind} {k : Kind} → o ≡ wrong_in ids slots seen r.0 r.1 → o ≡ Some k
      → first_wrong ids slots seen i (r ∷ rs) ≡ Err (refusal k i)
  unfolding first_wrong
  first_wrong_here q z = ap told (sym q ∙ z)

  pub first_wrong_next : {o : Option Kind} → o ≡ wrong_in ids slots seen r.0 r.1 → o ≡ None
      → first_wrong ids slots seen i (r ∷ rs) ≡ first_wrong ids slots (set seen r.0 1) (i + 1) rs
  unfolding first_wrong
  first_wrong_next q z = ap told (sym q ∙ z)

pub first_wrong_end : (ids slots : ℕ) (seen : List ℕ) (i : ℕ) → first_wrong ids slots seen i [] ≡ Ok tt
unfolding first_wrong
first_wrong_end ids slots seen i = refl

-- ---- repeat_in

pub length_marked_by : (g : ℕ) (marks : List ℕ) (l : ℕ) → length (marked_by g marks l) ≡ length marks
unfolding marked_by
length_marked_by g marks l = go (eqb (group_of l) g)
  where
    go : (b : Bool) → length (cond b (marked marks l) marks) ≡ length marks
    go true = length-set marks (l % unit) (with_bit (get_or marks (l % unit) 0) (bit_of l))
    go false = refl

module _ (g : ℕ) (marks ls : List ℕ) (i : ℕ) where
  repeat_in_turn : i < length ls → repeat_in g marks i (drop i ls)
      ≡ cond (repeats_at g marks (get_or ls i 0)) i (repeat_in g (marked_by g marks (get_or ls i 0)) (i + 1) (drop (i + 1) ls))
  unfolding repeat_in
  repeat_in_turn h = ap (repeat_in g marks i) (drop-cons ls i 0 h)
      ∙ ap (λ n. cond (repeats_at g marks (get_or ls i 0)) i (repeat_in g (marked_by g marks (get_or ls i 0)) (i + 1) (drop n ls))) (sym (add-one i))

  pub repeat_in_here : i < length ls → repeats_at g marks (get_or ls i 0) ≡ true → repeat_in g marks i (drop i ls) ≡ i
  repeat_in_here h b = repeat_in_turn h ∙ rw b

  pub repeat_in_next : i < length ls → repeats_at g marks (get_or ls i 0) ≡ false
      → repeat_in g marks i (drop i ls) ≡ repeat_in g (marked_by g marks (get_or ls i 0)) (i + 1) (drop (i + 1) ls)
  repeat_in_next h b = repeat_in_turn h ∙ rw b

  pub repeat_in_end : length ls ≤ i → repeat_in g marks i (drop i ls) ≡ i
  unfolding repeat_in
  repeat_in_end h = ap (repeat_in g marks i) (drop_of_length-le ls h)

-- ---- repeats_from

pub repeats_from_turn : (slots : ℕ) (ls : List ℕ) (g end : ℕ) → g < groups
    → repeats_from slots ls (groups - g) g end ≡ repeats_from slots ls (groups - (g + 1)) (g + 1) (repeat_in g (replicate slots 0) 0 (take end ls))
unfolding repeats_from
repeats_from_turn slots ls g end h = let e : groups - g ≡ suc (groups - (g + 1)) = omega arith in ap (λ n. repeats_from slots ls n g end) e

pub repeats_from_end : (slots : ℕ) (ls : List ℕ) (g end : ℕ) → groups ≤ g → repeats_from slots ls (groups - g) g end ≡ end
unfolding repeats_from
repeats_from_end slots ls g end h = let e : groups - g ≡ 0 = omega arith in ap (λ n. repeats_from slots ls n g end) e
