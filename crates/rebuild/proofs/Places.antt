-- Where a location's row is written: its slab's part, its slot, and its slab's used word. Assumes nothing.
use mathlib.Core.Path.{◌≡◌, refl, ap, sym, ◌∙◌}
use mathlib.Core.Bool.{Bool, true, false, cond}
use mathlib.Core.List.{List}
use Prim.Native.Nat.{ℕ, ◌+◌, ◌*◌, ◌/◌, ◌%◌, ◌≤◌, ◌<◌, ◌^◌, pred}
use native.Mathlib.Nat.{mul-le-mul_right}
use native.Mathlib.Omega.{arith}
use lib.ListN.{length, length-set}
use Rattle.address.specs.Address.{bad_slots, unit, is_location, unpacked, slabs}
use Rattle.address.specs.declared.SlabAddress.{SlabAddress}
use Rattle.address.proofs.Laws.{slots_range, unpacked_at}
use Rattle.model.specs.Memory.{put_word, used_words, word_at}
use Rattle.model.specs.Tables.{slot_place, write}
use Rattle.model.proofs.Writes.{write_none}
use Rattle.tables.proofs.LawsEntries.{else_is}
use Rattle.refusal.specs.declared.Refusal.{Refusal}
use Rattle.rebuild_rows.proofs.Turns.{is_at, is_at_unpacked}
use Rattle.std.specs.Prelude.{Result, Ok, Option, Some}

pub record Place (slots location : ℕ) (a : SlabAddress) : Type 0 where
  pub is : is_location slots location ≡ true
  pub top : a.slab + 1 ≡ location / unit
  pub entry : a.slab * slots + a.slot ≡ slot_place slots location
  pub fits : a.slab * slots + a.slot < 2 ^ 32
  pub few : a.slab < slabs

pub place : (slots l : ℕ) (a : SlabAddress) → unpacked slots l ≡ Ok (Some a) → Place slots l a
place slots l a e =
    let c = unpacked_at slots l a e in
    let r = slots_range slots c.capacity in
    let w = c.whole in
    let b = c.slab_lt in
    let t = c.slot_lt in
    let h : a.slab ≤ slabs = omega arith in
    let k = mul-le-mul_right slots h in
    let s : a.slab ≡ pred (l / unit) = omega arith in
    let n : a.slot ≡ l % unit = omega arith in
    record {
      is = sym (is_at_unpacked slots l c.capacity) ∙ ap is_at e;
      top = omega arith;
      entry = λ i. s i * slots + n i;
      fits = omega arith;
      few = b;
    }

pub length_used : (slots l : ℕ) (g : List ℕ) → length (cond (is_location slots l) (put_word g used_words (l / unit) 1) g) ≡ length g
length_used slots l g = go (is_location slots l)
  where
    go : (b : Bool) → length (cond b (put_word g used_words (l / unit) 1) g) ≡ length g
    go true = length-set g (word_at used_words (l / unit)) 1
    go false = refl

-- a number that is no location writes nothing
pub none_written : (slots l id : ℕ) (marks owners g : List ℕ) (u : Result (Option SlabAddress) Refusal) → bad_slots slots ≡ false → u ≡ unpacked slots l
    → ((a : SlabAddress) → u ≡ Ok (Some a) → ⊥)
    → (marks ≡ write slots l 1 marks) × (owners ≡ write slots l id owners) × (g ≡ cond (is_location slots l) (put_word g used_words (l / unit) 1) g)
none_written slots l id marks owners g u good q none =
    let e = sym (is_at_unpacked slots l good) ∙ ap is_at (sym q) ∙ else_is is_at false refl (λ r. refl) u none in
    (sym (write_none slots l 1 marks e), sym (write_none slots l id owners e), sym (ap (λ b. cond b (put_word g used_words (l / unit) 1) g) e))
