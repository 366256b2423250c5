-- What the three calls of a batch share: steps on slots (Steps) follow one another, one at a location changes that place of what is read and
-- one at no location nothing, and a batch is shut by its first word. Assumes nothing.
use mathlib.Core.Path.{◌∙◌, ◌≡◌, subst, sym, refl}
use mathlib.Core.Bool.{true, cond, Bool, false}
use mathlib.Core.List.{List, [], ◌∷◌}
use Prim.Native.Nat.{ℕ, ◌<◌, ◌/◌, suc, ◌%◌, ◌*◌, ◌+◌, pred}
use native.Mathlib.Omega.{arith}
use lib.ListN.{set}
use Rattle.address.specs.Address.{is_location, unit}
use Rattle.model.specs.Memory.{batch_of}
use Rattle.model.specs.MemoryAfter.{Slots}
use Rattle.model.specs.Tables.{write, shut}
use Rattle.model.proofs.Steps.{Stepped, slots_read, still}
use Rattle.model.proofs.Locations.{is_location_says}
use Rattle.model.proofs.Writes.{write_set, write_none}

-- ---- steps, one after the other

pub stepped_trans : {cap : ℕ} {s s' s'' : Slots} {u u' : List ℕ} → Stepped cap s s' u → Stepped cap s' s'' u' → Stepped cap s s'' u'
stepped_trans a b = record {
  marks_long = b.marks_long ∙ a.marks_long;
  words_long = b.words_long ∙ a.words_long;
  ids_hint = b.ids_hint ∙ a.ids_hint;
  ids_waiting = b.ids_waiting ∙ a.ids_waiting;
  slots_read_lem = b.slots_read_lem;
}

-- a step at a location: its slab is the one before its allocator's number
module _ (cap : ℕ) (s : Slots) (l v : ℕ) (step : ℕ → ℕ → Slots) where
  pub at_location : is_location cap l ≡ true
      → ((k : ℕ) → k < 78 → l / unit ≡ suc k → l % unit < cap → Stepped cap s (step (suc k) (l % unit)) (set (slots_read cap s) (k * cap + l % unit) v))
      → Stepped cap s (step (l / unit) (l % unit)) (write cap l v (slots_read cap s))
  at_location e f =
      let u = is_location_says cap l e in
      let a : l / unit ≡ suc (pred (l / unit)) = omega (arith, u.low) in
      let x = f (pred (l / unit)) (omega (arith, u.low, u.high)) a u.slot in
      subst (λ y. Stepped cap s (step y (l % unit)) (write cap l v (slots_read cap s))) (sym a)
      (subst (λ y. Stepped cap s (step (suc (pred (l / unit))) (l % unit)) y) (sym (write_set cap l v (slots_read cap s) e)) x)

  pub guarded : (is_location cap l ≡ true → Stepped cap s (step (l / unit) (l % unit)) (write cap l v (slots_read cap s)))
      → Stepped cap s (cond (is_location cap l) (step (l / unit) (l % unit)) s) (write cap l v (slots_read cap s))
  guarded f = go (is_location cap l) refl
    where
      go : (b : Bool) → is_location cap l ≡ b → Stepped cap s (cond b (step (l / unit) (l % unit)) s) (write cap l v (slots_read cap s))
      go true e = f e
      go false e = subst (λ y. Stepped cap s s y) (sym (write_none cap l v (slots_read cap s) e)) (still cap s)

-- ---- what is lent, and the batch

pub batch_shut : (b : List ℕ) → batch_of (set b 0 0) ≡ shut (batch_of b)
batch_shut [] = refl
batch_shut (x ∷ b) = refl
