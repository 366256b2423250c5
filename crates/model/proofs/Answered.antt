-- What a verdict makes of a store, and what an answer tells of the memory after its call: the answer says whether the call was granted, and
-- with it what the tables hold. Assumes nothing.
use mathlib.Core.Path.{◌≡◌, refl, sym, ap, ◌∙◌}
use Prim.Native.Nat.{ℕ}
use mathlib.Core.Bool.{Bool, true, false}
use Rattle.refusal.specs.declared.Kind.{Kind}
use Rattle.refusal.specs.Outcomes.{granted, refused}
use Rattle.refusal.proofs.Tests.{clash}
use Rattle.model.specs.Memory.{Memory, read}
use Rattle.model.specs.MemoryAfter.{memory_effect, memory_after}
use Rattle.model.specs.Step.{refusal, grant, effect, next, answer, answer_by, unless}
use Rattle.model.specs.Store.{Store, Call, Answer}
use Rattle.model.specs.Verdict.{Verdict, ok, refuse}

-- ---- by the verdict

pub next_granted : (s : Store) (c : Call) → refusal s c ≡ ok → next s c ≡ effect s c
unfolding next
next_granted s c e = ap (λ w. unless w s (effect s c)) e

pub next_refused : (s : Store) (c : Call) (n : Kind) (i : ℕ) → refusal s c ≡ refuse n i → next s c ≡ s
unfolding next
next_refused s c n i e = ap (λ w. unless w s (effect s c)) e

-- ---- by the answer

-- whether an answer is a refusal
abbrev pub is_refusal : Answer → Bool
is_refusal (granted g) = false
is_refusal (refused n i) = true

-- a refused call
pub refused_after : (m : Memory) (c : Call) (a : Answer) → a ≡ answer (read m) c → is_refusal a ≡ true → memory_after m c ≡ m
unfolding answer memory_after
refused_after m c a e r = go (refusal (read m) c) e
  where
    go : (v : Verdict) → a ≡ answer_by v (grant (read m) c) → unless v m (memory_effect m c) ≡ m
    go ok e = clash (sym r ∙ (λ i. is_refusal (e i)))
    go (refuse n i) e = refl

-- a granted call
pub record Granted (m : Memory) (c : Call) (a : Answer) : Type 0 where
  pub fine : refusal (read m) c ≡ ok
  pub given : a ≡ granted (grant (read m) c)
  pub after : memory_after m c ≡ memory_effect m c

pub granted_after : (m : Memory) (c : Call) (a : Answer) → a ≡ answer (read m) c → is_refusal a ≡ false → Granted m c a
unfolding answer memory_after
granted_after m c a e r = go (refusal (read m) c) refl e
  where
    go : (v : Verdict) → refusal (read m) c ≡ v → a ≡ answer_by v (grant (read m) c) → Granted m c a
    go ok p e = record { fine = p; given = e; after = λ i. unless (p i) m (memory_effect m c) }
    go (refuse n i) p e = clash ((λ j. is_refusal (sym e j)) ∙ r)
