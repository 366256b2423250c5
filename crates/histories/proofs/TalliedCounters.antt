-- The counters, modulo 2^64: what one holds after it is raised once, by each of a list of locations, or by what each slab has pending, and
-- that granted less freed then rises or falls with it. Assumes nothing.
use mathlib.Core.Path.{ap, ◌≡◌, ◌∙◌, sym, refl}
use mathlib.Core.Logic.{◌≢◌}
use mathlib.Core.Bool.{Bool, true, cond, false}
use mathlib.Core.List.{List, ◌∷◌, []}
use Prim.Native.Nat.{ℕ, ◌<◌, ◌/◌, suc, ◌+◌, ◌%◌, ◌^◌, zero, ◌≤◌}
use native.Mathlib.Nat.{mod-add-mod, mod-mod, suc-ne-zero}
use native.Mathlib.Decide.{ℕ_discrete}
use native.Mathlib.Omega.{arith}
use lib.Dec.{eqb, eqb-zero-suc}
use lib.ListN.{length, get_or, length-set}
use lib.Seq.{get_or-set_same}
use borrow.Author.Tests.{eqb-true, eqb-false}
use Rattle.list_parts.specs.Lists.{elem}
use Rattle.list_parts.specs.Parts.{part}
use Rattle.list_parts.proofs.Lists.{elem_head, elem_tail}
use Rattle.address.specs.Address.{is_location, unit}
use Rattle.marks.specs.Marks.{count_if, is_pending}
use Rattle.model.specs.Ids.{bump_pending}
use Rattle.model.specs.Tables.{bump, bump_each}
use Rattle.model.proofs.Locations.{is_location_says}
use Rattle.model.proofs.Writes.{bump_other, length_bump}
use Rattle.histories.specs.Statements.{in_slab}

-- ---- sums modulo 2^64

abbrev pub M : ℕ
M = 2 ^ 64

mod_cong : (a b c : ℕ) → a % M ≡ b % M → (a + c) % M ≡ (b + c) % M
mod_cong a b c e = sym (mod-add-mod a M c) ∙ ap (λ x. (x + c) % M) e ∙ mod-add-mod b M c

pub eq_mod : (a b : ℕ) → a ≡ b → a % M ≡ b % M
eq_mod a b e = ap (λ x. x % M) e

-- granted rises as the held or pending do; freed rises as the held or pending fall
pub grant_mod : (g g' f r t d : ℕ) → g' % M ≡ (g + d) % M → (g + r) % M ≡ (f + t) % M → (g' + r) % M ≡ (f + (t + d)) % M
grant_mod g g' f r t d e h =
    mod_cong g' (g + d) r e ∙ eq_mod (g + d + r) (g + r + d) (omega arith) ∙ mod_cong (g + r) (f + t) d h ∙ eq_mod (f + t + d) (f + (t + d)) (omega arith)

pub free_mod : (g f f' r t d : ℕ) → f' % M ≡ (f + d) % M → (g + r) % M ≡ (f + (t + d)) % M → (g + r) % M ≡ (f' + t) % M
free_mod g f f' r t d e h = h ∙ eq_mod (f + (t + d)) (f + d + t) (omega arith) ∙ sym (mod_cong f' (f + d) t e)

-- ---- bump

pub bump_same : (t : List ℕ) (k n : ℕ) → k < length t → get_or (bump t k n) k 0 % M ≡ (get_or t k 0 + n) % M
bump_same t k zero h = eq_mod _ _ (omega arith)
bump_same t k (suc n) h = ap (λ x. x % M) (get_or-set_same t k _ 0 h) ∙ mod-mod (get_or t k 0 + suc n) M

-- ---- bump_each

-- locations, or 0
abbrev pub Ranged : ℕ → List ℕ → Type 0
Ranged cap ls = (l : ℕ) → elem l ls ≡ true → l ≢ 0 → is_location cap l ≡ true

ranged_head : (cap l : ℕ) (ls : List ℕ) → Ranged cap (suc l ∷ ls) → is_location cap (suc l) ≡ true
ranged_head cap l ls r = r (suc l) (elem_head (suc l) (suc l) ls refl) (suc-ne-zero l)

pub bump_each_at : (cap : ℕ) (t ls : List ℕ) (k : ℕ) → Ranged cap ls → suc k < length t
    → get_or (bump_each cap t ls) (suc k) 0 % M ≡ (get_or t (suc k) 0 + count_if (in_slab k) ls) % M
bump_each_at cap t [] k r h = eq_mod _ _ (omega arith)
bump_each_at cap t (zero ∷ ls) k r h =
    bump_each_at cap t ls k (λ l e. r l (elem_tail l 0 ls e)) h
    ∙ ap (λ b. (get_or t (suc k) 0 + cond b (suc (count_if (in_slab k) ls)) (count_if (in_slab k) ls)) % M) (sym (eqb-zero-suc k))
bump_each_at cap t (suc l ∷ ls) k r h =
    ap (λ b. get_or (bump_each cap (cond b (bump t (suc l / unit) 1) t) ls) (suc k) 0 % M) (ranged_head cap l ls r)
    ∙ bump_each_at cap (bump t (suc l / unit) 1) ls k (λ x e. r x (elem_tail x (suc l) ls e)) (rw length-set h) ∙ go (eqb (suc l / unit) (suc k)) refl
  where
    go : (b : Bool) → eqb (suc l / unit) (suc k) ≡ b
        → (get_or (bump t (suc l / unit) 1) (suc k) 0 + count_if (in_slab k) ls) % M ≡ (get_or t (suc k) 0 + cond b (suc (count_if (in_slab k) ls)) (count_if (in_slab k) ls)) % M
    go true e =
        let q : suc l / unit ≡ suc k = eqb-true (suc l / unit) (suc k) e in
        mod_cong (get_or (bump t (suc l / unit) 1) (suc k) 0) (get_or t (suc k) 0 + 1) (count_if (in_slab k) ls) (rw q (bump_same t (suc k) 1 h))
        ∙ eq_mod _ _ (omega arith)
    go false e = ap (λ x. (x + count_if (in_slab k) ls) % M) (bump_other t (suc l / unit) 1 (suc k) (λ q. eqb-false (suc l / unit) (suc k) e (sym q)))

-- no location in range is counted for the ids
pub bump_each_zero : (cap : ℕ) (t ls : List ℕ) → Ranged cap ls → get_or (bump_each cap t ls) 0 0 ≡ get_or t 0 0
bump_each_zero cap t [] r = refl
bump_each_zero cap t (zero ∷ ls) r = bump_each_zero cap t ls (λ l e. r l (elem_tail l 0 ls e))
bump_each_zero cap t (suc l ∷ ls) r =
    let w = is_location_says cap (suc l) (ranged_head cap l ls r) in
    let b : 1 ≤ suc l / unit = w.low in
    ap (λ b. get_or (bump_each cap (cond b (bump t (suc l / unit) 1) t) ls) 0 0) (ranged_head cap l ls r)
    ∙ bump_each_zero cap (bump t (suc l / unit) 1) ls (λ k e. r k (elem_tail k (suc l) ls e))
    ∙ bump_other t (suc l / unit) 1 0 (omega arith)

-- ---- bump_pending

pub bump_pending_low : (cap : ℕ) (ms : List ℕ) (n k : ℕ) (t : List ℕ) (i : ℕ) → i ≤ k → get_or (bump_pending cap ms n k t) i 0 ≡ get_or t i 0
unfolding bump_pending
bump_pending_low cap ms zero k t i h = refl
bump_pending_low cap ms (suc n) k t i h = bump_pending_low cap ms n (suc k) _ i (omega arith) ∙ bump_other t (suc k) (count_if is_pending (part cap ms k)) i (omega arith)

pub bump_pending_at : (cap : ℕ) (ms : List ℕ) (n k : ℕ) (t : List ℕ) (i : ℕ) → k ≤ i → i < k + n → suc i < length t
    → get_or (bump_pending cap ms n k t) (suc i) 0 % M ≡ (get_or t (suc i) 0 + count_if is_pending (part cap ms i)) % M
unfolding bump_pending
bump_pending_at cap ms zero k t i a b h = absurd (omega arith)
bump_pending_at cap ms (suc n) k t i a b h =
    go (ℕ_discrete i k) (λ c. bump_pending_at cap ms n (suc k) t' i c (omega arith) (rw length_bump h))
  where
    t' : List ℕ
    t' = bump t (suc k) (count_if is_pending (part cap ms k))

    go : Dec (i ≡ k) → (suc k ≤ i → get_or (bump_pending cap ms n (suc k) t') (suc i) 0 % M ≡ (get_or t' (suc i) 0 + count_if is_pending (part cap ms i)) % M)
        → get_or (bump_pending cap ms n (suc k) t') (suc i) 0 % M ≡ (get_or t (suc i) 0 + count_if is_pending (part cap ms i)) % M
    go (yes e) f = ap (λ x. x % M) (bump_pending_low cap ms n (suc k) t' (suc i) (omega arith)) ∙ rw e
        (bump_same t (suc k) (count_if is_pending (part cap ms k)) (rw e at h))
    go (no q) f = f (omega arith) ∙ ap (λ x. (x + count_if is_pending (part cap ms i)) % M) (bump_other t (suc k) (count_if is_pending (part cap ms k)) (suc i) (omega arith))
