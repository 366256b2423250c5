-- How many ids are held or pending after one is granted, after the pending are let go, and after rows are rebuilt. One weighted count drives
-- each: a mark changed changes the count by what the new mark weighs less the old. Assumes nothing.
use mathlib.Core.Path.{◌≡◌, ◌∙◌, sym, refl}
use mathlib.Core.Bool.{Bool, true, cond, false}
use mathlib.Core.List.{List, ◌∷◌, [], map}
use Prim.Native.Nat.{ℕ, ◌<◌, suc, ◌+◌, zero}
use native.Mathlib.Nat.{not-suc-le-zero}
use native.Mathlib.Omega.{arith}
use lib.Dec.{eqb-suc-zero, ltb}
use lib.ListN.{length, get_or, drop, set, length-set, replicate, length-replicate}
use lib.Seq.{get_or-set_other}
use borrow.Author.Tests.{eqb-true, ltb-true}
use Rattle.refusal.proofs.Tests.{and_true}
use Rattle.list_parts.specs.Lists.{elem}
use Rattle.list_parts.proofs.Lists.{elem_not}
use Rattle.marks.specs.Marks.{count_if, is_taken, first_free, hold, is_free, let_go, is_pending}
use Rattle.marks.proofs.LawsCount.{weight, count_if_set, count_if_cons}
use Rattle.marks.proofs.LawsFree.{first_free_free}
use Rattle.model.specs.Rebuild.{held_by}
use Rattle.model.specs.Store.{Store, Row}
use Rattle.model.specs.Tables.{ids_of}
use Rattle.model.proofs.Lists.{zeros}
use Rattle.histories.specs.Statements.{held_or_pending}
use Rattle.histories.proofs.KeptRebuild.{Apart}

-- ---- a new id

pub ids_new : (im : List ℕ) (n : ℕ) → n ≡ suc (first_free (drop 1 im)) → n < length im
    → held_or_pending (set (set im n 1) 0 (hold (get_or im 0 0))) ≡ held_or_pending im + cond (is_free (get_or im 0 0)) 2 1
ids_new [] n e h = absurd (not-suc-le-zero h)
ids_new (zero ∷ t) n e h =
    let c = count_if_set is_taken t (first_free t) 1 (omega arith) in
    let c' : held_or_pending (set t (first_free t) 1) + 0 ≡ held_or_pending t + 1 = rw (first_free_free t) at c in
    rw e (omega arith)
ids_new (suc m ∷ t) n e h =
    let c = count_if_set is_taken t (first_free t) 1 (omega arith) in
    let c' : held_or_pending (set t (first_free t) 1) + 0 ≡ held_or_pending t + 1 = rw (first_free_free t) at c in
    rw e (rw (eqb-suc-zero m) (omega arith))

-- ---- marks let go

pub count_if_let_go : (t : List ℕ) → held_or_pending t ≡ held_or_pending (map let_go t) + count_if is_pending t
count_if_let_go [] = refl
count_if_let_go (m ∷ t) = rw (count_if_cons is_taken m t, count_if_cons is_taken (let_go m) (map let_go t), count_if_cons is_pending m t)
    (go (is_pending m) refl (count_if_let_go t))
  where
    go : (b : Bool) → is_pending m ≡ b → held_or_pending t ≡ held_or_pending (map let_go t) + count_if is_pending t
        → weight (is_taken m) + held_or_pending t ≡ weight (is_taken (cond b 0 m)) + held_or_pending (map let_go t) + (weight b + count_if is_pending t)
    go true e h = rw (eqb-true m 2 e) (omega arith)
    go false e h = omega arith

-- ---- rows rebuilt

pub count_zeros : (n : ℕ) → held_or_pending (replicate n 0) ≡ 0
count_zeros zero = refl
count_zeros (suc n) = count_zeros n

-- ids in range, free in t, each once
abbrev pub Spare : List ℕ → List Row → Type 0
Spare t [] = Unit
Spare t (r ∷ rs) = (r.0 < length t) × (get_or t r.0 0 ≡ 0) × (elem r.0 (ids_of rs) ≡ false) × Spare t rs

spare_on : (i : ℕ) (t : List ℕ) (rs : List Row) → elem i (ids_of rs) ≡ false → Spare t rs → Spare (set t i 1) rs
spare_on i t [] e h = tt
spare_on i t (r ∷ rs) e h =
    let n = elem_not i r.0 (ids_of rs) e in
    (rw length-set h.0, get_or-set_other t i r.0 1 0 (λ q. n.0 (sym q)) ∙ h.1, h.2, spare_on i t rs n.1 h.3)

pub count_held_by : (rs : List Row) (t : List ℕ) → Spare t rs → held_or_pending (held_by rs t) ≡ held_or_pending t + length rs
count_held_by [] t h = omega arith
count_held_by (r ∷ rs) t h =
    let c = count_if_set is_taken t r.0 1 h.0 in
    let c' : held_or_pending (set t r.0 1) + 0 ≡ held_or_pending t + 1 = rw h.1 at c in
    let i = count_held_by rs (set t r.0 1) (spare_on r.0 t rs h.2 h.3) in
    omega arith

pub spare_rows : (s : Store) (rs : List Row) → Apart s rs → Spare (replicate s.ids 0) rs
spare_rows s [] a = tt
spare_rows s (r ∷ rs) a = (
  rw (length-replicate {A = ℕ} s.ids 0) (ltb-true r.0 s.ids (and_true (ltb 0 r.0) (ltb r.0 s.ids) a.0).1),
  zeros s.ids r.0,
  a.2,
  spare_rows s rs a.4,
)
