-- Repeated locations group by group. A location that repeats an earlier one repeats it within its own group, so the first repeat of all is the
-- least of the groups' first repeats; each pass looks only before the best one found. A slab and a slot have a bit of their own in the marks
-- of their group, so a location changes what the marks say of itself and of no other. Assumes nothing.
use mathlib.Core.Path.{◌≡◌, refl, ap, sym, ◌∙◌}
use mathlib.Core.Logic.{◌⊎◌, inl, inr, ◌≢◌}
use mathlib.Core.Bool.{Bool, true, false, cond, ◌&&◌}
use mathlib.Core.List.{List, [], ◌∷◌}
use Prim.Native.Nat.{ℕ, zero, suc, ◌+◌, ◌%◌, ◌<◌, ◌≤◌, min}
use native.Mathlib.Decide.{ℕ_discrete}
use native.Mathlib.Nat.{not-suc-le-zero, le_of_suc-le-suc}
use native.Mathlib.Omega.{arith}
use lib.Dec.{eqb}
use lib.ListN.{length, get_or, take, replicate, length-replicate}
use lib.Seq.{get_or-set_same, get_or-set_other}
use borrow.Author.Tests.{eqb-true, eq-eqb}
use Rattle.refusal.proofs.Tests.{and_true, clash, contradiction}
use Rattle.list_parts.specs.Lists.{elem}
use Rattle.list_parts.proofs.Lists.{elem_head, elem_tail, elem_cases}
use Rattle.address.specs.Address.{unit, is_location}
use Rattle.model.proofs.Lists.{zeros, set_cases}
use Rattle.model.proofs.Locations.{is_location_says}
use Rattle.rebuild_rows.proofs.Bits.{has_bit_zero, with_bit_same, with_bit_other}
use Rattle.rebuild_rows.proofs.Turns.{length_marked_by}
use Rattle.rebuild_rows.specs.Checks.{groups, group_of, bit_of, has_bit, with_bit, is_marked, marked, repeats_at, marked_by, repeat_in, repeats_from}

-- the first location that is among those before it; past the last where there is none
abbrev pub first_repeat : List ℕ → ℕ → List ℕ → ℕ
first_repeat before i [] = i
first_repeat before i (l ∷ ls) = cond (elem l before) i (first_repeat (l ∷ before) (i + 1) ls)

pub first_repeat_ge : (before : List ℕ) (i : ℕ) (ls : List ℕ) → i ≤ first_repeat before i ls
first_repeat_ge before i [] = omega arith
first_repeat_ge before i (l ∷ ls) = go (elem l before) (first_repeat_ge (l ∷ before) (i + 1) ls)
  where
    go : (b : Bool) → i + 1 ≤ first_repeat (l ∷ before) (i + 1) ls → i ≤ cond b i (first_repeat (l ∷ before) (i + 1) ls)
    go true h = omega arith
    go false h = omega arith

pub first_repeat_le : (before : List ℕ) (i : ℕ) (ls : List ℕ) → first_repeat before i ls ≤ i + length ls
first_repeat_le before i [] = omega arith
first_repeat_le before i (l ∷ ls) = go (elem l before) (first_repeat_le (l ∷ before) (i + 1) ls)
  where
    go : (b : Bool) → first_repeat (l ∷ before) (i + 1) ls ≤ i + 1 + length ls → cond b i (first_repeat (l ∷ before) (i + 1) ls) ≤ i + suc (length ls)
    go true h = omega arith
    go false h = omega arith

-- ---- one group

pub repeat_in_ge : (g : ℕ) (marks : List ℕ) (i : ℕ) (ls : List ℕ) → i ≤ repeat_in g marks i ls
unfolding repeat_in
repeat_in_ge g marks i [] = omega arith
repeat_in_ge g marks i (l ∷ ls) = go (repeats_at g marks l) (repeat_in_ge g (marked_by g marks l) (i + 1) ls)
  where
    go : (b : Bool) → i + 1 ≤ repeat_in g (marked_by g marks l) (i + 1) ls → i ≤ cond b i (repeat_in g (marked_by g marks l) (i + 1) ls)
    go true h = omega arith
    go false h = omega arith

-- among the first e
pub repeat_in_take : (g : ℕ) (marks : List ℕ) (i e : ℕ) (ls : List ℕ) → e ≤ length ls → repeat_in g marks i (take e ls) ≡ min (i + e) (repeat_in g marks i ls)
unfolding repeat_in
repeat_in_take g marks i zero ls h = let r = repeat_in_ge g marks i ls in omega arith
repeat_in_take g marks i (suc e) [] h = absurd (not-suc-le-zero h)
repeat_in_take g marks i (suc e) (l ∷ ls) h = go (repeats_at g marks l) (repeat_in_take g (marked_by g marks l) (i + 1) e ls (le_of_suc-le-suc h))
  where
    go : (b : Bool) → repeat_in g (marked_by g marks l) (i + 1) (take e ls) ≡ min (i + 1 + e) (repeat_in g (marked_by g marks l) (i + 1) ls)
        → cond b i (repeat_in g (marked_by g marks l) (i + 1) (take e ls)) ≡ min (i + suc e) (cond b i (repeat_in g (marked_by g marks l) (i + 1) ls))
    go true q = omega arith
    go false q = omega arith

-- ---- what a location changes

-- another location of its group is of another slot or of another bit
marked_other : (marks : List ℕ) (l x : ℕ) → group_of x ≡ group_of l → x ≢ l → is_marked (marked marks l) x ≡ is_marked marks x
marked_other marks l x e n = go (ℕ_discrete (x % unit) (l % unit)) (set_cases marks (l % unit) mark (x % unit))
  where
    old : ℕ
    old = get_or marks (l % unit) 0

    mark : ℕ
    mark = with_bit old (bit_of l)

    go : Dec (x % unit ≡ l % unit) → (get_or (marked marks l) (x % unit) 0 ≡ mark) ⊎ (get_or (marked marks l) (x % unit) 0 ≡ get_or marks (x % unit) 0)
        → is_marked (marked marks l) x ≡ is_marked marks x
    go (no d) c = ap (λ m. has_bit m (bit_of x)) (get_or-set_other marks (l % unit) (x % unit) mark 0 d)
    go (yes s) (inl q) =
        ap (λ m. has_bit m (bit_of x)) q ∙ with_bit_other old (bit_of l) (bit_of x) (λ b. n (omega arith)) ∙ ap (λ j. has_bit (get_or marks j 0) (bit_of x)) (sym s)
    go (yes s) (inr q) = ap (λ m. has_bit m (bit_of x)) q

marked_by_other : (g : ℕ) (marks : List ℕ) (l x : ℕ) → x ≢ l → repeats_at g (marked_by g marks l) x ≡ repeats_at g marks x
unfolding repeats_at marked_by
marked_by_other g marks l x n = go (eqb (group_of l) g) refl (eqb (group_of x) g) refl
  where
    go : (b : Bool) → eqb (group_of l) g ≡ b → (a : Bool) → eqb (group_of x) g ≡ a
        → (a && is_marked (cond b (marked marks l) marks) x) ≡ (a && is_marked marks x)
    go false p a q = refl
    go true p false q = refl
    go true p true q = marked_other marks l x (eqb-true (group_of x) g q ∙ sym (eqb-true (group_of l) g p)) n

marked_by_same : (g : ℕ) (marks : List ℕ) (l : ℕ) → group_of l ≡ g → l % unit < length marks → repeats_at g (marked_by g marks l) l ≡ true
unfolding repeats_at marked_by
marked_by_same g marks l e h =
    let old = get_or marks (l % unit) 0 in
    rw (eq-eqb (group_of l) g e) (ap (λ m. has_bit m (bit_of l)) (get_or-set_same marks (l % unit) (with_bit old (bit_of l)) 0 h) ∙ with_bit_same old (bit_of l))

-- a location that repeats, by the marks: it is before
abbrev Told : ℕ → List ℕ → List ℕ → Type 0
Told g marks before = (x : ℕ) → repeats_at g marks x ≡ true → elem x before ≡ true

-- a location before: by the marks of its group it repeats
abbrev Kept : ℕ → ℕ → List ℕ → List ℕ → Type 0
Kept slots g marks before = (x : ℕ) → group_of x ≡ g → x % unit < slots → elem x before ≡ true → repeats_at g marks x ≡ true

told_none : (g n : ℕ) → Told g (replicate n 0) []
unfolding repeats_at
told_none g n x h =
    absurd (contradiction (and_true (eqb (group_of x) g) (is_marked (replicate n 0) x) h).1
    (ap (λ m. has_bit m (bit_of x)) (zeros n (x % unit)) ∙ has_bit_zero (bit_of x)))

told_next : (g : ℕ) (marks before : List ℕ) (l : ℕ) → Told g marks before → Told g (marked_by g marks l) (l ∷ before)
told_next g marks before l t x h = go (ℕ_discrete x l)
  where
    go : Dec (x ≡ l) → elem x (l ∷ before) ≡ true
    go (yes q) = elem_head x l before q
    go (no n) = elem_tail x l before (t x (sym (marked_by_other g marks l x n) ∙ h))

kept_next : (slots g : ℕ) (marks before : List ℕ) (l : ℕ) → length marks ≡ slots → Kept slots g marks before → Kept slots g (marked_by g marks l) (l ∷ before)
kept_next slots g marks before l len t x e h m = go (ℕ_discrete x l) (elem_cases x l before m)
  where
    go : Dec (x ≡ l) → (x ≡ l) ⊎ (elem x before ≡ true) → repeats_at g (marked_by g marks l) x ≡ true
    go (yes q) c = ap (λ y. repeats_at g (marked_by g marks y) x) (sym q) ∙ marked_by_same g marks x e (rw len h)
    go (no n) (inl q) = absurd (n q)
    go (no n) (inr c) = marked_by_other g marks l x n ∙ t x e h c

-- no group's first repeat comes before the first of all
pub repeat_before : (g : ℕ) (marks before : List ℕ) (i : ℕ) (ls : List ℕ) → Told g marks before → first_repeat before i ls ≤ repeat_in g marks i ls
unfolding repeat_in
repeat_before g marks before i [] t = omega arith
repeat_before g marks before i (l ∷ ls) t =
    go (elem l before) refl (repeats_at g marks l) refl (repeat_before g (marked_by g marks l) (l ∷ before) (i + 1) ls (told_next g marks before l t))
  where
    go : (a : Bool) → elem l before ≡ a → (b : Bool) → repeats_at g marks l ≡ b → first_repeat (l ∷ before) (i + 1) ls ≤ repeat_in g (marked_by g marks l) (i + 1) ls
        → cond a i (first_repeat (l ∷ before) (i + 1) ls) ≤ cond b i (repeat_in g (marked_by g marks l) (i + 1) ls)
    go true e true f h = omega arith
    go true e false f h = let r = repeat_in_ge g (marked_by g marks l) (i + 1) ls in omega arith
    go false e true f h = absurd (contradiction (t l f) e)
    go false e false f h = h

-- ---- the group of the first repeat

abbrev pub places : ℕ → List ℕ → Bool
places slots [] = true
places slots (l ∷ ls) = is_location slots l && places slots ls

-- a group whose first repeat comes no later than f
record Found (marks : ℕ → List ℕ) (i : ℕ) (ls : List ℕ) (f : ℕ) : Type 0 where
  group : ℕ
  low : group < groups
  here : repeat_in group (marks group) i ls ≤ f

later : (g : ℕ) (marks : List ℕ) (i l : ℕ) (ls : List ℕ) → repeat_in g marks i (l ∷ ls) ≤ repeat_in g (marked_by g marks l) (i + 1) ls
unfolding repeat_in
later g marks i l ls = go (repeats_at g marks l)
  where
    go : (b : Bool) → cond b i (repeat_in g (marked_by g marks l) (i + 1) ls) ≤ repeat_in g (marked_by g marks l) (i + 1) ls
    go true = let r = repeat_in_ge g (marked_by g marks l) (i + 1) ls in omega arith
    go false = omega arith

at_once : (g : ℕ) (marks : List ℕ) (i l : ℕ) (ls : List ℕ) → repeats_at g marks l ≡ true → repeat_in g marks i (l ∷ ls) ≤ i
unfolding repeat_in
at_once g marks i l ls e = rw e (omega arith)

found : (slots : ℕ) (marks : ℕ → List ℕ) (before : List ℕ) (i : ℕ) (ls : List ℕ) → ((g : ℕ) → length (marks g) ≡ slots)
    → ((g : ℕ) → Kept slots g (marks g) before) → places slots ls ≡ true → (first_repeat before i ls ≡ i + length ls) ⊎ Found marks i ls (first_repeat before i ls)
found slots marks before i [] len t p = inl (omega arith)
found slots marks before i (l ∷ ls) len t p =
    go (elem l before) refl
    (found slots (λ g. marked_by g (marks g) l) (l ∷ before) (i + 1) ls (λ g. length_marked_by g (marks g) l ∙ len g)
    (λ g. kept_next slots g (marks g) before l (len g) (t g)) (and_true (is_location slots l) (places slots ls) p).1)
  where
    go : (b : Bool) → elem l before ≡ b
        → (first_repeat (l ∷ before) (i + 1) ls ≡ i + 1 + length ls) ⊎ Found (λ g. marked_by g (marks g) l) (i + 1) ls (first_repeat (l ∷ before) (i + 1) ls)
        → (cond b i (first_repeat (l ∷ before) (i + 1) ls) ≡ i + suc (length ls)) ⊎ Found marks i (l ∷ ls) (cond b i (first_repeat (l ∷ before) (i + 1) ls))
    go true e r =
        let v = is_location_says slots l (and_true (is_location slots l) (places slots ls) p).0 in
        inr (record {
          group = group_of l;
          low = omega (arith, v.high);
          here = at_once (group_of l) (marks (group_of l)) i l ls (t (group_of l) l refl v.slot e);
        })
    go false e (inl q) = inl (omega arith)
    go false e (inr r) = inr (record {
      group = r.group;
      low = r.low;
      here = let h = later r.group (marks r.group) i l ls in let f = r.here in omega arith;
    })

-- ---- all groups

record Least (slots : ℕ) (ls : List ℕ) (f n g e out : ℕ) : Type 0 where
  from : f ≤ out
  to : out ≤ e
  each : (j : ℕ) → g ≤ j → j < g + n → out ≤ repeat_in j (replicate slots 0) 0 ls

least : (slots : ℕ) (ls : List ℕ) (f : ℕ) → ((g : ℕ) → f ≤ repeat_in g (replicate slots 0) 0 ls) → (n g e : ℕ) → e ≤ length ls → f ≤ e
    → Least slots ls f n g e (repeats_from slots ls n g e)
unfolding repeats_from
least slots ls f all zero g e le h = record { from = h; to = omega arith; each = λ j a b. absurd (omega arith) }
least slots ls f all (suc n) g e le h =
    let q = repeat_in_take g (replicate slots 0) 0 e ls le in
    let a = all g in
    let r = least slots ls f all n (g + 1) (repeat_in g (replicate slots 0) 0 (take e ls)) (omega arith) (omega arith) in
    let t = r.to in
    record { from = r.from; to = omega arith; each = λ j x y. go j x y (ℕ_discrete j g) r q t }
  where
    out : ℕ
    out = repeats_from slots ls n (g + 1) (repeat_in g (replicate slots 0) 0 (take e ls))

    go : (j : ℕ) → g ≤ j → j < g + suc n → Dec (j ≡ g) → Least slots ls f n (g + 1) (repeat_in g (replicate slots 0) 0 (take e ls)) out
        → repeat_in g (replicate slots 0) 0 (take e ls) ≡ min (0 + e) (repeat_in g (replicate slots 0) 0 ls) → out ≤ repeat_in g (replicate slots 0) 0 (take e ls)
        → out ≤ repeat_in j (replicate slots 0) 0 ls
    go j x y (yes p) r q t = rw p (omega arith)
    go j x y (no p) r q t = r.each j (omega arith) (omega arith)

pub repeats_are : (slots : ℕ) (ls : List ℕ) → places slots ls ≡ true → repeats_from slots ls groups 0 (length ls) ≡ first_repeat [] 0 ls
repeats_are slots ls p =
    go (found slots (λ g. replicate slots 0) [] 0 ls (λ g. length-replicate {A = ℕ} slots 0) (λ g x e h m. clash (sym m)) p)
  where
    f : ℕ
    f = first_repeat [] 0 ls

    l : Least slots ls f groups 0 (length ls) (repeats_from slots ls groups 0 (length ls))
    l = least slots ls f (λ g. repeat_before g (replicate slots 0) [] 0 ls (told_none g slots)) groups 0 (length ls) (omega arith) (omega (arith, first_repeat_le [] 0 ls))

    go : (f ≡ 0 + length ls) ⊎ Found (λ g. replicate slots 0) 0 ls f → repeats_from slots ls groups 0 (length ls) ≡ f
    go (inl e) = let a = l.from in let b = l.to in omega arith
    go (inr r) = let a = l.from in let b = l.each r.group (omega arith) r.low in let d = r.here in omega arith
