-- Laws of the ids that a test picks: one more id, the end, how many there are, which row is bad first, and a block's worth of them. Assumes nothing.
use mathlib.Core.Bool.{Bool, true, false, not, cond, ◌&&◌}
use mathlib.Core.Path.{◌≡◌, refl, sym, ap, ◌∙◌}
use mathlib.Core.List.{List, [], ◌∷◌, ◌++◌, append-nil}
use Prim.Native.Nat.{ℕ, zero, suc, ◌+◌, ◌-◌, ◌*◌, ◌≤◌, ◌<◌, suc-le-suc}
use native.Mathlib.Nat.{le_of_suc-le-suc}
use native.Mathlib.Numerals.{add-one}
use native.Mathlib.Omega.{arith}
use lib.ListN.{length, get_or, take, drop, set}
use lib.Seq.{take-nil, drop-nil, take-suc-set, take-set-le, append_snoc}
use borrow.Author.Tests.{eq-eqb, ne_eqb}
use Rattle.refusal.specs.Refusals.{refusal, tables_disagree}
use Rattle.refusal.specs.declared.Refusal.{Refusal}
use Rattle.refusal.proofs.Tests.{contradiction}
use Rattle.snapshot_blocks.specs.Blocks.{AreRows}
use Rattle.model.specs.Snapshots.{those_from, snapshot_rows}
use Rattle.model.specs.Verdict.{ok, refuse, test, ◌⨾◌}
use Rattle.tables.specs.Entries.{held_in, bad_in}
use Rattle.snapshot_writer.specs.Writer.{stored_in, not_own}

-- ---- one id
abbrev at_start : (l : List ℕ) (i : ℕ) → get_or l (0 + i) 0 ≡ get_or l i 0
at_start l i = let e : 0 + i ≡ i = omega arith in ap (λ (k : ℕ). get_or l k 0) e

pub stored_not : (ids : ℕ) (marks locations words : List ℕ) (i location : ℕ) → location ≡ get_or locations (0 + i) 0 → location ≡ 0 → false ≡ stored_in ids marks locations words i
unfolding stored_in
stored_not ids marks locations words i location e z = go (held_in ids marks words i) (eq-eqb (get_or locations i 0) 0 (sym (at_start locations i) ∙ sym e ∙ z))
  where
    go : (b : Bool) {t : Bool} → t ≡ true → false ≡ (b && not t)
    go true p = ap not (sym p)
    go false p = refl

pub stored_held : (ids : ℕ) (marks locations words : List ℕ) (i location : ℕ) (held : Bool) → location ≡ get_or locations (0 + i) 0 → (location ≡ 0 → ⊥) → held ≡ held_in ids marks words i
    → held ≡ stored_in ids marks locations words i
unfolding stored_in
stored_held ids marks locations words i location held e z h =
    h ∙ go (held_in ids marks words i) (ne_eqb (get_or locations i 0) 0 (λ q. z (e ∙ at_start locations i ∙ q)))
  where
    go : (b : Bool) {t : Bool} → t ≡ false → b ≡ (b && not t)
    go true p = ap not (sym p)
    go false p = refl

pub bad_own : (slots : ℕ) (locations marks owners words : List ℕ) (i location : ℕ) (stored bad : Bool) → location ≡ get_or locations (0 + i) 0 → stored ≡ true
    → bad ≡ bad_in slots marks owners words i location → bad ≡ (stored && not_own slots locations marks owners words i)
unfolding not_own
bad_own slots locations marks owners words i location stored bad e s h =
    h ∙ ap (λ (l : ℕ). bad_in slots marks owners words i l) (e ∙ at_start locations i) ∙ ap (λ (t : Bool). t && bad_in slots marks owners words i (get_or locations i 0)) (sym s)

-- ---- one more where there is a row
pub after_le : (k i after : ℕ) (t : Bool) → k ≤ i → after ≡ k + cond t 1 0 → after ≤ i + 1
after_le k i after true h e = omega arith
after_le k i after false h e = omega arith

pub after_few : (k after : ℕ) (t : Bool) → k < 5 → after ≡ k + cond t 1 0 → after ≤ 5
after_few k after true h e = omega arith
after_few k after false h e = omega arith

module _ (p : ℕ → Bool) (n i : ℕ) where
  -- ---- those_from
  abbrev pub later : List ℕ
  later = those_from p (n - (i + 1)) (i + 1)

  those_step : i < n → those_from p (n - i) i ≡ cond (p i) (i ∷ later) later
  unfolding those_from
  those_step h = let e : n - i ≡ suc (n - (i + 1)) = omega arith in rw (e, add-one i)

  those_held : (t : Bool) → i < n → t ≡ p i → those_from p (n - i) i ≡ cond t (i ∷ later) later
  those_held t h e = those_step h ∙ ap (λ (b : Bool). cond b (i ∷ later) later) (sym e)

  pub those_done : n ≤ i → those_from p (n - i) i ≡ []
  unfolding those_from
  those_done h = let e : n - i ≡ 0 = omega arith in rw e

  -- ---- how many
  pub count_turn : (k after : ℕ) (t : Bool) → i < n → t ≡ p i → after ≡ k + cond t 1 0 → after + length later ≡ k + length (those_from p (n - i) i)
  count_turn k after t h e a = rw (those_held t h e) (go t a)
    where
      go : (b : Bool) → after ≡ k + cond b 1 0 → after + length later ≡ k + length (cond b (i ∷ later) later)
      go true q = omega arith
      go false q = omega arith

  pub count_done : (k : ℕ) → n ≤ i → k ≡ k + length (those_from p (n - i) i)
  count_done k h = rw (those_done h) (omega arith)

  -- ---- the first bad row
  pub rows_turn : (bad : ℕ → Bool) (row after : ℕ) (t wrong : Bool) → i < n → t ≡ p i → wrong ≡ (t && bad i) → wrong ≡ false → after ≡ row + cond t 1 0
      → snapshot_rows bad after later ≡ snapshot_rows bad row (those_from p (n - i) i)
  unfolding snapshot_rows test ◌⨾◌
  rows_turn bad row after t wrong h e w f a = rw (those_held t h e) (go t (sym w ∙ f) a)
    where
      go : (b : Bool) → (b && bad i) ≡ false → after ≡ row + cond b 1 0 → snapshot_rows bad after later ≡ snapshot_rows bad row (cond b (i ∷ later) later)
      go true f q = let s : after ≡ suc row = omega arith in rw (f, s)
      go false f q = let s : after ≡ row = omega arith in rw s

  pub rows_bad : (bad : ℕ → Bool) (row : ℕ) (t wrong : Bool) → i < n → t ≡ p i → wrong ≡ (t && bad i) → wrong ≡ true
      → refuse tables_disagree row ≡ snapshot_rows bad row (those_from p (n - i) i)
  unfolding snapshot_rows test ◌⨾◌
  rows_bad bad row t wrong h e w f = rw (those_held t h e) (go t (sym w ∙ f))
    where
      go : (b : Bool) → (b && bad i) ≡ true → refuse tables_disagree row ≡ snapshot_rows bad row (cond b (i ∷ later) later)
      go true f = rw f
      go false f = contradiction f refl

  pub rows_done : (bad : ℕ → Bool) (row : ℕ) → n ≤ i → ok ≡ snapshot_rows bad row (those_from p (n - i) i)
  unfolding snapshot_rows
  rows_done bad row h = rw (those_done h)

  -- ---- a block's worth: so many ids in the list, and those that are left, are those of the whole
  abbrev pub Gathering : List ℕ → List ℕ → ℕ → Type 0
  Gathering whole list k = (take 5 whole ≡ take k list ++ take (5 - k) (those_from p (n - i) i)) × (drop 5 whole ≡ drop (5 - k) (those_from p (n - i) i))

  pub gathered_done : (whole list : List ℕ) (k : ℕ) → n ≤ i → Gathering whole list k → (take k list ≡ take 5 whole) × (those_from p (n - i) i ≡ drop 5 whole)
  gathered_done whole list k h g =
      let z = those_done h in (
        sym (g.0 ∙ ap (λ (r : List ℕ). take k list ++ take (5 - k) r) z ∙ ap (λ (r : List ℕ). take k list ++ r) (take-nil (5 - k)) ∙ append-nil (take k list)),
        z ∙ sym (g.1 ∙ ap (drop (5 - k)) z ∙ drop-nil (5 - k)),
      )

  pub gathered_full : (whole list : List ℕ) (k : ℕ) → 5 ≤ k → Gathering whole list k → (take k list ≡ take 5 whole) × (those_from p (n - i) i ≡ drop 5 whole)
  gathered_full whole list k h g =
      let z : 5 - k ≡ 0 = omega arith in (
        sym (g.0 ∙ ap (λ (x : ℕ). take k list ++ take x (those_from p (n - i) i)) z ∙ append-nil (take k list)),
        sym (g.1 ∙ ap (λ (x : ℕ). drop x (those_from p (n - i) i)) z),
      )

pub gathered_turn : (p : ℕ → Bool) (n i : ℕ) (whole list : List ℕ) (k after : ℕ) (t : Bool) → i < n → k < 5 → k < length list → t ≡ p i → after ≡ k + cond t 1 0
    → Gathering p n i whole list k → Gathering p n (i + 1) whole (set list k i) after
gathered_turn p n i whole list k after t h l m e a g =
    let s = those_held p n i t h e in
    go t a (g.0 ∙ ap (λ (r : List ℕ). take k list ++ take (5 - k) r) s) (g.1 ∙ ap (drop (5 - k)) s)
  where
    go : (b : Bool) → after ≡ k + cond b 1 0 → take 5 whole ≡ take k list ++ take (5 - k) (cond b (i ∷ later p n i) (later p n i))
        → drop 5 whole ≡ drop (5 - k) (cond b (i ∷ later p n i) (later p n i)) → Gathering p n (i + 1) whole (set list k i) after
    go true a x y =
        let s : after ≡ suc k = omega arith in
        let u : 5 - k ≡ suc (5 - suc k) = omega arith in
        let x₁ : take 5 whole ≡ take k list ++ i ∷ take (5 - suc k) (later p n i) = rw u at x in
        let y₁ : drop 5 whole ≡ drop (5 - suc k) (later p n i) = rw u at y in
        rw s (x₁ ∙ sym (append_snoc (take k list) i (take (5 - suc k) (later p n i))) ∙ ap (λ (r : List ℕ). r ++ take (5 - suc k) (later p n i)) (sym (take-suc-set list k i m)), y₁)
    go false a x y =
        let s : after ≡ k = omega arith in
        rw s (x ∙ ap (λ (r : List ℕ). r ++ take (5 - k) (later p n i)) (sym (take-set-le k list k i (omega arith))), y)

-- ---- the whole, from id 0
pub those_all : (p : ℕ → Bool) (n : ℕ) → those_from p (n - 0) 0 ≡ those_from p n 0
those_all p n = let z : n - 0 ≡ n = omega arith in rw z

pub count_start : (p : ℕ → Bool) (n : ℕ) → 0 + length (those_from p (n - 0) 0) ≡ length (those_from p n 0)
count_start p n = rw (those_all p n) (omega arith)

pub rows_start : (p : ℕ → Bool) (n : ℕ) (bad : ℕ → Bool) → snapshot_rows bad 0 (those_from p (n - 0) 0) ≡ snapshot_rows bad 0 (those_from p n 0)
rows_start p n bad = ap (snapshot_rows bad 0) (those_all p n)

pub refused_row : (r : Refusal) (row : ℕ) → r ≡ refusal tables_disagree row → refuse r.kind r.index ≡ refuse tables_disagree row
refused_row r row e = λ k. refuse (e k).kind (e k).index

pub those_few : (p : ℕ → Bool) (n i : ℕ) → length (those_from p n i) ≤ n
unfolding those_from
those_few p zero i = omega arith
those_few p (suc n) i = go (p i) (those_from p n (suc i)) (those_few p n (suc i))
  where
    go : (b : Bool) (xs : List ℕ) → length xs ≤ n → length (cond b (i ∷ xs) xs) ≤ suc n
    go true xs h = suc-le-suc h
    go false xs h = omega arith

pub few_rows : (p : ℕ → Bool) (n rows : ℕ) → rows ≡ length (those_from p n 0) → rows ≤ n
few_rows p n rows e = let f = those_few p n 0 in omega arith

-- ---- ids in range
abbrev Below : ℕ → List ℕ → Type 0
Below b l = (k : ℕ) → k < length l → get_or l k 0 < b

below_cons : (b x : ℕ) (xs : List ℕ) → x < b → Below b xs → Below b (x ∷ xs)
below_cons b x xs h f zero l = h
below_cons b x xs h f (suc k) l = f k (le_of_suc-le-suc l)

those_below : (p : ℕ → Bool) (n i b : ℕ) → i + n ≤ b → Below b (those_from p n i)
unfolding those_from
those_below p zero i b h = λ k l. absurd (omega arith)
those_below p (suc n) i b h = go (p i) (those_from p n (suc i)) (those_below p n (suc i) b (omega arith))
  where
    go : (t : Bool) (xs : List ℕ) → Below b xs → Below b (cond t (i ∷ xs) xs)
    go true xs f = below_cons b i xs (omega arith) f
    go false xs f = f

take_below : (b m : ℕ) (l : List ℕ) → Below b l → Below b (take m l)
take_below b zero l f = λ k h. absurd (omega arith)
take_below b (suc m) [] f = λ k h. absurd (omega arith)
take_below b (suc m) (x ∷ xs) f = below_cons b x (take m xs) (f 0 (omega arith)) (take_below b m xs (λ j l. f (suc j) (suc-le-suc l)))

-- the ids of a block are rows of both tables
pub those_rows : (p : ℕ → Bool) (n from : ℕ) (locations carried ids : List ℕ) → from ≤ n → length locations ≡ n → n * 80 ≤ length carried → ids ≡ take 5 (those_from p (n - from) from)
    → AreRows 80 locations carried ids
those_rows p n from locations carried ids h l c e = rw e (λ k r.
    let b : get_or (take 5 (those_from p (n - from) from)) k 0 < n = take_below n 5 (those_from p (n - from) from) (those_below p (n - from) from n (omega arith)) k r in
    (omega arith, omega arith))
